-- `runs::byte::exclusive` meets its contract: antt computes the definition at every byte that an arm lists, and at every other. The code
-- tells bytes that follow each other by their ends. Assumes nothing.
use mathlib.Core.Path.{refl}
use mathlib.Core.Bool.{◌&&◌}
use mathlib.Core.List.{List, [], ◌∷◌}
use Prim.Native.Nat.{ℕ}
use lib.Dec.{ltb, leb}
use native.Mathlib.Omega.{arith}
use mir.Val.{has_key}
use borrow.Author.Rules.{rules}
use borrow.Author.Tests.{le-leb, lt-ltb}
use Rattle.tokens.specs.Sorts.{exclusive}
use Rattle.runs.proofs.Bytes.{listed, rest, in_rest, every, never}
use Rattle.runs.proofs.byte.exclusive.Goals as goal

abbrev keys : List ℕ
keys = 32 ∷ 35 ∷ 37 ∷ 44 ∷ 59 ∷ 91 ∷ 93 ∷ 125 ∷ []

pub returns-in_default : goal.returns-in_default
unfolding exclusive
returns-in_default c =
    let b = c.args.b in
    never exclusive (λ k. ltb k 9) refl b (search rules) (lt-ltb b 9 (omega arith))

pub returns-in_default-2 : goal.returns-in_default-2
unfolding exclusive
returns-in_default-2 c =
    let b = c.args.b in
    never exclusive (λ k. leb 11 k && (ltb k 40 && rest (keys ∷ []) k)) refl b (search rules)
    (rw (le-leb 11 b (omega arith), lt-ltb b 40 (omega arith)) (in_rest (keys ∷ []) b c.in_default.in_default-own.rest))

pub returns-in_default-3 : goal.returns-in_default-3
unfolding exclusive
returns-in_default-3 c =
    let b = c.args.b in
    never exclusive (λ k. leb 42 k && rest (keys ∷ []) k) refl b (search rules)
    (rw (le-leb 42 b (omega arith)) (in_rest (keys ∷ []) b c.in_default.in_default-own.rest))

pub returns-in-9 : goal.returns-in-9
unfolding exclusive
returns-in-9 c =
    let b = c.args.b in
    every exclusive (has_key keys) refl b (search rules) (listed keys b c.in-9.is)

pub returns-in-9-2 : goal.returns-in-9-2
unfolding exclusive
returns-in-9-2 c =
    let b = c.args.b in
    every exclusive (λ k. leb 9 k && ltb k 11) refl b (search rules)
    (rw (le-leb 9 b (omega arith), lt-ltb b 11 (omega arith)))

pub returns-in-9-3 : goal.returns-in-9-3
unfolding exclusive
returns-in-9-3 c =
    let b = c.args.b in
    every exclusive (λ k. leb 40 k && ltb k 42) refl b (search rules)
    (rw (le-leb 40 b (omega arith), lt-ltb b 42 (omega arith)))
