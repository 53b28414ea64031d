-- `runs::byte::inclusive` meets its contract: antt computes the definition at the two bytes, and at every other. Assumes nothing.
use mathlib.Core.Path.{refl}
use mathlib.Core.List.{List, [], ◌∷◌}
use Prim.Native.Nat.{ℕ}
use mir.Val.{has_key}
use borrow.Author.Rules.{rules}
use Rattle.tokens.specs.Sorts.{inclusive}
use Rattle.runs.proofs.Bytes.{listed, rest, in_rest, every, never}
use Rattle.runs.proofs.byte.inclusive.Goals as goal

abbrev keys : List ℕ
keys = 34 ∷ 123 ∷ []

pub returns-in-34 : goal.returns-in-34
unfolding inclusive
returns-in-34 c =
    let b = c.args.b in
    every inclusive (has_key keys) refl b (search rules) (listed keys b c.in-34.is)

pub returns-in_default : goal.returns-in_default
unfolding inclusive
returns-in_default c =
    let b = c.args.b in
    never inclusive (rest (keys ∷ [])) refl b (search rules) (in_rest (keys ∷ []) b c.in_default.in_default-own.rest)
