-- `runs::blank::white` meets its contract: antt computes the definition at each byte that the code lists, and at every other. The code
-- tells bytes that follow each other by their ends. Assumes nothing.
use mathlib.Core.Path.{refl, sym, ap}
use mathlib.Core.Bool.{not, ◌&&◌}
use native.Mathlib.Omega.{arith}
use lib.Dec.{eqb, ltb, leb}
use borrow.Author.Rules.{rules}
use borrow.Author.Tests.{le-leb, lt-ltb, ne_eqb}
use Rattle.tokens.specs.Sorts.{white}
use Rattle.runs.proofs.Bytes.{every, never}
use Rattle.runs.proofs.blank.white.Goals as goal

pub returns-in_default : goal.returns-in_default
unfolding white
returns-in_default c = never white (λ k. ltb k 9) refl c.args.b (search rules) (lt-ltb c.args.b 9 (omega arith))

pub returns-in_default-2 : goal.returns-in_default-2
unfolding white
returns-in_default-2 c =
    let b = c.args.b in
    never white (λ k. leb 11 k && not (eqb k 32)) refl b (search rules) (rw (le-leb 11 b (omega arith), ne_eqb b 32 (omega arith)) refl)

pub returns-in-32 : goal.returns-in-32
unfolding white
returns-in-32 c = ap white (sym c.in-32.is)

pub returns-in-32-2 : goal.returns-in-32-2
unfolding white
returns-in-32-2 c =
    let b = c.args.b in
    every white (λ k. leb 9 k && ltb k 11) refl b (search rules) (rw (le-leb 9 b (omega arith), lt-ltb b 11 (omega arith)) refl)
