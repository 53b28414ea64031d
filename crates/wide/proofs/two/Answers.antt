-- `wide::two` meets its contract: UTF8-2 is a test for each byte. Assumes nothing.
use mathlib.Core.Path.{sym, ◌∙◌}
use mathlib.Core.Bool.{and-true}
use Rattle.chars.specs.Rfc3629.{utf8_2}
use Rattle.wide.proofs.two.Goals as goal

pub returns-then-within : goal.returns-then-within
unfolding utf8_2
returns-then-within c =
    let first = sym c.within.ensures ∙ c.if-within.true in
    simp (first, and-true) c.within-then-within.ensures

pub returns-else-within : goal.returns-else-within
unfolding utf8_2
returns-else-within c = let first = sym c.within.ensures ∙ c.if-within.false in rw first c.if-within.false
