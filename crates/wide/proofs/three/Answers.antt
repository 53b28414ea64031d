-- `wide::three` meets its contract: UTF8-3 has an alternative for each range of the first byte, and the last byte is the same
-- in all. Assumes nothing.
use mathlib.Core.Path.{sym, ◌∙◌}
use mathlib.Core.Bool.{and-true, and-false, or-false}
use native.Mathlib.Omega.{arith}
use Rattle.chars.specs.Rfc3629.{utf8_3}
use Rattle.chars.proofs.Cases.{by_bound}
use Rattle.chars.proofs.Extent.{inside}
use Rattle.tokens.proofs.Standing.{below, above}
use Rattle.wide.proofs.three.Goals as goal

pub returns-then-not-within : goal.returns-then-not-within
unfolding utf8_3
returns-then-not-within c = let last = sym c.within.ensures ∙ c.if-not-within.true in simp (last, and-false)

pub returns-then-b-eq224 : goal.returns-then-b-eq224
unfolding utf8_3
returns-then-b-eq224 c =
    let last = sym c.within.ensures ∙ c.if-not-within.false in
    simp (c.if-b-eq224.true, last, and-true, or-false) c.within-then-b-eq224.ensures

pub returns-then-b-eq237 : goal.returns-then-b-eq237
unfolding utf8_3
returns-then-b-eq237 c =
    let last = sym c.within.ensures ∙ c.if-not-within.false in
    simp (c.if-b-eq237.true, last, and-true, or-false) c.within-then-b-eq237.ensures

pub returns : goal.returns
unfolding utf8_3
returns c =
    let b = c.args.b in
    let last = sym c.within.ensures ∙ c.if-not-within.false in
    by_bound b 0xED
    (λ l. simp (
      last,
      above 0xE0 0xE0 b (omega arith),
      inside 0xE1 0xEC b (omega arith) (omega arith),
      below 0xED 0xED b (omega arith),
      below 0xEE 0xEF b (omega arith),
      and-true,
      or-false,
    ) c.within-2.ensures)
    (λ g. simp (
      last,
      above 0xE0 0xE0 b (omega arith),
      above 0xE1 0xEC b (omega arith),
      above 0xED 0xED b (omega arith),
      inside 0xEE 0xEF b (omega arith) (omega arith),
      and-true,
    ) c.within-2.ensures)
