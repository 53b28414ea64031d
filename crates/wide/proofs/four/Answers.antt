-- `wide::four` meets its contract: UTF8-4 has an alternative for each range of the first byte, and the last two bytes are the
-- same in all. Assumes nothing.
use mathlib.Core.Path.{sym, ◌∙◌}
use mathlib.Core.Bool.{and-true, and-false, or-false}
use native.Mathlib.Omega.{arith}
use Rattle.chars.specs.Rfc3629.{utf8_4}
use Rattle.chars.proofs.Extent.{inside}
use Rattle.tokens.proofs.Standing.{below, above}
use Rattle.wide.proofs.four.Goals as goal

pub returns-then-not-within : goal.returns-then-not-within
unfolding utf8_4
returns-then-not-within c = let third = sym c.within.ensures ∙ c.if-not-within.true in simp (third, and-false)

pub returns-then-not-within-2 : goal.returns-then-not-within-2
unfolding utf8_4
returns-then-not-within-2 c = let last = sym c.within-2.ensures ∙ c.if-not-within-2.true in simp (last, and-false)

pub returns-then-b-eq240 : goal.returns-then-b-eq240
unfolding utf8_4
returns-then-b-eq240 c =
    let last = sym c.within-2.ensures ∙ c.if-not-within-2.false in
    let third = sym c.within.ensures
    ∙ c.if-not-within.false in
    simp (c.if-b-eq240.true, third, last, and-true, or-false) c.within-then-b-eq240.ensures

pub returns-then-b-eq244 : goal.returns-then-b-eq244
unfolding utf8_4
returns-then-b-eq244 c =
    let last = sym c.within-2.ensures ∙ c.if-not-within-2.false in
    let third = sym c.within.ensures
    ∙ c.if-not-within.false in
    simp (c.if-b-eq244.true, third, last, and-true) c.within-then-b-eq244.ensures

pub returns-then-b-gt244 : goal.returns-then-b-gt244
unfolding utf8_4
returns-then-b-gt244 c =
    let b = c.args.b in
    simp (above 0xF0 0xF0 b (omega arith), above 0xF1 0xF3 b (omega arith), above 0xF4 0xF4 b (omega arith))

pub returns : goal.returns
unfolding utf8_4
returns c =
    let b = c.args.b in
    let last = sym c.within-2.ensures
    ∙ c.if-not-within-2.false in
    let third = sym c.within.ensures
    ∙ c.if-not-within.false in
    simp (
      third,
      last,
      above 0xF0 0xF0 b (omega arith),
      inside 0xF1 0xF3 b (omega arith) (omega arith),
      below 0xF4 0xF4 b (omega arith),
      and-true,
      or-false,
    ) c.within-3.ensures
