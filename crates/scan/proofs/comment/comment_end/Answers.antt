-- `scan::comment::comment_end` meets its contract. The invariant: from here on a comment ends where it ends from the start on. What is
-- passed over has no LF in it, and LF ends it, alone or behind CR. Assumes nothing.
use mathlib.Core.Path.{refl}
use Prim.Native.Nat.{◌+◌, ◌<◌}
use native.Mathlib.Omega.{arith}
use lib.ListN.{get_or}
use Rattle.chars.proofs.Streams.{plain}
use Rattle.scan.proofs.Comments.{Inside, ended, one_byte, run, foreign, forth}
use Rattle.scan.proofs.comment.comment_end.Goals as goal
use Rattle.scan.proofs.comment.comment_end.Goals.{After-past_remark-i}

-- behind the bytes that comments are mostly made of, inside the comment still
here :
    (c : After-past_remark-i)
    → Inside c.args.draft.now c.args.at c.past_remark-i.result
here c =
    let a = c.args in
    run a.draft.now a.at c.loop-at.from c.past_remark-i.result c.loop-at.invariant c.past_remark-i.ensures

pub returns-then-b-eq10 : goal.returns-then-b-eq10
returns-then-b-eq10 c =
    let a = c.args in
    let i = c.past_remark-i.result in
    let b = get_or a.draft.now i 0 in
    let is = plain a.draft.now i (omega arith) (omega arith) (omega arith) (λ e. omega arith) in
    ended a.draft.now a.at i b (i + 1) (here (goal.at.returns-then-b-eq10 c).After-past_remark-i) is c.if-b-eq10.true

pub returns-then-is_line : goal.returns-then-is_line
returns-then-is_line c =
    let a = c.args in
    let i = c.past_remark-i.result in
    ended a.draft.now a.at i 0x0A (i + 2) (here (goal.at.returns-then-is_line c).After-past_remark-i) (c.is_line.ensures.0 c.if-is_line.true).1 refl

pub loop-at-preserved-then-b-lt128 : goal.loop-at-preserved-then-b-lt128
loop-at-preserved-then-b-lt128 c =
    let a = c.args in
    let i = c.past_remark-i.result in
    let there : 0 < get_or a.draft.now i 0 = omega (arith, c.if-b-eq0.false) in
    one_byte a.draft.now a.at i (here (goal.at.loop-at-preserved-then-b-lt128 c).After-past_remark-i) (omega arith) there (omega arith) c.if-b-eq13.false
    c.if-b-eq10.false

pub loop-at-smaller-else-from-i-2 : goal.loop-at-smaller-else-from-i-2
loop-at-smaller-else-from-i-2 c =
    let w = c.past_wide-reach.ensures in
    let p = c.past_remark-i.ensures in
    omega (arith, p.on, forth w.0, w.1, c.if-from-i-2.false)

pub loop-at-preserved-else-from-i-2 : goal.loop-at-preserved-else-from-i-2
loop-at-preserved-else-from-i-2 c =
    foreign (here (goal.at.loop-at-preserved-else-from-i-2 c).After-past_remark-i) c.past_wide-reach.ensures.0

pub loop-at-smaller : goal.loop-at-smaller
loop-at-smaller c =
    let w = c.past_widths-from.ensures in
    let p = c.past_remark-i.ensures in
    omega (arith, p.on, forth w.0, w.1, c.if-from-i.false)

pub loop-at-preserved : goal.loop-at-preserved
loop-at-preserved c =
    foreign (here (goal.at.loop-at-preserved c).After-past_remark-i) c.past_widths-from.ensures.0
