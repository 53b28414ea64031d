-- `tokens::space::skip` meets its contract. The invariant: blanks have ended here, and what the definition finds behind whitespace and
-- comments is what it finds from the start. Assumes nothing.
use mathlib.Core.Path.{sym, ◌∙◌, ap}
use mathlib.Core.Bool.{false}
use native.Mathlib.Omega.{arith}
use Rattle.tokens.specs.Runs.{past_blanks, past_all}
use Rattle.tokens.proofs.Skipping.{blanks_first, blanks_twice, all_end, all_remark, all_stops}
use Rattle.tokens.proofs.space.skip.Goals as goal

pub loop-i-init : goal.loop-i-init
loop-i-init c =
    let e = c.blanks-i.ensures in
    (ap (past_all false) e.0 ∙ sym (blanks_first _), e.0 ∙ sym (ap past_blanks e.0 ∙ blanks_twice _), e.2)

pub returns-then-draft-i-ne35 : goal.returns-then-draft-i-ne35
returns-then-draft-i-ne35 c = let l = c.loop-i in (all_end _ l.i l.invariant.1 c.if-draft-i-ne35.true ∙ l.invariant.0, l.invariant.2)

pub loop-i-preserved : goal.loop-i-preserved
loop-i-preserved c =
    let l = c.loop-i in
    let e = c.blanks-i-in-loop-i.ensures in
    let behind = ap (past_all false) c.comment-behind.ensures.0 in
    let here = all_remark c.args.draft.now l.i (omega arith)
    c.if-draft-i-ne35.false in (
      ap (past_all false) e.0 ∙ (sym (blanks_first _) ∙ (behind ∙ (sym here ∙ l.invariant.0))),
      e.0 ∙ sym (ap past_blanks e.0 ∙ blanks_twice _),
      e.2,
    )

pub returns : goal.returns
returns c = let l = c.loop-i in (all_stops _ l.i (omega arith) ∙ l.invariant.0, l.invariant.2)
