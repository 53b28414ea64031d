-- `vogieburn::vogieburn_check` meets its contract as `checking::check` does: each way out is a stage of the definition. Assumes nothing.
use mathlib.Core.Path.{refl, sym, ◌∙◌}
use Rattle.names.proofs.Entering.{no_entries}
use Rattle.checking.specs.Checking.{unsound}
use Rattle.checking.proofs.Stages.{without_table, held_behind, behind_reading}
use Rattle.vogieburn.proofs.vogieburn_check.Goals as goal

pub judge-requires : goal.judge-requires
judge-requires c = (no_entries _, refl)

pub returns-then-not-judge : goal.returns-then-not-judge
unfolding unsound
returns-then-not-judge c =
    let e = c.unsound.ensures in
    let left =
    without_table c.args.draft.now c.args.list.now c.args.text.now c.args.table.now (sym c.judge.ensures.0 ∙ c.if-not-judge.true)
    (e.value, (e.list_unchanged, e.text_unchanged)) in
    record { value = left.0; list_after = left.1.0; text_after = left.1.1 }

pub checked-requires : goal.checked-requires
checked-requires c z =
    let good = c.if-not-judge.false in (
      held_behind c.args.draft.now c.args.list.now c.args.text.now
          (c.vogieburn_read-a.ensures.value, (c.vogieburn_read-a.ensures.list_after, c.vogieburn_read-a.ensures.text_after)) z,
      c.judge.ensures.1 good,
      sym c.judge.ensures.0 ∙ good,
    )

pub returns : goal.returns
returns c =
    let e = c.vogieburn_read-a.ensures in
    let left =
    behind_reading c.args.draft.now c.args.list.now c.args.text.now (e.value, (e.list_after, e.text_after)) c.args.table.now
    (sym c.judge.ensures.0 ∙ c.if-not-judge.false) c.checked.ensures in
    record { value = left.0; list_after = left.1.0; text_after = left.1.1 }
