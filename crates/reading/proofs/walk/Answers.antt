-- `reading::walk` meets its contract. The invariant is what holds behind every round. Assumes nothing.
use mathlib.Core.Path.{refl, ◌∙◌}
use native.Mathlib.Omega.{arith}
use Rattle.std.specs.Prelude.{Ok, Err}
use Rattle.chars.specs.Refusal.{number_of}
use Rattle.reading.specs.Rounds.{On, Over, nothing}
use Rattle.reading.proofs.Rounds.{begun, short, ready, turned, less, answered}
use Rattle.reading.proofs.walk.Goals as goal

pub returns-in-Err : goal.returns-in-Err
returns-in-Err c =
    let a = c.args in
    let r = c.in-Err.refused in
    let end =
    answered a.draft.now a.list.now a.text.now a.list.now a.text.now a.groups.now (number_of r.refusal) r.place nothing 0
    (begun a.draft.now a.list.now a.text.now a.groups.now c.requires (Err r) c.in-Err.ensures) in
    record { value = c.told.ensures ∙ end.0; list_after = end.1; text_after = end.2 }

pub loop-state-init : goal.loop-state-init
loop-state-init c =
    let a = c.args in
    record {
      so_far = begun a.draft.now a.list.now a.text.now a.groups.now c.requires (Ok c.in-Ok.start) c.in-Ok.ensures;
      same_list = refl;
      same_text = refl;
      array = c.requires;
    }

pub go_round-requires : goal.go_round-requires
go_round-requires c =
    let a = c.args in
    let l = c.loop-state in
    let is = c.past_blanks-place.ensures in (
      short a.draft.now a.list.now a.text.now l.list l.text l.groups l.s l.at l.invariant.so_far _ is,
      ready a.draft.now a.list.now a.text.now l.list l.text l.groups l.s l.at l.invariant.so_far _ is,
    )

pub loop-state-smaller : goal.loop-state-smaller
loop-state-smaller c =
    let a = c.args in
    let l = c.loop-state in
    let new = c.go_round.new in
    let next = c.in-Ok-Next in
    rw next.field-0-is
    (less a.draft.now l.list l.text l.groups l.s l.at _ c.past_blanks-place.ensures next.state next.after new.list new.text new.groups
    (rw next.field-0-is at next.ensures))

pub loop-state-preserved : goal.loop-state-preserved
loop-state-preserved c =
    let a = c.args in
    let l = c.loop-state in
    let new = c.go_round.new in
    let next = c.in-Ok-Next in
    record {
      so_far =
          rw next.field-0-is
          (turned a.draft.now a.list.now a.text.now l.list l.text l.groups l.s l.at l.invariant.so_far _ c.past_blanks-place.ensures
          (On next.state next.after) new.list new.text new.groups (rw next.field-0-is at next.ensures)
          (omega (arith, c.go_round.auto)) (omega (arith, c.go_round.auto)));
      same_list = omega (arith, c.go_round.auto, l.invariant.same_list);
      same_text = omega (arith, c.go_round.auto, l.invariant.same_text);
      array = omega (arith, c.go_round.auto, l.invariant.array);
    }

pub returns-in-Ok-Last : goal.returns-in-Ok-Last
returns-in-Ok-Last c =
    let a = c.args in
    let l = c.loop-state in
    let new = c.go_round.new in
    let last = c.in-Ok-Last in
    let end =
    answered a.draft.now a.list.now a.text.now new.list new.text new.groups 0 0 last.state last.after
    (turned a.draft.now a.list.now a.text.now l.list l.text l.groups l.s l.at l.invariant.so_far _ c.past_blanks-place.ensures
    (Over 0 0 last.state last.after) new.list new.text new.groups (rw last.field-0-is at last.ensures)
    (omega (arith, c.go_round.auto)) (omega (arith, c.go_round.auto))) in
    record { value = c.told-in-Ok-Last.ensures ∙ rw last.field-0-is end.0; list_after = end.1; text_after = end.2 }

pub returns-in-Err-go_round : goal.returns-in-Err-go_round
returns-in-Err-go_round c =
    let a = c.args in
    let l = c.loop-state in
    let new = c.go_round.new in
    let r = c.in-Err-go_round.refused in
    let end =
    answered a.draft.now a.list.now a.text.now new.list new.text new.groups (number_of r.refusal) r.place l.s 0
    (turned a.draft.now a.list.now a.text.now l.list l.text l.groups l.s l.at l.invariant.so_far _ c.past_blanks-place.ensures
    (Over (number_of r.refusal) r.place l.s 0) new.list new.text new.groups c.in-Err-go_round.ensures
    (omega (arith, c.go_round.auto)) (omega (arith, c.go_round.auto))) in
    record { value = c.told-in-Err-go_round.ensures ∙ end.0; list_after = end.1; text_after = end.2 }
