-- `tokens::space::blanks` meets its contract. The invariant: a run of blanks has ended here, and what the definition finds behind it is
-- what it finds behind the start. CR with LF behind it is one more blank. Assumes nothing.
use mathlib.Core.Path.{◌∙◌}
use native.Mathlib.Omega.{arith}
use Rattle.tokens.specs.Runs.{past_blanks}
use Rattle.tokens.proofs.Skipping.{blanked, joined, reaches, line_passed, blanks_end, no_blank, none_behind}
use Rattle.tokens.proofs.space.blanks.Goals as goal

pub loop-i-init : goal.loop-i-init
loop-i-init c = let a = c.args in blanked a.draft.now a.at c.run-i.result c.requires
    c.run-i.ensures

pub returns-then-draft-i-ne13 : goal.returns-then-draft-i-ne13
returns-then-draft-i-ne13 c =
    let a = c.args in
    let l = c.loop-i in
    let none = no_blank a.draft.now l.i c.if-draft-i-ne13.true (l.invariant.ends (omega arith)) in
    (blanks_end a.draft.now l.i none ∙ l.invariant.left, l.invariant.on, l.invariant.there)

pub returns-in_default : goal.returns-in_default
returns-in_default c =
    let a = c.args in
    let l = c.loop-i in (
      blanks_end a.draft.now l.i
          (λ number after e.
          absurd (c.in_default.ensures.1 number after e))
          ∙ l.invariant.left,
      l.invariant.on,
      l.invariant.there,
    )

pub run-i-requires-in-loop-i : goal.run-i-requires-in-loop-i
run-i-requires-in-loop-i c =
    let a = c.args in
    let is = c.in-Ok.ensures in
    let far = reaches a.draft.now c.loop-i.i c.in-Ok.field-0.number c.in-Ok.field-0.after is in
    (far.1, omega arith)

pub loop-i-smaller : goal.loop-i-smaller
loop-i-smaller c =
    let a = c.args in
    let l = c.loop-i in
    let is = c.in-Ok.ensures in
    let far = reaches a.draft.now l.i c.in-Ok.field-0.number c.in-Ok.field-0.after is in
    let ran = blanked a.draft.now c.in-Ok.field-0.after c.run-i-in-loop-i.result far.1 c.run-i-in-loop-i.ensures in
    omega (arith, ran.on, ran.there, far.0, far.1)

pub loop-i-preserved : goal.loop-i-preserved
loop-i-preserved c =
    let a = c.args in
    let l = c.loop-i in
    let is = c.in-Ok.ensures in
    let far = reaches a.draft.now l.i c.in-Ok.field-0.number c.in-Ok.field-0.after is in
    joined a.draft.now past_blanks 8 9 a.at l.i c.in-Ok.field-0.after c.run-i-in-loop-i.result l.invariant
    (line_passed a.draft.now l.i c.in-Ok.field-0.number c.in-Ok.field-0.after is c.if-draft-i-ne13.false)
    (omega (arith, far.0))
    (blanked a.draft.now c.in-Ok.field-0.after c.run-i-in-loop-i.result far.1 c.run-i-in-loop-i.ensures)

pub returns : goal.returns
returns c =
    let a = c.args in
    let l = c.loop-i in (
      blanks_end a.draft.now l.i (λ number after e. absurd (none_behind a.draft.now l.i (omega arith) number after e))
          ∙ l.invariant.left,
      l.invariant.on,
      l.invariant.there,
    )
