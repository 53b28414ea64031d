-- `tokens::space::comment` meets its contract. The invariant: what the definition finds behind the comment from here is what it finds from
-- the start. LF ends it, and so does what is no character. Assumes nothing.
use mathlib.Core.Path.{refl, sym, ◌∙◌}
use native.Mathlib.Omega.{arith}
use Rattle.tokens.proofs.Skipping.{reaches, comment_stops, comment_ends, comment_on}
use Rattle.tokens.proofs.space.comment.Goals as goal

pub loop-number-init : goal.loop-number-init
loop-number-init c = (refl, omega arith, c.requires)

pub returns-in_default : goal.returns-in_default
returns-in_default c =
    let a = c.args in
    let l = c.loop-number in (
      comment_stops a.draft.now l.i (λ number after e.
          c.in_default.ensures.1 number after e)
          ∙ l.invariant.0,
      l.invariant.1,
      l.invariant.2,
    )

pub returns-then-number-eq10 : goal.returns-then-number-eq10
returns-then-number-eq10 c =
    let a = c.args in
    let l = c.loop-number in
    let is = c.in-Ok.ensures in
    let far = reaches a.draft.now l.i c.in-Ok.field-0.number c.in-Ok.field-0.after is in (
      comment_ends a.draft.now l.i c.in-Ok.field-0.number c.in-Ok.field-0.after is c.if-number-eq10.true ∙ l.invariant.0,
      omega (arith, l.invariant.1, far.0),
      far.1,
    )

pub loop-number-smaller : goal.loop-number-smaller
loop-number-smaller c =
    let a = c.args in
    let l = c.loop-number in
    let is = c.in-Ok.ensures in
    let far = reaches a.draft.now l.i c.in-Ok.field-0.number c.in-Ok.field-0.after is in
    omega (arith, far.0, far.1)

pub loop-number-preserved : goal.loop-number-preserved
loop-number-preserved c =
    let a = c.args in
    let l = c.loop-number in
    let is = c.in-Ok.ensures in
    let far = reaches a.draft.now l.i c.in-Ok.field-0.number c.in-Ok.field-0.after is in (
      sym (comment_on a.draft.now l.i c.in-Ok.field-0.number c.in-Ok.field-0.after is c.if-number-eq10.false) ∙ l.invariant.0,
      omega (arith, l.invariant.1, far.0),
      far.1,
    )
