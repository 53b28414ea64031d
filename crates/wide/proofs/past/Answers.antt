-- `wide::past` meets its contract: each turn passes one character more. Assumes nothing.
use mathlib.Core.Path.{refl}
use native.Mathlib.Omega.{arith}
use Rattle.wide.specs.Wide.{none, more}
use Rattle.wide.proofs.Widths.{wider_there, less_bytes, less_wides}
use Rattle.wide.proofs.past.Goals as goal

pub loop-c-init : goal.loop-c-init
loop-c-init g c = (none, c.requires.within, λ same. refl)

pub overflow_add-reach : goal.overflow_add-reach
overflow_add-reach g c =
    let r = c.in-Some.c in
    let w = c.requires.each _ _ c.in-Some.ensures in
    let far = wider_there c.args.draft.now c.loop-c.reach.after r.bytes r.less w in
    omega arith

pub overflow_add-reach-in-Some : goal.overflow_add-reach-in-Some
overflow_add-reach-in-Some g c =
    let r = c.in-Some.c in
    let w = c.requires.each _ _ c.in-Some.ensures in
    let far = wider_there c.args.draft.now c.loop-c.reach.after r.bytes r.less w in
    omega (arith, less_bytes w, less_wides c.loop-c.invariant.0)

pub loop-c-smaller : goal.loop-c-smaller
loop-c-smaller g c =
    let r = c.in-Some.c in
    let w = c.requires.each _ _ c.in-Some.ensures in
    let far = wider_there c.args.draft.now c.loop-c.reach.after r.bytes r.less w in
    omega (arith, w.several)

pub loop-c-preserved : goal.loop-c-preserved
loop-c-preserved g c =
    let l = c.loop-c in
    let r = c.in-Some.c in
    let w = c.requires.each _ _ c.in-Some.ensures in (
      more l.reach.after r.bytes l.reach.less r.less l.invariant.0 w,
      wider_there c.args.draft.now l.reach.after r.bytes r.less w,
      λ same. omega (arith, l.invariant.2 same, same _ _ _ c.in-Some.ensures),
    )
