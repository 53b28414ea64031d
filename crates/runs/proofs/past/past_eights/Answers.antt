-- `runs::past::past_eights` meets its contract. The invariant: each byte from the start to here passes the test. Assumes nothing.
use native.Mathlib.Omega.{arith}
use Rattle.runs.proofs.Flags.{more_passed, no_flag}
use Rattle.runs.proofs.past.past_eights.Goals as goal

pub returns-then-flags-ne0 : goal.returns-then-flags-ne0
returns-then-flags-ne0 g c =
    let a = c.args in
    let l = c.loop-i in
    let e = c.eight in
    let f = c.flags_of-flags in
    let before = c.before_flag in
    let h = l.invariant.2 in
    λ test told. (
      more_passed test a.draft.now a.at l.i e.result f.result before.result (l.invariant.0 test told) (omega arith)
          e.ensures (told _ _ e.type_inv f.ensures) before.ensures.0 before.ensures.1,
      omega arith,
    )

pub loop-i-preserved : goal.loop-i-preserved
loop-i-preserved g c =
    let a = c.args in
    let l = c.loop-i in
    let e = c.eight in
    let f = c.flags_of-flags in
    let h = l.invariant.2 in (
      λ test told.
          more_passed test a.draft.now a.at l.i e.result f.result 8 (l.invariant.0 test told) (omega arith)
          e.ensures (told _ _ e.type_inv f.ensures) (omega arith) (no_flag f.result c.if-flags-ne0.false),
      omega (arith, l.invariant.1),
      h,
    )
