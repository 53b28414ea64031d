-- `holding::copy::long` meets its contract: the last eight go over a part that agrees with the bytes up to where they begin, or further.
-- Assumes nothing.
use mathlib.Core.Path.{refl, ◌∙◌}
use native.Mathlib.Omega.{arith}
use Rattle.holding.proofs.Over.{over, last_over}
use Rattle.holding.proofs.copy.long.Goals as goal

pub loop-k-init : goal.loop-k-init
loop-k-init c = (refl, refl, omega arith)

pub loop-k-preserved : goal.loop-k-preserved
loop-k-preserved c =
    let a = c.args in
    let l = c.loop-k in (
      c.over.ensures ∙ over a.bytes.now a.out.now l.out l.k 8 l.k l.invariant.0 (omega arith) (omega arith) (omega arith),
      omega arith,
      omega arith,
    )

pub returns : goal.returns
returns c =
    let a = c.args in
    let l = c.loop-k in
    c.over-2.ensures ∙ last_over a.bytes.now a.out.now l.out 8 l.k l.invariant.0 (omega arith) (omega arith) (omega arith)
