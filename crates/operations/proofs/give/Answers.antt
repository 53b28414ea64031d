-- `operations::give` meets its contract. The invariant: so many kinds as turns were made are laid. Assumes nothing.
use mathlib.Core.Path.{refl}
use native.Mathlib.Omega.{arith}
use Rattle.operations.specs.Taken.{laid}
use Rattle.operations.proofs.Giving.{laid_next}
use Rattle.operations.proofs.give.Goals as goal

pub loop-k-init : goal.loop-k-init
unfolding laid
loop-k-init c = refl

pub loop-k-preserved : goal.loop-k-preserved
loop-k-preserved c =
    let a = c.args in
    let l = c.loop-k in
    rw (c.from.ensures, l.invariant, laid_next a.cells.now a.kinds.now a.top l.k (omega arith))
