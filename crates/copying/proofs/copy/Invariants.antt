-- The invariant: so many clean bytes stand at the front, and behind them the part is as it was lent.
use Prim.Native.Nat.{◌-◌}
use mir.Val.{Fits}
use mir.Syntax.{w64}
use Rattle.copying.proofs.Copying.{Copying}
use Rattle.copying.proofs.copy.Given as goal

abbrev pub invariant-loop-two : goal.invariant-loop-two
invariant-loop-two l = Copying l.draft l.from l.n l.initial.out l.out l.i l.k × Fits w64 l.i

abbrev pub decreases-loop-two : goal.decreases-loop-two
decreases-loop-two l = l.n - l.k
