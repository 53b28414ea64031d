-- The invariant is the copier's: so many clean bytes stand at the front, and behind them the part is as it was lent.
use mathlib.Core.Path.{◌≡◌}
use Prim.Native.Nat.{◌-◌, ◌<◌}
use lib.ListN.{length}
use Rattle.chars.specs.Stream.{stream_at, clean}
use Rattle.copying.proofs.Copying.{Copying}
use Rattle.holding.proofs.lines.lines.Given as goal

abbrev pub invariant-loop-k : goal.invariant-loop-k
invariant-loop-k l =
    Copying l.draft l.from l.n l.initial.out l.out l.i l.k × (l.k < l.n) × (length (clean l.n (stream_at l.draft l.from)) ≡ l.n)

abbrev pub decreases-loop-k : goal.decreases-loop-k
decreases-loop-k l = length l.draft - l.i
