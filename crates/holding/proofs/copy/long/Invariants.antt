-- The invariant: the first `k` bytes of the part are those to be copied, and behind them it is as it was lent.
use mathlib.Core.Path.{◌≡◌}
use mathlib.Core.List.{◌++◌}
use Prim.Native.Nat.{◌-◌, ◌≤◌}
use lib.ListN.{length, take, drop}
use Rattle.holding.proofs.copy.long.Given as goal

abbrev pub invariant-loop-k : goal.invariant-loop-k
invariant-loop-k l =
    (l.out ≡ take l.k l.bytes ++ drop l.k l.initial.out) × (length l.out ≡ length l.initial.out) × (l.k ≤ length l.bytes)

abbrev pub decreases-loop-k : goal.decreases-loop-k
decreases-loop-k l = length l.bytes - l.k
