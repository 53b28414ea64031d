-- The invariant: data has been gone through from the start up to here, and the level is no more than one above the bytes of it. The
-- measure is what is left of the draft.
use Prim.Native.Nat.{◌+◌, ◌-◌, ◌≤◌}
use lib.ListN.{length}
use Rattle.scan.specs.Data.{Goes}
use Rattle.scan.proofs.string.string_end.Given as goal

abbrev pub invariant-loop-from : goal.invariant-loop-from
invariant-loop-from l =
    Goes l.draft l.curly l.from 1 l.at l.level l.less × (1 ≤ l.level) × (l.level + l.from ≤ l.at + 1)

abbrev pub decreases-loop-from : goal.decreases-loop-from
decreases-loop-from l = length l.draft - l.at
