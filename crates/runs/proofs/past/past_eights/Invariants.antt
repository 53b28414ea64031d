-- The invariant: each byte from the start to here passes the test.
use mathlib.Core.Bool.{Bool}
use Prim.Native.Nat.{ℕ, ◌-◌, ◌≤◌}
use lib.ListN.{length}
use Rattle.runs.specs.Bytes.{FlagsOf, Passed}
use Rattle.runs.proofs.past.past_eights.Given as goal

abbrev pub invariant-loop-i : goal.invariant-loop-i
invariant-loop-i g l =
    ((test : ℕ → Bool) → FlagsOf test (goal.F-post g l.flags_of) → Passed test l.draft l.at l.i) × (l.i ≤ l.end) × (l.end ≤ length l.draft)

abbrev pub decreases-loop-i : goal.decreases-loop-i
decreases-loop-i g l = l.end - l.i
