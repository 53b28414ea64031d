-- The invariant: a run of blanks has ended here, and what the definition finds behind it is what it finds behind the start.
use Prim.Native.Nat.{◌-◌}
use lib.ListN.{length}
use Rattle.tokens.specs.Runs.{past_blanks}
use Rattle.tokens.proofs.Skipping.{Ran}
use Rattle.tokens.proofs.space.blanks.Given as goal

abbrev pub invariant-loop-i : goal.invariant-loop-i
invariant-loop-i l = Ran l.draft past_blanks 8 9 l.at l.i

abbrev pub decreases-loop-i : goal.decreases-loop-i
decreases-loop-i l = length l.draft - l.i
