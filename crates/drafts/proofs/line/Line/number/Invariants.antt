-- A digit is taken only while the number is small, and leaves less of the line.
use Rattle.std.proofs.Common.{◌≤◌, ◌<◌, length}
use Rattle.drafts.proofs.line.Line.number.Given as goal

abbrev pub invariant-loop-value : goal.invariant-loop-value
invariant-loop-value l = (l.value < 65530) × (length l.self.rest.now ≤ length l.initial.self.rest.now)

abbrev pub decreases-loop-value : goal.decreases-loop-value
decreases-loop-value l = length l.self.rest.now
