-- What is held is within the buffer, which keeps its length, and each byte leaves less of the line.
use Rattle.std.proofs.Common.{◌≤◌, ◌≡◌, length}
use Rattle.drafts.proofs.line.Line.bytes.Given as goal

abbrev pub invariant-loop-byte : goal.invariant-loop-byte
invariant-loop-byte l =
    (l.held ≤ length l.into) × (length l.into ≡ length l.initial.into) × (length l.self.rest.now ≤ length l.initial.self.rest.now)

abbrev pub decreases-loop-byte : goal.decreases-loop-byte
decreases-loop-byte l = length l.self.rest.now
