-- The invariant: the token has not ended before this place, if it is no longer than the limit, and of the eight bytes from here on each
-- one without a flag goes on with it; the limit is asked for where it ends.
use Prim.Native.Nat.{◌+◌, ◌-◌, ◌*◌, ◌≤◌}
use lib.ListN.{length}
use Rattle.runs.specs.Bytes.{goes_on, Looked}
use Rattle.scan.proofs.Words.{Grows}
use Rattle.scan.proofs.word.word_end.Given as goal

abbrev pub invariant-loop-flags : goal.invariant-loop-flags
invariant-loop-flags l = Grows l.draft l.begun l.at × (l.at + 8 ≤ length l.draft) × Looked goes_on l.draft l.at l.flags

abbrev pub decreases-loop-flags : goal.decreases-loop-flags
decreases-loop-flags l = (length l.draft - l.at) * 0x10000000000000000 + l.flags
