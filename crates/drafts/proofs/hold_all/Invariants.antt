-- A line counts once, and takes a byte at least, but for the last.
use Rattle.std.proofs.Common.{◌+◌, ◌≤◌, length}
use Rattle.std.specs.Iterator.Adapters.{enumerate_source, enumerate_count}
use Rattle.drafts.proofs.hold_all.Given as goal

abbrev pub invariant-loop-i : goal.invariant-loop-i
invariant-loop-i g l =
    (enumerate_count l.i-iterator + length (enumerate_source l.i-iterator).rest.now ≤ length l.input)
    × (l.tally.passed ≤ enumerate_count l.i-iterator)
    × (l.tally.failed ≤ enumerate_count l.i-iterator)
