-- The invariant: blanks have ended here, and what the definition finds behind whitespace and comments is what it finds from the start.
use mathlib.Core.Path.{◌≡◌}
use mathlib.Core.Bool.{false}
use Prim.Native.Nat.{◌-◌, ◌≤◌}
use lib.ListN.{length}
use Rattle.chars.specs.Stream.{stream_at}
use Rattle.tokens.specs.Runs.{past_blanks, past_all}
use Rattle.tokens.proofs.space.skip.Given as goal

abbrev pub invariant-loop-i : goal.invariant-loop-i
invariant-loop-i l =
    (past_all false (stream_at l.draft l.i) ≡ past_all false (stream_at l.draft l.at))
    × (stream_at l.draft l.i ≡ past_blanks (stream_at l.draft l.i))
    × (l.i ≤ length l.draft)

abbrev pub decreases-loop-i : goal.decreases-loop-i
decreases-loop-i l = length l.draft - l.i
