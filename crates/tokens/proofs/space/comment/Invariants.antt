-- The invariant: what the definition finds behind the comment from here is what it finds from the start.
use mathlib.Core.Path.{◌≡◌}
use Prim.Native.Nat.{◌-◌, ◌≤◌}
use lib.ListN.{length}
use Rattle.chars.specs.Stream.{stream_at}
use Rattle.tokens.specs.Runs.{past_comment}
use Rattle.tokens.proofs.space.comment.Given as goal

abbrev pub invariant-loop-number : goal.invariant-loop-number
invariant-loop-number l = (past_comment (stream_at l.draft l.i) ≡ past_comment (stream_at l.draft l.at)) × (l.at ≤ l.i) × (l.i ≤ length l.draft)

abbrev pub decreases-loop-number : goal.decreases-loop-number
decreases-loop-number l = length l.draft - l.i
