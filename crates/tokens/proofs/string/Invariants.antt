-- The invariant: what the definition answers from here is what it answered at the start of the data.
use mathlib.Core.Path.{◌≡◌}
use mathlib.Core.Bool.{false}
use Prim.Native.Nat.{◌+◌, ◌-◌, ◌≤◌}
use lib.ListN.{length}
use Rattle.chars.specs.Limits.{limits}
use Rattle.chars.specs.Stream.{stream_at}
use Rattle.tokens.specs.Tokens.{tokens, first, string}
use Rattle.tokens.specs.Told.{told_opened}
use Rattle.tokens.proofs.string.Given as goal

abbrev pub invariant-loop-clean : goal.invariant-loop-clean
invariant-loop-clean l =
    (first (tokens limits (string (told_opened l.o) l.n l.level l.odd) (stream_at l.draft l.i))
    ≡ first (tokens limits (string (told_opened l.o) 0 1 false) (stream_at l.draft l.o.from)))
    × (l.i ≤ length l.draft)
    × (l.n ≤ 4096)
    × (1 ≤ l.level)
    × (l.level ≤ l.n + 1)

abbrev pub decreases-loop-clean : goal.decreases-loop-clean
decreases-loop-clean l = length l.draft - l.i
