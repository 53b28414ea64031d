-- The invariant: the part is the one lent, with as many bytes pasted in as turns were made, each with a class above 0.
use mathlib.Core.Path.{◌≡◌}
use Prim.Native.Nat.{ℕ, ◌<◌, ◌≤◌}
use lib.ListN.{length, get_or}
use lib.Seq.{paste}
use Rattle.tokens.specs.Runs.{class_of}
use Rattle.copying.proofs.kept.Given as goal

abbrev pub invariant-loop-k : goal.invariant-loop-k
invariant-loop-k l =
    (l.out ≡ paste l.initial.out l.at l.bytes l.k) × (length l.out ≡ length l.initial.out)
    × ((j : ℕ) → j < l.k → 1 ≤ class_of (get_or l.bytes j 0))
