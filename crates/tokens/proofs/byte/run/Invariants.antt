-- The invariant: the place at which the definition ends the run from here is the one at which it ended it from the start.
use mathlib.Core.Path.{◌≡◌}
use Prim.Native.Nat.{◌+◌, ◌-◌}
use lib.ListN.{drop}
use Rattle.tokens.specs.Runs.{run}
use Rattle.tokens.specs.Told.{class_code}
use Rattle.tokens.proofs.byte.run.Given as goal

abbrev pub invariant-loop-i : goal.invariant-loop-i
invariant-loop-i l =
    l.i + run (class_code l.low) (class_code l.high) (l.end - l.i) (drop l.i l.draft)
    ≡ l.at + run (class_code l.low) (class_code l.high) (l.end - l.at) (drop l.at l.draft)
