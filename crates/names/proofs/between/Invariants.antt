-- The invariant: what is stirred in from here on makes the number that the definition makes from the start. The measure is what is left
-- of the name.
use mathlib.Core.Path.{◌≡◌}
use Prim.Native.Nat.{◌-◌, ◌≤◌}
use lib.ListN.{length, drop}
use Rattle.names.specs.Marks.{blocks}
use Rattle.names.proofs.between.Given as goal

abbrev pub invariant-loop-i : goal.invariant-loop-i
invariant-loop-i l =
    (8 ≤ l.i) × (blocks l.h (drop (l.i - 4) l.name) ≡ blocks l.from (drop 4 l.name))

abbrev pub decreases-loop-i : goal.decreases-loop-i
decreases-loop-i l = length l.name - l.i
