-- The invariant is what holds behind every round.
use mathlib.Core.Path.{◌≡◌}
use Prim.Native.Nat.{◌-◌}
use lib.ListN.{length}
use Rattle.reading.specs.Rounds.{On}
use Rattle.reading.proofs.Rounds.{Behind}
use Rattle.reading.proofs.walk.Given as goal

abbrev pub invariant-loop-state : goal.invariant-loop-state
invariant-loop-state l = record {
  so_far : Behind l.draft l.initial.list l.initial.text l.list l.text l.groups (On l.s l.at);
  same_list : length l.list ≡ length l.initial.list;
  same_text : length l.text ≡ length l.initial.text;
  array : length l.groups ≡ 64;
}

abbrev pub decreases-loop-state : goal.decreases-loop-state
decreases-loop-state l = length l.draft - l.at
