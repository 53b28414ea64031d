-- The invariant: what the contract says of where the loop is. What falls is how much of the draft is left.
use mathlib.Core.Path.{◌≡◌}
use mathlib.Core.List.{List}
use Prim.Native.Nat.{ℕ, ◌-◌, ◌≤◌}
use lib.ListN.{length}
use Rattle.std.specs.Prelude.{Some}
use denote.Bor.{Bor}
use Rattle.wide.specs.Wide.{Wides}
use Rattle.wide.specs.declared.Bytes.{Bytes}
use Rattle.wide.proofs.past.Given as goal

abbrev pub invariant-loop-c : goal.invariant-loop-c
invariant-loop-c g l =
    Wides l.draft l.at l.reach.after l.reach.less × (l.reach.after ≤ length l.draft)
    × (((d : Bor (List ℕ)) (i : ℕ) (c : Bytes) → goal.F-post g l.one d i (Some c) → c.less ≡ 0) → l.reach.less ≡ 0)

abbrev pub decreases-loop-c : goal.decreases-loop-c
decreases-loop-c g l = length l.draft - l.reach.after
