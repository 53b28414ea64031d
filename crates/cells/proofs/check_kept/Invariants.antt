-- The invariant: what the definition answers from this entity and these cells on is what it answers from the first one on.
use mathlib.Core.Path.{◌≡◌}
use mathlib.Core.Bool.{true}
use Prim.Native.Nat.{◌-◌}
use Rattle.chars.specs.Limits.{limits}
use Rattle.table.specs.Entered.{operations_of}
use Rattle.rules.specs.Cells.{through}
use Rattle.rules.specs.Kinds.{kinds}
use Rattle.cells.specs.Kept.{entities_from, grouped, check_kept}
use Rattle.sight.specs.Stacks.{state_in, Stands}
use Rattle.cells.proofs.check_kept.Given as goal

abbrev pub invariant-loop-i : goal.invariant-loop-i
invariant-loop-i l =
    Stands l.text l.stack
    × (grouped 64 l.stack.counts.depth (entities_from l.list l.text l.i (l.n - l.i)) ≡ true)
    × (through limits kinds (operations_of l.table) l.i (state_in l.text l.stack) (entities_from l.list l.text l.i (l.n - l.i))
    ≡ check_kept limits (operations_of l.table) l.list l.text l.n)
