-- The invariant: taking the other items from the cells that are left comes to the same as taking all items from all cells.
use mathlib.Core.Path.{◌≡◌}
use mathlib.Core.List.{map}
use Prim.Native.Nat.{◌≤◌}
use lib.ListN.{length, drop}
use Rattle.chars.specs.Limits.{limits}
use Rattle.table.specs.Table.{item}
use Rattle.rules.specs.Cells.{take_items}
use Rattle.rules.specs.Kinds.{kinds}
use Rattle.sight.specs.Arrays.{sight_of}
use Rattle.operations.proofs.items.Given as goal

abbrev pub invariant-loop-i : goal.invariant-loop-i
invariant-loop-i l =
    (l.left ≤ length l.cells)
    × (take_items limits kinds (map item (drop l.i-index l.wanted)) (sight_of l.cells 0 l.left)
    ≡ take_items limits kinds (map item l.wanted) (sight_of l.cells 0 (length l.cells)))
