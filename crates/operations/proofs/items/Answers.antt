-- `operations::items` meets its contract. The invariant: taking the other items from the cells that are left comes to the same as
-- taking all items from all cells. Assumes nothing.
use mathlib.Core.Path.{◌≡◌}
use mathlib.Core.List.{[]}
use Prim.Native.Nat.{◌≤◌}
use native.Mathlib.Omega.{arith}
use lib.ListN.{get_or, drop, drop_of_length-le}
use Rattle.std.proofs.lemmas.Result.{err_from_is_err_and}
use Rattle.chars.specs.Limits.{limits}
use Rattle.table.specs.Table.{item}
use Rattle.rules.specs.Cells.{take_item, take_items}
use Rattle.rules.specs.Kinds.{kinds}
use Rattle.sight.specs.Arrays.{sight_of}
use Rattle.operations.specs.Taken.{left_of, at_most}
use Rattle.operations.proofs.Taking.{of_lower, refused, taken}
use Rattle.operations.proofs.items.Goals as goal
use Rattle.operations.proofs.items.Goals.{After-item}

-- what the call for an item says of all cells
this_item :
    (c : After-item)
    → let a = c.args in
    let l = c.loop-i in
    (left_of a.cells.now 0 c.item.result ≡ take_item limits kinds (item (get_or a.wanted.now l.i-index 0)) (sight_of a.cells.now 0 l.left))
    × at_most l.left c.item.result
this_item c =
    let e = rw c.from.ensures at c.item.ensures in
    of_lower c.args.cells.now c.loop-i.left c.item.result _ c.loop-i.invariant.0 e.0 e.1

pub returns-in_err-left : goal.returns-in_err-left
unfolding left_of at_most
returns-in_err-left c =
    let p = err_from_is_err_and c.from_residual.result c.from_residual.ensures.1 in
    let a = c.args in
    let l = c.loop-i in
    let first = this_item (goal.at.returns-in_err-left c).After-item in
    let none = refused a.wanted.now a.cells.now l.i-index l.left c.item.result (omega arith) first.0 c.in_err-left.field-0.0 c.in_err-left.was in
    rw (p.1, p.2) (rw (← l.invariant.1, none), tt)

pub loop-i-preserved : goal.loop-i-preserved
unfolding at_most
loop-i-preserved c =
    let a = c.args in
    let l = c.loop-i in
    let first = this_item (goal.at.loop-i-preserved c).After-item in
    let rest = taken a.wanted.now a.cells.now l.i-index l.left c.item.result (omega arith) first.0 c.in_ok-left.left c.in_ok-left.was in
    let fewer : c.in_ok-left.left ≤ l.left = rw c.in_ok-left.was at first.1 in
    (omega arith, rw (← rest) l.invariant.1)

pub returns : goal.returns
unfolding left_of at_most take_items
returns c =
    let l = c.loop-i in
    let none : drop l.i-index c.args.wanted.now ≡ [] = drop_of_length-le c.args.wanted.now (omega arith) in
    (rw none at l.invariant.1, l.invariant.0)
