-- `operations::operate` meets its contract. The entry that is found stands for the operation of this name, and its row for what it does;
-- what its items leave, and the kinds that it then gives, its callees say. Assumes nothing.
use mathlib.Core.Path.{◌≡◌}
use mathlib.Core.List.{map}
use Prim.Native.Nat.{◌≤◌}
use native.Mathlib.Omega.{arith}
use Rattle.std.proofs.lemmas.Result.{err_from_is_err_and}
use Rattle.chars.specs.Limits.{limits}
use Rattle.names.specs.Index.{found_of}
use Rattle.table.specs.Table.{item, field, find}
use Rattle.table.specs.Entered.{row_place, row_from, operations_of, operation_at}
use Rattle.table.proofs.Finding.{find_operation}
use Rattle.rules.specs.Cells.{operate, take_items}
use Rattle.rules.specs.Kinds.{kinds}
use Rattle.sight.specs.Row.{text_by}
use Rattle.sight.specs.Arrays.{sight_of}
use Rattle.sight.specs.Stacks.{meant, ready}
use Rattle.operations.specs.Taken.{left_of, at_most}
use Rattle.operations.proofs.Taking.{of_seen}
use Rattle.operations.proofs.Operating.{Row, row_known, refused, left}
use Rattle.operations.proofs.operate.Goals as goal
use Rattle.operations.proofs.operate.Goals.{After-find, After-row_of-operation, After-items}

-- what was found, as the definition finds it
the_operation :
    (c : After-find)
    → let a = c.args in
    find (text_by a.row a.text.now) (operations_of a.table.now) ≡ operation_at a.table.now (found_of c.find.result)
the_operation c =
    let a = c.args in
    rw (c.find.ensures.0, c.text_of-name.ensures)
    (find_operation a.table.now a.operations.now c.requires.1 (text_by a.row a.text.now))

pub returns-in_default-clause-answer : goal.returns-in_default-clause-answer
unfolding operate operation_at meant ready
returns-in_default-clause-answer c step st =
    record { same = rw (the_operation (goal.at.returns-in_default-clause-answer c).After-find, c.in_default.is); on = tt }

-- its row
the_row : (c : After-row_of-operation) → Row c.row_of-operation.result.now
the_row c =
    rw c.row_of-operation.ensures
    (row_known c.args.table.now c.in-Some.entry c.requires.2 (omega (arith, c.in-Some.ensures.1)))

pub entries-requires : goal.entries-requires
entries-requires c =
    let r = the_row (goal.at.entries-requires c).After-row_of-operation in
    omega (arith, r.whole, r.few_items)

pub entries-requires-2 : goal.entries-requires-2
entries-requires-2 c =
    let r = the_row (goal.at.entries-requires-2 c).After-row_of-operation in
    omega (arith, r.whole, r.few_kinds)

-- what taking its items comes to
items_taken :
    (c : After-items)
    → let k = c.args.stack.now in
    let t = c.args.table.now in
    let row = row_from t (row_place t c.in-Some.entry) in
    (left_of k.cells k.counts.base c.items.result
    ≡ take_items limits kinds (map item (field 256 row)) (sight_of k.cells k.counts.base k.counts.seen))
    × at_most k.counts.seen c.items.result
items_taken c =
    let k = c.args.stack.now in
    let e = c.items.ensures in
    rw (c.entries.ensures, c.row_of-operation.ensures) at (of_seen k.cells k.counts.base k.counts.seen c.items.result _ (omega arith) e.0 e.1)

pub returns-in_err-left-clause-answer : goal.returns-in_err-left-clause-answer
returns-in_err-left-clause-answer c step st =
    let a = c.args in
    let k = a.stack.now in
    let p = err_from_is_err_and c.from_residual.result c.from_residual.ensures.1 in
    let taken = items_taken (goal.at.returns-in_err-left-clause-answer c).After-items in
    rw (p.1, p.2, the_operation (goal.at.returns-in_err-left-clause-answer c).After-find, c.in-Some.is)
    (refused a.table.now c.in-Some.entry a.text.now k.cells k.bases k.index k.whats k.counts step c.items.result taken.0 k
    c.in_err-left.field-0.0 c.in_err-left.was)

pub given-requires : goal.given-requires
unfolding at_most
given-requires c =
    let r = the_row (goal.at.given-requires c).After-row_of-operation in
    let taken = items_taken (goal.at.given-requires c).After-items in
    let fewer : c.in_ok-left.left ≤ c.args.stack.now.counts.seen = rw c.in_ok-left.was at taken.1 in
    (omega arith, fewer, rw c.entries-2.ensures r.short, rw c.entries-2.ensures r.low)

pub returns-clause-answer : goal.returns-clause-answer
returns-clause-answer c step st =
    let a = c.args in
    let k = a.stack.now in
    let taken = items_taken (goal.at.returns-clause-answer c).After-items in
    let rest =
    left a.table.now c.in-Some.entry a.text.now k.cells k.bases k.index k.whats k.counts step c.items.result taken.0 c.in_ok-left.left
    c.in_ok-left.was in
    rw (the_operation (goal.at.returns-clause-answer c).After-find, c.in-Some.is, rest)
    (rw (c.entries-2.ensures, c.row_of-operation.ensures) at (c.given.ensures.answer step a.text.now st))
