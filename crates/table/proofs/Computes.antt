-- Naming `computes` on an `unfolding` line has every definition of this crate's specs/ compute there.
use Rattle.table.specs.Table.{field, all_below, field_sound, row_sound, item, operation_of, rows_of, rows_sound, find, found}
use Rattle.table.specs.Table.{distinct, operations}
use Rattle.table.specs.Entered.{sound, operations_of, operation_at, last_operations, newly}

unfoldable pub computes : Unit {0}
unfolding field all_below field_sound row_sound item operation_of rows_of rows_sound find found distinct operations sound operations_of
    operation_at last_operations newly
computes = tt
