-- A table's operations in an index of their names (names/Index). The last row is entered first, so that what is found first is the first
-- of the rows entered.
use Rattle.std.specs.Prelude.{ℕ, zero, suc, ◌+◌, ◌-◌, ◌*◌, ◌/◌, ◌<◌, ◌≤◌, ◌≡◌, Bool, true, false, not, ◌&&◌, List, map, length, get_or, take, drop}
use Rattle.std.proofs.Math.Option.{Option, none, some}
use Rattle.chars.specs.Limits.{Limits}
use Rattle.names.specs.Index.{Indexed, begin_at, length_at}
use Rattle.table.specs.Table.{Operation, operation_of, operations, rows_of, row_sound, find, found, width}

-- whether the table's bytes are sound
unfoldable pub sound : Limits → (table : List ℕ) → Bool
sound L table = elim (operations L table) [ none ↦ false | some os ↦ true ]

-- how many rows a table has
abbrev pub row_count : (table : List ℕ) → ℕ
row_count table = length table / width

-- where the row of an entry begins, the entries counted from 0
abbrev pub row_place : (table : List ℕ) → (entry : ℕ) → ℕ
row_place table j = (row_count table - 1 - j) * width

-- the row that begins at a place
abbrev pub row_from : (table : List ℕ) → (place : ℕ) → List ℕ
row_from table place = take width (drop place table)

-- the operations of the table's rows
unfoldable pub operations_of : (table : List ℕ) → List Operation
operations_of table = map operation_of (rows_of (row_count table) table)

-- the operation of an entry, counted from 1, or none for 0
unfoldable pub operation_at : (table : List ℕ) → (position : ℕ) → Option Operation
operation_at table zero = none
operation_at table (suc j) = some (operation_of (row_from table (row_place table j)))

-- the operations of the last `count` rows
unfoldable pub last_operations : (table : List ℕ) → (count : ℕ) → List Operation
last_operations table count = drop (row_count table - count) (operations_of table)

-- the row before the last `count` rows is sound, and none of those has its name
unfoldable pub newly : (table : List ℕ) → (count : ℕ) → Bool
newly table count =
    let row = row_from table (row_place table count) in
    row_sound row && not (found (find (operation_of row).name (last_operations table count)))

-- the last `count` rows are entered
pub record Entered (table index : List ℕ) (count : ℕ) : Type 0 where
  pub indexed : Indexed table index count
  -- the array has all its numbers
  pub whole : length index ≡ 1792
  pub few : count ≤ row_count table
  pub places : (j : ℕ) → j < count → get_or index (begin_at j) 0 ≡ row_place table j + 1
  pub lengths : (j : ℕ) → j < count → get_or index (length_at j) 0 ≡ get_or table (row_place table j) 0
  -- a length is a byte
  pub short : (j : ℕ) → j < count → get_or table (row_place table j) 0 < 256
