-- The table of operations: from bytes to operations, or refusal 20 (document 01, "Cells and operations"; docs/LAYOUT.md).
use Rattle.std.specs.Prelude.{ℕ, zero, suc, ◌+◌, ◌-◌, ◌/◌, ◌%◌, Bool, true, false, not, ◌&&◌, List, [], ◌∷◌, map, leb, ltb, eqb, length, get_or, take, drop, if◌then◌else◌}
use Rattle.std.proofs.Math.Option.{Option, none, some}
use Rattle.chars.specs.Limits.{Limits}
use Rattle.chars.specs.Choice.{same}

-- a taken item: a cell of a kind, or "array of" a kind, which is a count and as many cells of that kind
pub data Item : Type 0 where
  one array_of : (kind : ℕ) → Item

pub record Operation : Type 0 where
  pub name : List ℕ
  -- top first
  pub takes : List Item
  -- the last left on top
  pub gives : List ℕ

-- 274 bytes to an operation: a length and 255 bytes of name, a length and 8 taken items, a length and 8 kinds given
abbrev pub width : ℕ
width = 274

-- the entries of a field that begins with their number
unfoldable pub field : (at : ℕ) → (row : List ℕ) → List ℕ
field at row = take (get_or row at 0) (drop (at + 1) row)

-- every entry is below `bound`
unfoldable pub all_below : (bound : ℕ) → List ℕ → Bool
all_below bound [] = true
all_below bound (n ∷ ns) = ltb n bound && all_below bound ns

-- The field has at most `room` entries, each below `bound`, and only zeros behind them.
unfoldable pub field_sound : (at room bound : ℕ) → (row : List ℕ) → Bool
field_sound at room bound row =
    let n = get_or row at 0 in
    leb n room && all_below bound (field at row) && all_below 1 (take (room - n) (drop (at + 1 + n) row))

-- a name of 1 to 255 bytes, at most 8 items (kinds 0 to 15, or 16 more for an array of them), at most 8 kinds of 0 to 15
unfoldable pub row_sound : (row : List ℕ) → Bool
row_sound row =
    ltb 0 (get_or row 0 0) && field_sound 0 255 256 row && field_sound 256 8 32 row && field_sound 265 8 16 row

unfoldable pub item : ℕ → Item
item n = if ltb n 16 then one n else array_of (n - 16)

unfoldable pub operation_of : (row : List ℕ) → Operation
operation_of row = record { name = field 0 row; takes = map item (field 256 row); gives = field 265 row }

-- the first `n` rows of the table
unfoldable pub rows_of : (n : ℕ) → (table : List ℕ) → List (List ℕ)
rows_of zero table = []
rows_of (suc n) table = take width table ∷ rows_of n (drop width table)

unfoldable pub rows_sound : List (List ℕ) → Bool
rows_sound [] = true
rows_sound (row ∷ rows) = row_sound row && rows_sound rows

-- the operation of this name
unfoldable pub find : (name : List ℕ) → List Operation → Option Operation
find name [] = none
find name (o ∷ os) = if same name o.name then some o else find name os

unfoldable pub found : Option Operation → Bool
found none = false
found (some o) = true

-- no two names are equal
unfoldable pub distinct : List Operation → Bool
distinct [] = true
distinct (o ∷ os) = not (found (find o.name os)) && distinct os

-- the operations of a table, if its bytes are sound; all other bytes are 20
unfoldable pub operations : Limits → (table : List ℕ) → Option (List Operation)
operations L table =
    let n = length table / width in
    let rows = rows_of n table in
    let os = map operation_of rows in
    elim (eqb (length table % width) 0 && leb n L.operations) [
      | true ↦ if rows_sound rows && distinct os then some os else none
      | false ↦ none
    ]
