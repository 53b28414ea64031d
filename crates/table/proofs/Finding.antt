-- An operation is found in the index of the names as it is found in the list: the entries are the rows from the last to the first, and the
-- one entered last is found first.
use mathlib.Core.Path.{◌≡◌, refl, sym, ◌∙◌, ap}
use mathlib.Core.Bool.{true, not}
use mathlib.Core.List.{List}
use Prim.Native.Nat.{ℕ, zero, suc, ◌+◌, ◌<◌, ◌≤◌}
use native.Mathlib.Omega.{arith}
use native.Mathlib.Nat.{sub_self}
use lib.Dec.{eqb}
use lib.ListN.{get_or, take, drop}
use borrow.Author.Tests.{ne_eqb}
use Rattle.chars.specs.Choice.{same}
use Rattle.chars.proofs.Cases.{either}
use Rattle.std.proofs.Common.{Option, Some, None, is_some}
use Rattle.names.specs.Index.{key_of, position, found_of}
use Rattle.table.specs.Table.{row_sound, operation_of, find, found}
use Rattle.table.specs.Entered.{Entered, row_count, row_place, row_from, operations_of, operation_at, last_operations, newly}
use Rattle.table.proofs.Rows.{row_name}
use Rattle.table.proofs.Last.{next_operation, no_operations}

-- an entry of the index that is found or not
pub no_entry : (r : Option ℕ) → not (is_some r) ≡ eqb (found_of r) 0
no_entry None = refl
no_entry (Some j) = sym (ne_eqb (suc j) 0 (λ z. omega arith))

not_found : (table : List ℕ) (q : ℕ) → not (found (operation_at table q)) ≡ eqb q 0
unfolding found operation_at
not_found table zero = refl
not_found table (suc j) = sym (ne_eqb (suc j) 0 (λ z. omega arith))

module _ (table index : List ℕ) (count : ℕ) (e : Entered table index count) where
  entry_name : (j : ℕ) → j < count → key_of table index j ≡ (operation_of (row_from table (row_place table j))).name
  unfolding key_of
  entry_name j h =
      rw (e.lengths j h, e.places j h) (sym (row_name table (row_place table j) (e.short j h)))

  found_last :
      (name : List ℕ) (n : ℕ) → n ≤ count → find name (last_operations table n) ≡ operation_at table (position (key_of table index) name n)
  unfolding find position operation_at
  found_last name zero h = rw no_operations
  found_last name (suc n) h =
      let o = operation_of (row_from table (row_place table n)) in
      let few = e.few in
      rw (next_operation table n (omega arith), entry_name n (omega arith))
      (either (same name o.name)
      (λ t. rw t)
      (λ t. rw t (found_last name n (omega arith))))

  found_entered :
      (name : List ℕ) → find name (last_operations table count) ≡ operation_at table (position (key_of table index) name count)
  found_entered name = found_last name count (omega arith)

  -- whether the next row is sound and has a name of its own
  pub newly_by_index :
      (p n q : ℕ) → p ≡ row_place table count → n ≡ get_or table p 0 → n < 256 → row_sound (row_from table p) ≡ true
      → q ≡ position (key_of table index) (take n (drop (p + 1) table)) count → newly table count ≡ eqb q 0
  unfolding newly
  newly_by_index p n q here long short t z =
      let name = take n (drop (p + 1) table) in
      let named : (operation_of (row_from table p)).name ≡ name = rw long (row_name table p (omega arith)) in
      rw (← here, t, named, found_entered name, z) (not_found table (position (key_of table index) name count))

-- once all are entered
pub find_operation :
    (table index : List ℕ) → Entered table index (row_count table) → (name : List ℕ)
    → find name (operations_of table) ≡ operation_at table (position (key_of table index) name (row_count table))
unfolding last_operations
find_operation table index e name =
    ap (find name) (rw (sub_self (row_count table))) ∙ found_entered table index (row_count table) e name
