-- A row is a part of the table, and a part of a row is one too: the fields of the operation that begins at a place are read where they
-- stand in the table.
use mathlib.Core.Path.{◌≡◌, ◌∙◌, ap}
use mathlib.Core.Bool.{true, ◌&&◌}
use mathlib.Core.List.{List, [], ◌∷◌}
use Prim.Native.Nat.{ℕ, zero, suc, ◌+◌, ◌-◌, ◌<◌, ◌≤◌}
use native.Mathlib.Omega.{arith}
use native.Mathlib.Nat.{add-zero, zero-add, suc-add}
use lib.Dec.{ltb}
use lib.ListN.{get_or, take, drop, length-take}
use lib.Seq.{take-nil, take-take, get_or-take, get_or-drop, drop-drop}
use Rattle.table.specs.Table.{field, all_below, field_sound, row_sound, operation_of}
use Rattle.table.specs.Entered.{row_from}
use Rattle.table.proofs.Below.{part_below, all_each}
use Rattle.table.proofs.Fields.{field_zeros}

-- what is left of the first entries behind some of them
pub drop_take : (m n : ℕ) (l : List ℕ) → drop m (take (m + n) l) ≡ take n (drop m l)
drop_take zero n l = rw zero-add
drop_take (suc m) n [] = rw (suc-add, take-nil)
drop_take (suc m) n (x ∷ l) = rw suc-add (drop_take m n l)

part : (m n w : ℕ) (l : List ℕ) → m + n ≤ w → take n (drop m (take w l)) ≡ take n (drop m l)
part m n w l h =
    let e : w ≡ m + (w - m) = omega arith in
    rw e (ap (take n) (drop_take m (w - m) l) ∙ take-take n (w - m) (drop m l) (omega arith))

module _ (table : List ℕ) (p : ℕ) where
  pub row_entry : (k : ℕ) → k < 274 → get_or (row_from table p) k 0 ≡ get_or table (p + k) 0
  row_entry k h = get_or-take 274 (drop p table) k 0 h ∙ get_or-drop p table k 0

  pub row_part : (k n : ℕ) → k + n ≤ 274 → take n (drop k (row_from table p)) ≡ take n (drop (p + k) table)
  row_part k n h = part k n 274 (drop p table) h ∙ ap (take n) (drop-drop k p table)

  pub row_name : get_or table p 0 < 256 → (operation_of (row_from table p)).name ≡ take (get_or table p 0) (drop (p + 1) table)
  unfolding operation_of field
  row_name h = rw (row_entry 0 (omega arith), add-zero p) (row_part 1 (get_or table p 0) (omega arith))

-- whether a row of bytes is sound, from its parts
module _ (row : List ℕ) (bytes : (k : ℕ) → get_or row k 0 < 256) where
  name_bytes : all_below 256 (field 0 row) ≡ true
  unfolding field
  name_bytes =
      let n = get_or row 0 0 in
      all_each 256 (take n (drop 1 row))
      (λ k h.
      let l = length-take n (drop 1 row) in
      rw (get_or-take n (drop 1 row) k 0 (omega arith), get_or-drop 1 row k 0) (bytes (1 + k)))

  pub row_of_bytes :
      row_sound row
      ≡ ltb 0 (get_or row 0 0) && part_below 1 row (1 + get_or row 0 0) 256 && field_sound 256 8 32 row && field_sound 265 8 16 row
  unfolding row_sound
  row_of_bytes =
      let n = get_or row 0 0 in
      let e : 256 - (1 + n) ≡ 255 - n = omega arith in
      rw (field_zeros 0 255 256 row (omega (arith, bytes 0)) name_bytes, e)
