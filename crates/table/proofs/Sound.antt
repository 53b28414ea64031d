-- What a sound table says of each of its rows, and what its operations are.
use mathlib.Core.Path.{◌≡◌, refl, sym, ◌∙◌, ap}
use mathlib.Core.Bool.{Bool, true, false, ◌&&◌}
use mathlib.Core.List.{List, [], ◌∷◌}
use mathlib.Core.Option.{none, some}
use Prim.Native.Nat.{ℕ, zero, suc, ◌+◌, ◌-◌, ◌*◌, ◌%◌, ◌<◌, ◌≤◌}
use native.Mathlib.Omega.{arith}
use native.Mathlib.Nat.{div-mul-le_self}
use lib.Dec.{leb, ltb, eqb}
use lib.ListN.{length, get_or, drop}
use lib.Seq.{drop-drop}
use Rattle.chars.specs.Limits.{Limits}
use Rattle.std.specs.Prelude.{if◌then◌else◌}
use Rattle.chars.proofs.Cases.{both, either}
use Rattle.table.specs.Table.{field, all_below, field_sound, row_sound, rows_of, rows_sound, distinct, operations}
use Rattle.table.specs.Entered.{sound, row_count, row_place, row_from, operations_of}
use Rattle.table.proofs.Fields.{field_parts}

-- the rows of a table
pub rows_length : (n : ℕ) (table : List ℕ) → length (rows_of n table) ≡ n
unfolding rows_of
rows_length zero table = refl
rows_length (suc n) table = ap suc (rows_length n (drop 274 table))

pub rows_entry : (n : ℕ) (table : List ℕ) (j : ℕ) → j < n → get_or (rows_of n table) j [] ≡ row_from table (j * 274)
unfolding rows_of
rows_entry zero table j h = absurd (omega arith)
rows_entry (suc n) table zero h = refl
rows_entry (suc n) table (suc j) h =
    let e : 274 + j * 274 ≡ suc j * 274 = omega arith in
    rw (rows_entry n (drop 274 table) j (omega arith), drop-drop (j * 274) 274 table, e)

each_sound : (rows : List (List ℕ)) → rows_sound rows ≡ true → (j : ℕ) → j < length rows → row_sound (get_or rows j []) ≡ true
unfolding rows_sound
each_sound [] t j h = absurd (omega arith)
each_sound (row ∷ rows) t zero h = (both (row_sound row) (rows_sound rows) t).0
each_sound (row ∷ rows) t (suc j) h = each_sound rows (both (row_sound row) (rows_sound rows) t).1 j (omega arith)

row_parts :
    (row : List ℕ) → row_sound row ≡ true → (field_sound 256 8 32 row ≡ true) × (field_sound 265 8 16 row ≡ true)
unfolding row_sound
row_parts row t =
    let named = ltb 0 (get_or row 0 0) && field_sound 0 255 256 row in
    let last = both (named && field_sound 256 8 32 row) (field_sound 265 8 16 row) t in
    ((both named (field_sound 256 8 32 row) last.0).1, last.1)

-- the tests that a table passes: of its length, and of its rows
abbrev pub counted : Limits → (table : List ℕ) → Bool
counted L table = eqb (length table % 274) 0 && leb (row_count table) L.operations

abbrev pub rows_pass : (table : List ℕ) → Bool
rows_pass table = rows_sound (rows_of (row_count table) table) && distinct (operations_of table)

module _ (L : Limits) (table : List ℕ) where
  by_tests : operations L table ≡ (if counted L table && rows_pass table then some (operations_of table) else none)
  unfolding operations operations_of
  by_tests = either (counted L table) (λ t. rw (t, operations)) (λ t. rw (t, operations))

  pub sound_tests : sound L table ≡ counted L table && rows_pass table
  unfolding sound
  sound_tests =
      either (counted L table && rows_pass table) (λ t. rw (by_tests, sound, t)) (λ t. rw (by_tests, sound, t))

  pub operations_sound : sound L table ≡ true → operations L table ≡ some (operations_of table)
  operations_sound s = rw (by_tests, sym sound_tests ∙ s)

  pub operations_unsound : sound L table ≡ false → operations L table ≡ none
  operations_unsound s = rw (by_tests, sym sound_tests ∙ s)

  module _ (s : sound L table ≡ true) (j : ℕ) (h : j < row_count table) where
    row_there : row_place table j + 274 ≤ length table
    row_there = omega (arith, div-mul-le_self (length table) 274)

    row_is_sound : row_sound (row_from table (row_place table j)) ≡ true
    row_is_sound =
        let n = row_count table in
        let i = n - 1 - j in
        let rows = rows_of n table in
        let l = rows_length n table in
        let passed = (both (counted L table) (rows_pass table) (sym sound_tests ∙ s)).1 in
        let all = (both (rows_sound rows) (distinct (operations_of table)) passed).0 in
        rw (rows_entry n table i (omega arith)) at (each_sound rows all i (omega arith))

    -- a sound table's row is there, with at most eight items and at most eight kinds, which are below 16
    pub sound_row :
        let row = row_from table (row_place table j) in
        (row_place table j + 274 ≤ length table) × (get_or row 256 0 ≤ 8) × (get_or row 265 0 ≤ 8) × (all_below 16 (field 265 row) ≡ true)
    sound_row =
        let row = row_from table (row_place table j) in
        let parts = row_parts row row_is_sound in
        let gives = field_parts 265 8 16 row parts.1 in
        (row_there, (field_parts 256 8 32 row parts.0).0, gives.0, gives.1)
