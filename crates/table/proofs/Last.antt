-- The rows of a table from the last to the first: with each that is sound and has a name of its own the last rows pass with one more, and
-- where one is not so, the table does not pass.
use mathlib.Core.Path.{◌≡◌, refl, sym, ◌∙◌}
use mathlib.Core.Bool.{Bool, true, false, not, ◌&&◌, and-false, false≢true}
use mathlib.Core.List.{List, [], ◌∷◌, map}
use Prim.Native.Nat.{ℕ, zero, suc, ◌+◌, ◌-◌, ◌<◌, ◌≤◌}
use native.Mathlib.Omega.{arith}
use native.Mathlib.Nat.{add-zero, add-suc, sub_self}
use lib.ListN.{length, drop, drop_of_length-le}
use lib.Seq.{drop-cons}
use Rattle.chars.proofs.Cases.{both, either}
use Rattle.table.specs.Table.{Operation, operation_of, rows_of, row_sound, rows_sound, find, found, distinct}
use Rattle.table.specs.Entered.{row_count, row_place, row_from, operations_of, last_operations, newly}
use Rattle.table.proofs.Sound.{rows_length, rows_entry, rows_pass}

drop_map : (f : List ℕ → Operation) (n : ℕ) (l : List (List ℕ)) → drop n (map f l) ≡ map f (drop n l)
drop_map f zero l = refl
drop_map f (suc n) [] = refl
drop_map f (suc n) (x ∷ l) = drop_map f n l

-- two pairs of tests, taken crosswise
crosswise : (a b c d : Bool) → ((a && b) && (c && d)) ≡ ((a && c) && (b && d))
crosswise true true c d = refl
crosswise true false c d = sym (and-false c)
crosswise false b c d = refl

-- the last `k` rows
abbrev last_rows : (table : List ℕ) (k : ℕ) → List (List ℕ)
last_rows table k = drop (row_count table - k) (rows_of (row_count table) table)

-- they pass the tests of a table's rows
abbrev pub last_pass : (table : List ℕ) (k : ℕ) → Bool
last_pass table k = rows_sound (last_rows table k) && distinct (last_operations table k)

module _ (table : List ℕ) where
  last_operations_lem : (k : ℕ) → last_operations table k ≡ map operation_of (last_rows table k)
  unfolding last_operations operations_of
  last_operations_lem k = drop_map operation_of (row_count table - k) (rows_of (row_count table) table)

  next_row : (k : ℕ) → k < row_count table → last_rows table (suc k) ≡ row_from table (row_place table k) ∷ last_rows table k
  next_row k h =
      let n = row_count table in
      let rows = rows_of n table in
      let j = n - suc k in
      let one : suc j ≡ n - k = omega arith in
      let same : j ≡ n - 1 - k = omega arith in
      let l = rows_length n table in
      drop-cons rows j [] (omega arith) ∙ rw (rows_entry n table j (omega arith), one, same)

  pub next_operation :
      (k : ℕ) → k < row_count table
      → last_operations table (suc k) ≡ operation_of (row_from table (row_place table k)) ∷ last_operations table k
  next_operation k h = rw (last_operations_lem, next_row k h, ← last_operations_lem)

  no_rows : last_rows table 0 ≡ []
  no_rows =
      let n = row_count table in
      let all : length (rows_of n table) ≤ n - 0 = omega (arith, rows_length n table) in
      drop_of_length-le (rows_of n table) all

  pub no_operations : last_operations table 0 ≡ []
  no_operations = last_operations_lem 0 ∙ rw no_rows

  pub pass_none : last_pass table 0 ≡ true
  unfolding rows_sound distinct
  pass_none = rw (no_rows, no_operations)

  pub pass_next : (k : ℕ) → k < row_count table → last_pass table (suc k) ≡ newly table k && last_pass table k
  unfolding newly rows_sound distinct
  pass_next k h =
      let row = row_from table (row_place table k) in
      let os = last_operations table k in
      rw (next_row k h, next_operation k h)
      (crosswise (row_sound row) (rows_sound (last_rows table k)) (not (found (find (operation_of row).name os))) (distinct os))

  -- where more of the last rows pass, fewer do
  fewer_pass : (m k : ℕ) → k + m ≤ row_count table → last_pass table (k + m) ≡ true → last_pass table k ≡ true
  fewer_pass zero k h t = rw (add-zero k) at t
  fewer_pass (suc m) k h t =
      let next = rw (add-suc k m) at t in
      fewer_pass m k (omega arith) (both (newly table (k + m)) _ (sym (pass_next (k + m) (omega arith)) ∙ next)).1

  pub pass_all : last_pass table (row_count table) ≡ rows_pass table
  unfolding last_operations
  pass_all = rw (sub_self (row_count table))

  pub not_newly : (k : ℕ) → k < row_count table → newly table k ≡ false → rows_pass table ≡ false
  not_newly k h t =
      let n = row_count table in
      let all : suc k + (n - suc k) ≡ n = omega arith in
      either (rows_pass table)
      (λ u.
      let more = fewer_pass (n - suc k) (suc k) (omega arith) (rw all (pass_all ∙ u)) in
      absurd (false≢true (sym t ∙ (both (newly table k) _ (sym (pass_next k h) ∙ more)).0)))
      (λ u. u)
