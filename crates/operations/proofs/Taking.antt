-- Taking from the cells in sight, the top first: what is left of them, one cell at a time and one item at a time. A slice has the cells in
-- sight with the top last.
use mathlib.Core.Path.{◌≡◌, refl, sym, ◌∙◌, ap}
use mathlib.Core.Bool.{Bool, and_comm}
use mathlib.Core.List.{List, [], ◌∷◌, ◌++◌, map}
use Prim.Native.Nat.{ℕ, zero, suc, ◌+◌, ◌-◌, ◌<◌, ◌≤◌}
use native.Mathlib.Omega.{arith}
use native.Mathlib.Nat.{zero-add}
use native.Mathlib.Numerals.{add-one}
use lib.Dec.{eqb}
use lib.ListN.{length, get_or, take, drop, length-drop, length-append, get_or-append}
use lib.Seq.{drop-cons, take-suc, length-take-le, take_all, get_or-take, get_or-drop, get_or-append_seam}
use borrow.Author.Tests.{lt-ltb, le-ltb}
use Rattle.chars.specs.Limits.{limits}
use Rattle.chars.specs.Refusal.{number_of}
use Rattle.chars.specs.declared.refusal.Refusal.{Refusal}
use Rattle.std.specs.Prelude.{if◌then◌else◌, Result, Ok, Err}
use Rattle.std.specs.List.{list_all}
use Rattle.std.proofs.lemmas.List.Recursion.{and_push}
use Rattle.table.specs.Table.{Item, one, array_of, item}
use Rattle.rules.specs.Cells.{leaves, refuses, all_of, take_array, take_item, take_items}
use Rattle.rules.specs.Kinds.{Checked, wanted_of, kinds}
use Rattle.sight.specs.Arrays.{cell_of, plain_of, sight_of}
use Rattle.operations.specs.Taken.{left_of, at_most}
use Rattle.sight.proofs.Sight.{plain_kind}

-- the same cells in two places
sight_alike :
    (a b : List ℕ) (p q n : ℕ) → ((i : ℕ) → i < n → get_or a (p + i) 0 ≡ get_or b (q + i) 0) → sight_of a p n ≡ sight_of b q n
unfolding sight_of
sight_alike a b p q zero h = refl
sight_alike a b p q (suc n) h = rw (h n (omega arith), sight_alike a b p q n (λ i l. h i (omega arith)))

-- the cells of a slice
pub sliced :
    (cells : List ℕ) (from m : ℕ) → (i : ℕ) → i < m → get_or (take m (drop from cells)) (0 + i) 0 ≡ get_or cells (from + i) 0
sliced cells from m i l = rw zero-add (get_or-take m (drop from cells) i 0 l ∙ get_or-drop from cells i 0)

-- the cells below the top one, and the top one
module _ (cells below : List ℕ) (c : ℕ) (e : cells ≡ below ++ (c ∷ [])) where
  pub under_top : (i : ℕ) → i < length below → get_or cells (0 + i) 0 ≡ get_or below (0 + i) 0
  under_top i h = rw (zero-add, e) (get_or-append below (c ∷ []) 0 i h)

  pub lower_in_sight : sight_of cells 0 (length below) ≡ sight_of below 0 (length below)
  lower_in_sight = sight_alike cells below 0 0 (length below) under_top

  pub top_in_sight : sight_of cells 0 (length cells) ≡ cell_of c ∷ sight_of below 0 (length below)
  unfolding sight_of
  top_in_sight =
      let many : length cells ≡ suc (length below) = omega (arith, ap length e, length-append below (c ∷ [])) in
      let there : get_or cells (0 + length below) 0 ≡ c = rw (zero-add, e) (get_or-append_seam below c [] 0) in
      rw (many, there, lower_in_sight)

-- below so many of the cells in sight are the others
pub below :
    (cells : List ℕ) (base seen n : ℕ) → n ≤ seen → drop n (sight_of cells base seen) ≡ sight_of cells base (seen - n)
unfolding sight_of
below cells base seen zero h = let all : seen - 0 ≡ seen = omega arith in rw all
below cells base zero (suc n) h = absurd (omega arith)
below cells base (suc m) (suc n) h =
    let same : suc m - suc n ≡ m - n = omega arith in rw same (below cells base m n (omega arith))

-- and these are the upper cells, as a slice has them
upper :
    (cells : List ℕ) (base seen n : ℕ) → n ≤ seen → take n (sight_of cells base seen) ≡ sight_of cells (base + (seen - n)) n
unfolding sight_of
upper cells base seen zero h = refl
upper cells base zero (suc n) h = absurd (omega arith)
upper cells base (suc m) (suc n) h =
    let place : base + (suc m - suc n) + n ≡ base + m = omega arith in
    let same : base + (m - n) ≡ base + (suc m - suc n) = omega arith in
    rw (place, upper cells base m n (omega arith), same)

pub upper_slice :
    (cells : List ℕ) (n : ℕ) → n ≤ length cells
    → let from = length cells - n in
    let slice = take (length cells - from) (drop from cells) in
    sight_of slice 0 (length slice) ≡ take n (sight_of cells 0 (length cells))
upper_slice cells n h =
    let from = length cells - n in
    let all : length cells - from ≡ n = omega arith in
    let many : length (take n (drop from cells)) ≡ n = length-take-le n (drop from cells) (omega (arith, length-drop from cells)) in
    rw (all, many, upper cells 0 (length cells) n h, zero-add)
    (sight_alike (take n (drop from cells)) cells 0 from n (sliced cells from n))

-- whether cells are of a kind, by a test of each
module _ (kind : ℕ) where
  abbrev pub of_kind : ℕ → Bool
  of_kind c = eqb (plain_of c) kind

  tested :
      (cells : List ℕ) (n : ℕ) → n ≤ length cells
      → all_of limits kinds kind (sight_of cells 0 n) ≡ list_all of_kind (take n cells)
  unfolding sight_of all_of kinds
  tested cells zero h = refl
  tested cells (suc n) h =
      let next = and_push (list_all of_kind) of_kind refl (λ x xs. refl) (take n cells) (get_or cells n 0) in
      rw (zero-add, plain_kind, tested cells n (omega arith), take-suc cells n 0 (omega arith))
      (and_comm (of_kind (get_or cells n 0)) (list_all of_kind (take n cells)) ∙ sym next)

  pub all_tested : (cells : List ℕ) → list_all of_kind cells ≡ all_of limits kinds kind (sight_of cells 0 (length cells))
  all_tested cells = sym (tested cells (length cells) (omega arith) ∙ rw (take_all (length cells) cells (omega arith)))

-- an item where no cell is in sight
pub none_in_sight : (i : Item) → take_item limits kinds i [] ≡ refuses 22
unfolding take_item
none_in_sight (one kind) = refl
none_in_sight (array_of kind) = refl

-- an item by its number, where there is a cell
pub single :
    (n c : ℕ) (cells : List Checked) → n < 16
    → take_item limits kinds (item n) (cell_of c ∷ cells) ≡ (if eqb (plain_of c) n then leaves cells else refuses 23)
unfolding take_item item kinds
single n c cells h = rw (lt-ltb n 16 h, plain_kind)

pub several :
    (n c : ℕ) (cells : List Checked) → 16 ≤ n
    → take_item limits kinds (item n) (cell_of c ∷ cells)
    ≡ (if eqb (plain_of c) 0 then take_array limits kinds (n - 16) (wanted_of (cell_of c)) cells else refuses 23)
unfolding take_item item kinds
several n c cells h = rw (le-ltb n 16 h, plain_kind)

-- what is at most few is at most more
pub more : (m n : ℕ) (r : Result ℕ Refusal) → m ≤ n → at_most m r → at_most n r
unfolding at_most
more m n (Ok k) h e = omega arith
more m n (Err r) h e = tt

-- the cells in sight as a slice
seen_slice :
    (cells : List ℕ) (base seen : ℕ) → base + seen ≤ length cells
    → let slice = take (base + seen - base) (drop base cells) in
    (length slice ≡ seen) × (sight_of slice 0 (length slice) ≡ sight_of cells base seen)
seen_slice cells base seen h =
    let slice = take (base + seen - base) (drop base cells) in
    let many : length slice ≡ seen =
    length-take-le (base + seen - base) (drop base cells) (omega (arith, length-drop base cells)) ∙ omega arith in
    (many, rw many (sight_alike slice cells 0 base seen (λ i l. sliced cells base (base + seen - base) i (omega arith))))

-- what is left is the same of the same cells
pub left_alike :
    (a b : List ℕ) (p q m : ℕ) (r : Result ℕ Refusal) → at_most m r → ((i : ℕ) → i < m → get_or a (p + i) 0 ≡ get_or b (q + i) 0)
    → left_of a p r ≡ left_of b q r
unfolding at_most left_of
left_alike a b p q m (Ok n) h same = rw (sight_alike a b p q n (λ i l. same i (omega arith)))
left_alike a b p q m (Err r) h same = refl

-- items taken from the cells in sight
pub of_seen :
    (cells : List ℕ) (base seen : ℕ) (r : Result ℕ Refusal) (is : List Item) → base + seen ≤ length cells
    → let slice = take (base + seen - base) (drop base cells) in
    left_of slice 0 r ≡ take_items limits kinds is (sight_of slice 0 (length slice)) → at_most (length slice) r
    → (left_of cells base r ≡ take_items limits kinds is (sight_of cells base seen)) × at_most seen r
of_seen cells base seen r is h e most =
    let slice = take (base + seen - base) (drop base cells) in
    let all = seen_slice cells base seen h in
    let within : at_most seen r = rw all.0 at most in
    let same = left_alike slice cells 0 base seen r within (λ i l. sliced cells base (base + seen - base) i (omega arith)) in
    (rw all.1 at (sym same ∙ e), within)

-- an item taken from the lower cells
pub of_lower :
    (cells : List ℕ) (left : ℕ) (r : Result ℕ Refusal) (i : Item) → left ≤ length cells
    → let lower = take left cells in
    left_of lower 0 r ≡ take_item limits kinds i (sight_of lower 0 (length lower)) → at_most (length lower) r
    → (left_of cells 0 r ≡ take_item limits kinds i (sight_of cells 0 left)) × at_most left r
of_lower cells left r i h e most =
    let lower = take left cells in
    let many : length lower ≡ left = length-take-le left cells h in
    let same = sliced cells 0 left in
    let sight : sight_of lower 0 (length lower) ≡ sight_of cells 0 left = rw many (sight_alike lower cells 0 0 left same) in
    let within : at_most left r = rw many at most in
    (rw sight at (sym (left_alike lower cells 0 0 left r within same) ∙ e), within)

-- The first of some items: where it is refused, all are; where it is taken, what is left is for the others.
module _
    (items cells : List ℕ) (k left : ℕ) (r : Result ℕ Refusal) (inside : k < length items)
    (first : left_of cells 0 r ≡ take_item limits kinds (item (get_or items k 0)) (sight_of cells 0 left)) where
  first_and_rest : map item (drop k items) ≡ item (get_or items k 0) ∷ map item (drop (k + 1) items)
  first_and_rest = rw (drop-cons items k 0 inside, add-one)

  pub refused :
      (rule : Refusal) → r ≡ Err rule → take_items limits kinds (map item (drop k items)) (sight_of cells 0 left) ≡ refuses (number_of rule)
  unfolding take_items left_of
  refused rule e = rw (first_and_rest, ← first, e, take_items)

  pub taken :
      (more : ℕ) → r ≡ Ok more
      → take_items limits kinds (map item (drop k items)) (sight_of cells 0 left)
      ≡ take_items limits kinds (map item (drop (k + 1) items)) (sight_of cells 0 more)
  unfolding take_items left_of
  taken more e = rw (first_and_rest, ← first, e, take_items)
