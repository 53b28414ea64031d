-- What was read stands in the buffers: a reading leaves the rows of its entities at the front of the list and their text and data at the
-- front of the text buffer, and from there each entity can be had again.
use mathlib.Core.Path.{◌≡◌, refl, sym, ◌∙◌, ap}
use mathlib.Core.Bool.{Bool, true, false, false≢true}
use mathlib.Core.List.{List, [], ◌∷◌, ◌++◌, append_assoc}
use Prim.Native.Nat.{ℕ, zero, suc, ◌+◌, ◌-◌, ◌*◌, ◌<◌, ◌≤◌}
use native.Mathlib.Omega.{arith}
use lib.Dec.{ltb, eqb}
use lib.ListN.{length, get_or, take, drop, length-append}
use lib.Seq.{take_at, drop_at, drop-drop, get_or-append-add}
use borrow.Author.Tests.{eqb-true}
use Rattle.chars.specs.Choice.{within}
use Rattle.chars.specs.Limits.{limits}
use Rattle.chars.proofs.Cases.{either, both}
use Rattle.entities.specs.Entity.{Entity, kind_number, size, texts, rows}
use Rattle.entities.proofs.Listing.{rows_length}
use Rattle.reading.specs.WellMade.{made, well_made}
use Rattle.rules.proofs.Ending.{place_at}
use Rattle.cells.proofs.Going.{kind_of_number}
use Rattle.sight.specs.Row.{place_in, text_at_in, text_len_in, text_in}
use Rattle.cells.specs.Kept.{entity_at, entities_from, grouped, Held}

-- what stands behind so many numbers
behind : (front back : List ℕ) (i k : ℕ) → length front ≡ i * 6 → get_or (front ++ back) (i * 6 + k) 0 ≡ get_or back k 0
behind front back i k h = rw (← h) (get_or-append-add front back k 0)

-- The entities `es` stand from row `i` on, behind `front`, and their text behind `before`.
module _ (e : Entity) (es : List Entity) (front before rest rest' : List ℕ) (i : ℕ) (f : length front ≡ i * 6) where
  abbrev list : List ℕ
  list = front ++ (rows (length before) (e ∷ es) ++ rest)

  abbrev text : List ℕ
  text = before ++ (texts (e ∷ es) ++ rest')

  stands : (k : ℕ) → get_or list (i * 6 + k) 0 ≡ get_or (rows (length before) (e ∷ es) ++ rest) k 0
  stands k = behind front (rows (length before) (e ∷ es) ++ rest) i k f

  kind_stands : get_or list (i * 6) 0 ≡ kind_number e.kind
  unfolding rows
  kind_stands = let at : i * 6 ≡ i * 6 + 0 = omega arith in rw at (stands 0)

  first_text : take (length e.text) (drop (length before) text) ≡ e.text
  unfolding texts
  first_text =
      rw (drop_at before (texts (e ∷ es) ++ rest') (length before) refl, append_assoc)
      (take_at e.text _ (length e.text) refl)

  first_string : take (length e.string) (drop (length before + length e.text) text) ≡ e.string
  unfolding texts
  first_string =
      rw (
        ← drop-drop (length e.text) (length before) text,
        drop_at before (texts (e ∷ es) ++ rest') (length before) refl,
        append_assoc e.text (e.string ++ texts es) rest',
        drop_at e.text ((e.string ++ texts es) ++ rest') (length e.text) refl,
        append_assoc e.string (texts es) rest',
      )
      (take_at e.string (texts es ++ rest') (length e.string) refl)

  first : entity_at list text i ≡ e
  unfolding entity_at text_in rows
  first =
      rw (kind_stands, stands 1, stands 2, stands 3, stands 4, stands 5, kind_of_number e.kind, first_text, first_string)

  first_inside : text_at_in list i + text_len_in list i ≤ length text
  unfolding rows texts
  first_inside =
      rw (stands 2, stands 3, length-append, length-append, length-append) (omega arith)

  -- the rest stands behind the first
  abbrev front' : List ℕ
  front' =
      front
      ++ (kind_number e.kind ∷ e.place ∷ length before ∷ length e.text ∷ length e.string ∷ e.count ∷ [])

  abbrev before' : List ℕ
  before' = before ++ (e.text ++ e.string)

  front_length : length front' ≡ suc i * 6
  front_length = rw length-append (omega arith)

  list_on : list ≡ front' ++ (rows (length before') es ++ rest)
  unfolding rows size
  list_on =
      rw (length-append before (e.text ++ e.string), length-append e.text e.string) (sym (append_assoc front _ _))

  text_on : text ≡ before' ++ (texts es ++ rest')
  unfolding texts
  text_on = simp append_assoc

pub entities_kept :
    (es : List Entity) (front before rest rest' : List ℕ) (i : ℕ) → length front ≡ i * 6
    → entities_from (front ++ (rows (length before) es ++ rest)) (before ++ (texts es ++ rest')) i (length es) ≡ es
unfolding entities_from
entities_kept [] front before rest rest' i f = refl
entities_kept (e ∷ es) front before rest rest' i f =
    let behind_front = front' e es front before rest rest' i f in
    let behind_before = before' e es front before rest rest' i f in
    let on : entities_from (list e es front before rest rest' i f) (text e es front before rest rest' i f) (suc i) (length es) ≡ es =
    ap (λ l. entities_from l (text e es front before rest rest' i f) (suc i) (length es)) (list_on e es front before rest rest' i f)
    ∙ ap (λ t. entities_from (behind_front ++ (rows (length behind_before) es ++ rest)) t (suc i) (length es))
    (text_on e es front before rest rest' i f)
    ∙ entities_kept es behind_front behind_before rest rest' (suc i) (front_length e es front before rest rest' i f) in
    rw (first e es front before rest rest' i f) (ap (λ l. e ∷ l) on)

texts_inside :
    (es : List Entity) (front before rest rest' : List ℕ) (i : ℕ) → length front ≡ i * 6 → (j : ℕ) → j < length es
    → text_at_in (front ++ (rows (length before) es ++ rest)) (i + j) + text_len_in (front ++ (rows (length before) es ++ rest)) (i + j)
    ≤ length (before ++ (texts es ++ rest'))
texts_inside [] front before rest rest' i f j h = absurd (omega arith)
texts_inside (e ∷ es) front before rest rest' i f zero h =
    let here : i + 0 ≡ i = omega arith in rw here (first_inside e es front before rest rest' i f)
texts_inside (e ∷ es) front before rest rest' i f (suc j) h =
    let on : i + suc j ≡ suc i + j = omega arith in
    rw (on, list_on e es front before rest rest' i f, text_on e es front before rest rest' i f)
    (texts_inside es (front' e es front before rest rest' i f) (before' e es front before rest rest' i f) rest rest' (suc i)
    (front_length e es front before rest rest' i f) j (omega arith))

none_behind : (most d : ℕ) (es : List Entity) → eqb (length es) 0 ≡ true → grouped most d es ≡ true
unfolding grouped
none_behind most d [] h = refl
none_behind most d (e ∷ es) h = absurd (omega (arith, eqb-true (suc (length es)) 0 h))

-- entities that are well made never close a group that is not open, nor have too many open
pub grouped_made : (most d : ℕ) (m : Bool) (es : List Entity) → made most m d es ≡ true → grouped most d es ≡ true
unfolding made grouped
grouped_made most d m [] g = refl
grouped_made most d true (e ∷ es) g =
    let k = kind_number e.kind in
    either (eqb k 6) (λ t. absurd (false≢true (rw (eqb-true k 6 t) at g))) (λ t6.
    either (eqb k 7) (λ t. absurd (false≢true (rw (eqb-true k 7 t) at g))) (λ t7.
    rw (t6, t7) (either (eqb k 2)
    (λ t. grouped_made most d false es (rw t at g))
    (λ t. grouped_made most d true es (both (within 3 5 k) _ (rw t at g)).1))))
grouped_made most d false (e ∷ es) g =
    let k = kind_number e.kind in
    either (eqb k 6)
    (λ t. let two = both (ltb d most) _ (rw (eqb-true k 6 t) at g) in rw (t, two.0) (grouped_made most (suc d) false es two.1))
    (λ t6. either (eqb k 7)
    (λ t. let two = both (ltb 0 d) _ (rw (eqb-true k 7 t) at g) in rw (t6, t, two.0) (grouped_made most (d - 1) false es two.1))
    (λ t7. rw (t6, t7) (either (eqb k 1)
    (λ t. grouped_made most d true es (rw t at g))
    (λ t1. either (eqb k 17)
    (λ t. none_behind most d es (both (eqb d 0) _ (rw (t1, t6, t7, t) at g)).1)
    (λ t17. grouped_made most d false es (both (within 8 16 k) _ (rw (t1, t6, t7, t17) at g)).1)))))

module _ (es : List Entity) (rest rest' : List ℕ) where
  -- the entities of a reading, from the buffers that it leaves
  pub kept : entities_from (rows 0 es ++ rest) (texts es ++ rest') 0 (length es) ≡ es
  kept = entities_kept es [] [] rest rest' 0 refl

  pub held : well_made limits es ≡ true → Held (rows 0 es ++ rest) (texts es ++ rest') (length es)
  unfolding well_made
  held made-well =
      record {
        rows = rw (length-append, rows_length 0 es) (omega arith);
        texts = λ i h. let at : 0 + i ≡ i = omega arith in rw at at (texts_inside es [] [] rest rest' 0 refl i h);
        groups = rw kept (grouped_made 64 0 false es made-well);
      }

-- the place of an entity stands in its row
place_from :
    (list text : List ℕ) (i n j : ℕ) → j < n → place_at (entities_from list text i n) j ≡ place_in list (i + j)
unfolding entities_from place_at entity_at
place_from list text i zero j h = absurd (omega arith)
place_from list text i (suc n) zero h = let at : i + 0 ≡ i = omega arith in rw at
place_from list text i (suc n) (suc j) h =
    let on : i + suc j ≡ suc i + j = omega arith in
    rw on (place_from list text (suc i) n j (omega arith))

pub place_kept : (es : List Entity) (rest : List ℕ) (j : ℕ) → j < length es → place_in (rows 0 es ++ rest) j ≡ place_at es j
place_kept es rest j h =
    let at : 0 + j ≡ j = omega arith in
    rw at at (sym (place_from (rows 0 es ++ rest) (texts es ++ []) 0 (length es) j h) ∙ ap (λ l. place_at l j) (kept es rest []))
