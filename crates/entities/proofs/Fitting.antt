-- A token that its rules allow, against Making: what does not fit is refused by the number that counting finds, and what fits leaves the
-- room, the groups and the buffers as Making says. Entities with nothing in them but a count take no text, so that the text buffer does not
-- bear on them.
use mathlib.Core.Path.{◌≡◌, refl, sym, ◌∙◌}
use mathlib.Core.List.{List, [], ◌∷◌, ◌++◌}
use Prim.Native.Nat.{ℕ, suc, ◌+◌, ◌-◌, ◌*◌, ◌≤◌, ◌/◌}
use native.Mathlib.Omega.{arith}
use lib.Dec.{eqb, ltb}
use lib.ListN.{length, take-append-drop}
use borrow.Author.Tests.{eq-eqb, ne_eqb, eqb-true, eqb-false, lt-ltb, le-ltb, ltb-true, ltb-false}
use Rattle.std.specs.Prelude.{if◌then◌else◌, Result}
use Rattle.chars.specs.declared.refusal.Refusal.{Refusal}
use Rattle.chars.proofs.Cases.{either}
use Rattle.entities.specs.Entity.{Entity, bare, size, sizes, texts}
use Rattle.entities.specs.Making.{Reader, Room, Handled, stops, holds, makes, fitted, shortage}
use Rattle.entities.specs.Judging.{bares, counting, written, text_written}
use Rattle.entities.specs.Stepping.{Ready, open_groups, below, room_left, reader_of, agrees, Goes, Stops, took, Fits, short, room, bracketed, commanded}
use Rattle.entities.specs.declared.state.State.{State}
use Rattle.entities.specs.declared.state.Mode.{Mode}
use Rattle.entities.proofs.Listing.{no_bare, one_bare}
use Rattle.entities.proofs.Shortages.{fits}

-- entities with nothing in them but a count
pub data Empty : List Entity → Type 0 where
  nothing : Empty []
  more : (e : Entity) (es : List Entity) → e.text ≡ [] → e.string ≡ [] → Empty es → Empty (e ∷ es)

pub empty_bares : (kind place : ℕ) (es : List Entity) → Empty es → Empty (bares kind place ++ es)
unfolding bare
empty_bares kind place es x =
    either (eqb kind 0)
    (λ t. rw (no_bare kind place (eqb-true kind 0 t)) x)
    (λ t. rw (one_bare kind place (eqb-false kind 0 t)) (more _ es refl refl x))

pub empty_counting : (kind place count : ℕ) (es : List Entity) → Empty es → Empty (counting kind place count ∷ es)
unfolding counting
empty_counting kind place count es x = more _ es refl refl x

empty_size : (e : Entity) → e.text ≡ [] → e.string ≡ [] → size e ≡ 0
unfolding size
empty_size e t u = rw (t, u)

pub empty_sizes : (es : List Entity) → Empty es → sizes es ≡ 0
unfolding sizes
empty_sizes es nothing = refl
empty_sizes es (more e fs t u x) = omega (arith, empty_size e t u, empty_sizes fs x)

empty_texts : (es : List Entity) → Empty es → texts es ≡ []
unfolding texts
empty_texts es nothing = refl
empty_texts es (more e fs t u x) = rw (t, u, empty_texts fs x)

-- too many of them is all that can be short
pub empty_short : (T : ℕ) (es : List Entity) → Empty es → (E : ℕ) → shortage E T es ≡ (if ltb E (length es) then 18 else 0)
unfolding shortage
empty_short T es nothing E = rw (le-ltb E 0 (omega arith))
empty_short T es (more e fs t u x) E =
    let less : T - 0 ≡ T = omega arith in
    either (eqb E 0)
    (λ z. rw (z, lt-ltb E (suc (length fs)) (omega (arith, eqb-true E 0 z))))
    (λ z.
    let some = eqb-false E 0 z in
    rw (z, empty_size e t u, le-ltb T 0 (omega arith), less, empty_short T fs x (E - 1))
    (either (ltb E (suc (length fs)))
    (λ w. rw (w, lt-ltb (E - 1) (length fs) (omega (arith, ltb-true E (suc (length fs)) w))))
    (λ w. rw (w, le-ltb (E - 1) (length fs) (omega (arith, ltb-false E (suc (length fs)) w))))))

module _ (s : State) (list text groups groups' : List ℕ) (place lead : ℕ) (own : List Entity) (q : Reader) where
  abbrev all : List Entity
  all = bares lead place ++ own

  abbrev comes : Handled
  comes = fitted (room_left s list text) (bares lead place) (makes own q)

  abbrev scarce : ℕ
  scarce = shortage (length list / 6 - s.entities) (length text - s.text) all

  abbrev left : Room
  left = record { entities = length list / 6 - s.entities - length all; text = length text - s.text - sizes all }

  comes_is : comes ≡ (if eqb scarce 0 then holds all left q else stops scarce)
  unfolding fitted room_left
  comes_is = refl

  pub stopped :
      (n : ℕ) → scarce ≡ n → (n ≡ 0 → ⊥) → (t : State) → t.entities ≡ s.entities → t.text ≡ s.text
      → agrees comes (Stops n t) s list text list text groups' place
  unfolding agrees
  stopped n e some t a b = rw (comes_is, e, ne_eqb n 0 some) (refl, refl, refl, a, b)

  module _ (enough : scarce ≡ 0) (ready : Ready s list text groups place) where
    pub roomy : (6 * (s.entities + length all) ≤ length list) × (s.text + sizes all ≤ length text)
    roomy =
        let f = fits (length list / 6 - s.entities) (length text - s.text) all enough in
        (omega (arith, f.0, ready.held), omega (arith, f.1, ready.used))

    pub went :
        (t : State) (list' text' : List ℕ) → list' ≡ written list s.entities s.text all → text' ≡ text_written text s.text all
        → t.entities ≡ s.entities + length all → t.text ≡ s.text + sizes all → sizes all ≤ 8192 → q ≡ reader_of t groups'
        → t.depth ≤ 64 → length groups' ≡ 64 → below (open_groups groups' t.depth) (place + 2)
        → agrees comes (Goes t) s list text list' text' groups' place
    unfolding agrees room_left
    went t list' text' l u many much small is deep long numbers =
        let more_left : length list / 6 - s.entities - length all ≡ length list / 6 - t.entities = omega (arith, many) in
        let much-left : length text - s.text - sizes all ≡ length text - t.text = omega (arith, much) in
        let next : place + 2 ≡ place + 1 + 1 = omega arith in
        rw (comes_is, eq-eqb scarce 0 enough) (
          l,
          u,
          many,
          much,
          is,
          rw (more_left, much-left),
          record {
            deep = deep;
            array = long;
            held = omega (arith, roomy.0, many);
            used = omega (arith, roomy.1, much);
            small = omega (arith, ready.small, much, small);
            numbers = rw next at numbers;
          },
        )

  -- a token without text
  module _ (x : Empty all) (ready : Ready s list text groups place) where
    unwritten : text ≡ text_written text s.text all
    unfolding text_written
    unwritten =
        let same : s.text + 0 ≡ s.text = omega arith in
        rw (empty_sizes all x, empty_texts all x, same) (sym (take-append-drop s.text text))

    pub fits_agrees :
        (mode : Mode) (depth : ℕ) (list' : List ℕ) (r : Result State Refusal) → Fits s list all mode depth list' r
        → q ≡ record { metacommand = commanded mode; opened = bracketed mode; groups = open_groups groups' depth }
        → depth ≤ 64 → length groups' ≡ 64 → below (open_groups groups' depth) (place + 2)
        → agrees comes (took s r) s list text list' text groups' place
    unfolding took reader_of
    fits_agrees mode depth list' r (short few is same) eq deep long numbers =
        let scarcely : scarce ≡ 18 =
        empty_short (length text - s.text) all x (length list / 6 - s.entities)
        ∙ rw (lt-ltb (length list / 6 - s.entities) (length all) (omega (arith, ready.held))) in
        rw (is, same) (stopped 18 scarcely (λ e. omega arith) s refl refl)
    fits_agrees mode depth list' r (room many l is) eq deep long numbers =
        let enough : scarce ≡ 0 =
        empty_short (length text - s.text) all x (length list / 6 - s.entities)
        ∙ rw (le-ltb (length list / 6 - s.entities) (length all) (omega (arith, ready.held))) in
        let none = empty_sizes all x in
        rw is
        (went enough ready
        (record { mode = mode; depth = depth; entities = s.entities + length all; text = s.text })
        list' text l unwritten refl (omega (arith, none)) (omega (arith, none)) eq deep long numbers)
