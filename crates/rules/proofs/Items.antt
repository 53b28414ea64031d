-- The items of an operation, over values: they are taken exactly where there are enough cells for each in order and each has its kind, an
-- array's number not negative.
use mathlib.Core.Path.{◌≡◌, refl}
use mathlib.Core.Bool.{Bool, true}
use mathlib.Core.List.{List, [], ◌∷◌}
use mathlib.Core.Logic.{◌↔◌}
use Prim.Native.Nat.{ℕ, ◌≤◌}
use native.Mathlib.Omega.{arith}
use lib.Dec.{leb, eqb}
use lib.ListN.{length, take, drop}
use borrow.Author.Tests.{eqb-true, eq-eqb, leb-true, le-leb}
use Rattle.chars.specs.Limits.{Limits}
use Rattle.chars.proofs.Cases.{either, both}
use Rattle.table.specs.Table.{Item, one, array_of}
use Rattle.rules.specs.Cells.{Taken, leaves, refuses, all_of, take_array, take_item, take_items}
use Rattle.rules.specs.Run.{Whole, plus, minus, Value, Outside, wanted_by, values}
use Rattle.rules.specs.Well.{Every, NotNegative, size, reach, Enough, OfKind, Fits, AllFit}

-- what is so if cells are left
unfoldable pub IfLeft : {C : Type 0} → (List C → Type 0) → Taken C → Type 0
IfLeft P (leaves rest) = P rest
IfLeft P (refuses rule) = Unit

module _ (L : Limits) (bounded : Bool) (given : Outside) where
  all_kinds : (kind : ℕ) (cells : List Value) → (all_of L (values bounded given) kind cells ≡ true) ↔ OfKind kind cells
  unfolding all_of values OfKind Every
  all_kinds kind [] = ((λ t. tt), (λ o. refl))
  all_kinds kind (v ∷ cells) = (
    (λ t.
        let parts = both (eqb v.kind kind) _ t in
        (eqb-true v.kind kind parts.0, (all_kinds kind cells).0 parts.1)),
    (λ o. rw (eq-eqb v.kind kind o.0, (all_kinds kind cells).1 o.1)),
  )

  -- an item that was taken: what is left, that there were enough cells, and that they fit
  abbrev Took : Item → List Value → List Value → Type 0
  Took i cells rest =
      (rest ≡ drop (reach i cells) cells) × (reach i cells ≤ length cells) × Fits i (take (reach i cells) cells)

  array_took :
      (kind k : ℕ) (w : Whole) (cells : List Value) → k ≡ 0
      → IfLeft (Took (array_of kind) (record { kind = k; is = w } ∷ cells)) (take_array L (values bounded given) kind (wanted_by w) cells)
  unfolding take_array wanted_by IfLeft reach size Fits NotNegative
  array_took kind k (minus n) cells z = tt
  array_took kind k (plus n) cells z =
      either (leb n (length cells))
      (λ a. rw a (either (all_of L (values bounded given) kind (take n cells))
      (λ b. let enough = leb-true n (length cells) a in
      rw b (refl, omega arith, (z, tt, (all_kinds kind (take n cells)).0 b)))
      (λ b. rw b tt)))
      (λ a. rw a tt)

  took : (i : Item) (cells : List Value) → IfLeft (Took i cells) (take_item L (values bounded given) i cells)
  unfolding take_item values IfLeft reach Fits OfKind Every
  took (one kind) [] = tt
  took (one kind) (v ∷ cells) =
      either (eqb v.kind kind) (λ t. rw t (refl, omega arith, (eqb-true v.kind kind t, tt))) (λ t. rw t tt)
  took (array_of kind) [] = tt
  took (array_of kind) (v ∷ cells) =
      either (eqb v.kind 0)
      (λ t. rw t (array_took kind v.kind v.is cells (eqb-true v.kind 0 t)))
      (λ t. rw t tt)

  abbrev TookAll : List Item → List Value → List Value → Type 0
  TookAll is cells rest = Enough is cells × AllFit is cells

  with_the_first :
      (i : Item) (is : List Item) (cells rest : List Value) → Took i cells rest → (t : Taken Value)
      → IfLeft (TookAll is rest) t → IfLeft (TookAll (i ∷ is) cells) t
  unfolding IfLeft Enough AllFit
  with_the_first i is cells rest p (refuses rule) all = tt
  with_the_first i is cells rest p (leaves last) all =
      ((p.1, rw p.0 at all.0), (p.2, rw p.0 at all.1))

  then_all :
      (i : Item) (is : List Item) (cells : List Value) (t : Taken Value) → IfLeft (Took i cells) t
      → ((rest : List Value) → IfLeft (TookAll is rest) (take_items L (values bounded given) is rest))
      → IfLeft (TookAll (i ∷ is) cells)
      (elim t [ refuses rule ↦ refuses rule | leaves rest ↦ take_items L (values bounded given) is rest ])
  unfolding IfLeft
  then_all i is cells (refuses rule) p f = tt
  then_all i is cells (leaves rest) p f = with_the_first i is cells rest p (take_items L (values bounded given) is rest) (f rest)

  took_all : (is : List Item) (cells : List Value) → IfLeft (TookAll is cells) (take_items L (values bounded given) is cells)
  unfolding take_items IfLeft Enough AllFit
  took_all [] cells = (tt, tt)
  took_all (i ∷ is) cells = then_all i is cells (take_item L (values bounded given) i cells) (took i cells) (took_all is)

  -- the other way
  array_takes :
      (kind : ℕ) (w : Whole) (cells : List Value) → size w ≤ length cells → NotNegative w → OfKind kind (take (size w) cells)
      → take_array L (values bounded given) kind (wanted_by w) cells ≡ leaves (drop (size w) cells)
  unfolding take_array wanted_by size NotNegative
  array_takes kind (minus n) cells h w k = absurd w
  array_takes kind (plus n) cells h w k = rw (le-leb n (length cells) h, (all_kinds kind (take n cells)).1 k)

  takes :
      (i : Item) (cells : List Value) → reach i cells ≤ length cells → Fits i (take (reach i cells) cells)
      → take_item L (values bounded given) i cells ≡ leaves (drop (reach i cells) cells)
  unfolding take_item values reach Fits OfKind Every
  takes (one kind) [] h f = absurd (omega arith)
  takes (one kind) (v ∷ cells) h f = rw (eq-eqb v.kind kind f.0)
  takes (array_of kind) [] h f = absurd (omega arith)
  takes (array_of kind) (v ∷ cells) h f =
      rw (eq-eqb v.kind 0 f.0) (array_takes kind v.is cells (omega arith) f.1 f.2)

  takes_all :
      (is : List Item) (cells : List Value) → Enough is cells → AllFit is cells
      → (rest : List Value) × (take_items L (values bounded given) is cells ≡ leaves rest)
  unfolding take_items Enough AllFit
  takes_all [] cells n f = (cells, refl)
  takes_all (i ∷ is) cells n f =
      rw (takes i cells n.0 f.0, take_items) (takes_all is (drop (reach i cells) cells) n.1 f.1)

  if_left : (P : List Value → Type 0) {t : Taken Value} (rest : List Value) → t ≡ leaves rest → IfLeft P t → P rest
  unfolding IfLeft
  if_left P rest e p = rw e at p

  -- both ways
  pub items_agree :
      (is : List Item) (cells : List Value)
      → ((rest : List Value) × (take_items L (values bounded given) is cells ≡ leaves rest)) ↔ (Enough is cells × AllFit is cells)
  items_agree is cells =
      ((λ left. if_left (TookAll is cells) left.0 left.1 (took_all is cells)), (λ well. takes_all is cells well.0 well.1))
