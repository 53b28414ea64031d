-- The first entry of a name. `find` goes through a table's lines and `lookup` through a state's names until a name is the same, so what is
-- found is said once, over the entries and what their names are.
use mathlib.Core.Path.{◌≡◌, refl, sym, ◌∙◌, ap}
use mathlib.Core.Bool.{true, false, not, ◌&&◌, false≢true}
use mathlib.Core.List.{List, [], ◌∷◌, map}
use mathlib.Core.Logic.{◌↔◌, inl, inr}
use mathlib.Core.Option.{Option, none, some}
use Prim.Native.Nat.{ℕ, ◌/◌, ◌%◌}
use lib.Dec.{leb, eqb}
use lib.ListN.{length}
use Rattle.chars.specs.Limits.{Limits}
use Rattle.std.specs.Prelude.{if◌then◌else◌}
use Rattle.chars.specs.Choice.{same}
use Rattle.chars.proofs.Cases.{either, both}
use Rattle.names.proofs.Equal.{equal_same, same_equal}
use Rattle.table.specs.Table.{Operation, width, operation_of, rows_of, rows_sound, find, found, distinct, operations}
use Rattle.rules.specs.Cells.{Name, lookup}
use Rattle.rules.specs.Well.{Every, Some, Apart}

pub by_option : {A P : Type 0} (o : Option A) → (o ≡ none → P) → ((a : A) → o ≡ some a → P) → P
by_option none without with-one = without refl
by_option (some a) without with-one = with-one a refl

-- an entry of a list
pub data In {A : Type 0} (x : A) : List A → Type 0 where
  top : {xs : List A} → In x (x ∷ xs)
  under : {y : A} {xs : List A} → In x xs → In x (y ∷ xs)

module _ {A : Type 0} (P : A → Type 0) (x : A) where
  pub in_some : {xs : List A} → In x xs → P x → Some P xs
  unfolding Some
  in_some top p = inl p
  in_some (under i) p = inr (in_some i p)

  pub in_every : {xs : List A} → In x xs → Every P xs → P x
  unfolding Every
  in_every top ps = ps.0
  in_every (under i) ps = in_every i ps.1

pub every_map : {A : Type 0} (P Q : A → Type 0) → ((x : A) → P x → Q x) → (xs : List A) → Every P xs → Every Q xs
unfolding Every
every_map P Q f [] ps = tt
every_map P Q f (x ∷ xs) ps = (f x ps.0, every_map P Q f xs ps.1)

never : {A : Type 0} (P : A → Type 0) (xs : List A) → Every (λ x. P x → ⊥) xs → Some P xs → ⊥
unfolding Every Some
never P [] nots there = elim there [ ]
never P (x ∷ xs) nots (inl p) = nots.0 p
never P (x ∷ xs) nots (inr s) = never P xs nots.1 s

unfoldable first : {A : Type 0} → (A → List ℕ) → (name : List ℕ) → List A → Option A
first f name [] = none
first f name (x ∷ xs) = if same name (f x) then some x else first f name xs

module _ {A : Type 0} (f : A → List ℕ) (name : List ℕ) where
  -- what was found is an entry of that name, and where nothing was found there is none
  unfoldable pub Found : List A → Option A → Type 0
  Found xs none = Every (λ x. f x ≡ name → ⊥) xs
  Found xs (some x) = (f x ≡ name) × In x xs

  further : (x : A) (xs : List A) → same name (f x) ≡ false → (o : Option A) → Found xs o → Found (x ∷ xs) o
  unfolding Found Every
  further x xs t none p = ((λ e. false≢true (sym t ∙ equal_same name (f x) (sym e))), p)
  further x xs t (some y) p = (p.0, under p.1)

  first_found : (xs : List A) → Found xs (first f name xs)
  unfolding first Found Every
  first_found [] = tt
  first_found (x ∷ xs) =
      either (same name (f x))
      (λ t. rw t (sym (same_equal name (f x) t), top))
      (λ t. rw t (further x xs t (first f name xs) (first_found xs)))

  module _ (xs : List A) (o : Option A) (h : Found xs o) where
    pub is_there : (x : A) → o ≡ some x → (f x ≡ name) × In x xs
    unfolding Found
    is_there x e = rw e at h

    -- something is found exactly where an entry has the name, and nothing where none has it
    pub some_agrees : ((x : A) × (o ≡ some x)) ↔ Some (λ x. f x ≡ name) xs
    unfolding Found
    some_agrees = (
      (λ one. let p = is_there one.0 one.1 in in_some (λ x. f x ≡ name) one.0 p.1 p.0),
      (λ s. by_option o (λ e. absurd (never (λ x. f x ≡ name) xs (rw e at h) s)) (λ x e. (x, e))),
    )

    pub none_agrees : (o ≡ none) ↔ Every (λ x. f x ≡ name → ⊥) xs
    unfolding Found
    none_agrees = (
      (λ e. rw e at h),
      (λ nots. by_option o
          (λ e. e)
          (λ x e. let p = is_there x e in absurd (in_every (λ y. f y ≡ name → ⊥) x p.1 nots p.0))),
    )

  -- where no two have the same name, it is the only one
  pub only : (x : A) (xs : List A) → Apart f xs → f x ≡ name → In x xs → Every (λ y. f y ≡ name → y ≡ x) xs
  unfolding Apart Every
  only x [] a e there = elim there [ ]
  only x (y ∷ xs) a e top =
      ((λ n. refl), every_map (λ z. f z ≡ f x → ⊥) (λ z. f z ≡ name → z ≡ x) (λ z differs n. absurd (differs (n ∙ sym e))) xs a.0)
  only x (y ∷ xs) a e (under i) =
      ((λ n. absurd (in_every (λ z. f z ≡ f y → ⊥) x i a.0 (e ∙ sym n))), only x xs a.1 e i)

find_first : (name : List ℕ) (os : List Operation) → find name os ≡ first (λ o. o.name) name os
unfolding find first
find_first name [] = refl
find_first name (o ∷ os) = ap (λ rest. if same name o.name then some o else rest) (find_first name os)

lookup_first : {C : Type 0} (name : List ℕ) (ns : List (Name C)) → lookup name ns ≡ first (λ n. n.name) name ns
unfolding lookup first
lookup_first name [] = refl
lookup_first name (n ∷ ns) = ap (λ rest. if same name n.name then some n else rest) (lookup_first name ns)

pub find_found : (name : List ℕ) (os : List Operation) → Found (λ o. o.name) name os (find name os)
find_found name os = rw (find_first name os) (first_found (λ o. o.name) name os)

pub lookup_found : {C : Type 0} (name : List ℕ) (ns : List (Name C)) → Found (λ n. n.name) name ns (lookup name ns)
lookup_found name ns = rw (lookup_first name ns) (first_found (λ n. n.name) name ns)

not_found : (name : List ℕ) (os : List Operation) (o : Option Operation) → Found (λ o. o.name) name os o → not (found o) ≡ true
    → Every (λ o. o.name ≡ name → ⊥) os
unfolding Found found
not_found name os none h t = h
not_found name os (some o) h t = absurd (false≢true t)

-- the lines of a sound table
pub lines_apart : (os : List Operation) → distinct os ≡ true → Apart (λ o. o.name) os
unfolding distinct Apart
lines_apart [] t = tt
lines_apart (o ∷ os) t =
    let parts = both (not (found (find o.name os))) (distinct os) t in
    (not_found o.name os (find o.name os) (find_found o.name os) parts.0, lines_apart os parts.1)

unfoldable Distinct : Option (List Operation) → Type 0
Distinct none = Unit
Distinct (some os) = distinct os ≡ true

operations_distinct : (L : Limits) (table : List ℕ) → Distinct (operations L table)
unfolding operations Distinct
operations_distinct L table =
    let n = length table / width in
    let rows = rows_of n table in
    let os = map operation_of rows in
    either (eqb (length table % width) 0 && leb n L.operations)
    (λ t. rw (t, operations)
    (either (rows_sound rows && distinct os) (λ u. rw u (both (rows_sound rows) (distinct os) u).1) (λ u. rw u tt)))
    (λ t. rw (t, operations) tt)

pub table_apart : (L : Limits) (table : List ℕ) (os : List Operation) → operations L table ≡ some os → Apart (λ o. o.name) os
unfolding Distinct
table_apart L table os e = lines_apart os (rw e at (operations_distinct L table))
