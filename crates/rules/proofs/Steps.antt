-- A step of a run. An entity that goes on is well, by the law of its kind's rule; and without 29 and 30 an entity that is well goes on, so
-- that the predicates leave out none of a run's own rules.
use mathlib.Core.Path.{◌≡◌, refl, sym, ◌∙◌}
use mathlib.Core.Bool.{Bool, true, false}
use mathlib.Core.List.{List, [], ◌∷◌}
use mathlib.Core.Logic.{◌↔◌, inl, inr, ⊎_elim}
use mathlib.Core.Option.{Option, none, some}
use Prim.Native.Nat.{ℕ, ◌≤◌}
use native.Mathlib.Omega.{arith}
use lib.ListN.{length, take}
use borrow.Author.Tests.{eq-eqb}
use Rattle.chars.specs.Limits.{Limits}
use Rattle.entities.specs.Entity.{Kind, Entity}
use Rattle.entities.specs.Entity.{begin-metacommand, end-metacommand, metacommand-token, metacommand-quoted, metacommand-curly}
use Rattle.entities.specs.Entity.{begin_group, end-group, array, number, quoted-string, curly-string}
use Rattle.entities.specs.Entity.{define-variable, define-constant, get, put, operation, end}
use Rattle.table.specs.Table.{Operation, find}
use Rattle.rules.specs.Cells.{Name, State, goes, lookup, not_too_many, push, hide, new, define, fetch, store, assign}
use Rattle.rules.specs.Cells.{given as given_of, operate, act}
use Rattle.rules.specs.Run.{Value, Outside, values}
use Rattle.rules.specs.Well.{Every, Some, Enough, OfKind, AllFit, Defines, CellForAName, EnoughCells, RightKinds, OneCell}
use Rattle.rules.specs.Well.{NotYetDefined, DefinedBefore, PutToAVariable, InTheTable, Well, Apart}
use Rattle.rules.proofs.ByKind.{Goes, if_goes, at_end_group, at_variable, at_constant, at_get, at_put, at_operation}
use Rattle.rules.proofs.First.{in_every, is_there, only, find_found, lookup_found}
use Rattle.rules.proofs.Items.{items_agree}
use Rattle.rules.proofs.Agreeing.{known_agrees, undefined_agrees, defined_agrees, one_cell_agrees, define_well, get_well}
use Rattle.rules.proofs.Agreeing.{assign_well, operation_well, Variable}

some_map : {A : Type 0} (P Q : A → Type 0) → ((x : A) → P x → Q x) → (xs : List A) → Some P xs → Some Q xs
unfolding Some
some_map P Q f [] there = elim there [ ]
some_map P Q f (x ∷ xs) (inl p) = inl (f x p)
some_map P Q f (x ∷ xs) (inr s) = inr (some_map P Q f xs s)

-- an entity that goes on
module _ (L : Limits) (bounded : Bool) (given : Outside) (os : List Operation) (apart : Apart (λ o. o.name) os)
    (step : ℕ) (s : State Value) (e : Entity) (t : State Value) (h : act L (values bounded given) os step s e ≡ goes t) where
  abbrev Told : Type 0
  Told = (1 ≤ length s.sight) × Every (λ n. n.name ≡ e.text → ⊥) s.names

  defined : Defines e.kind → Told
  unfolding Defines
  defined (inl k) =
      if_goes (λ u. Told) t (sym (at_variable L (values bounded given) os step s e k) ∙ h)
      (define_well L bounded given s false e.text s.sight)
  defined (inr k) =
      if_goes (λ u. Told) t (sym (at_constant L (values bounded given) os step s e k) ∙ h)
      (define_well L bounded given s true e.text s.sight)

  got : e.kind ≡ get → Some (λ n. n.name ≡ e.text) s.names
  got k =
      if_goes (λ u. Some (λ n. n.name ≡ e.text) s.names) t (sym (at_get L (values bounded given) os step s e k) ∙ h)
      (get_well L bounded given s e.text)

  stored : e.kind ≡ put → (1 ≤ length s.sight) × Some (Variable e.text s.sight) s.names
  stored k =
      if_goes _ t (sym (at_put L (values bounded given) os step s e k) ∙ h) (assign_well L bounded given s e.text s.sight)

  operated :
      e.kind ≡ operation
      → Every (λ o. o.name ≡ e.text → Enough o.takes s.sight) os
      × Every (λ o. o.name ≡ e.text → AllFit o.takes s.sight) os
      × Some (λ o. o.name ≡ e.text) os
  operated k =
      if_goes _ t (sym (at_operation L (values bounded given) os step s e k) ∙ h) (operation_well L bounded given os step s e.text apart)

  pub well : Well os s e
  unfolding CellForAName EnoughCells RightKinds OneCell NotYetDefined DefinedBefore PutToAVariable InTheTable
  well =
      record {
        cell_for_a_name = ⊎_elim (λ k. (defined k).0) (λ k. (stored k).0);
        enough_cells = λ k. (operated k).0;
        right_kinds = λ k. (operated k).1;
        one_cell = λ k. (one_cell_agrees L bounded given s s.sight).0 (t, sym (at_end_group L (values bounded given) os step s e k) ∙ h);
        not_yet_defined = λ k. (defined k).1;
        defined_before = ⊎_elim got (λ k. some_map _ (λ n. n.name ≡ e.text) (λ n v. v.0) s.names (stored k).1);
        put_to_a_variable = λ k. (stored k).1;
        in_the_table = λ k. (operated k).2;
      }

-- an entity that is well, without 29 and 30
module _ (L : Limits) (given : Outside) (os : List Operation) (step : ℕ) (s : State Value) where
  well_define :
      (constant : Bool) (name : List ℕ) (cells : List Value) → 1 ≤ length cells → lookup name s.names ≡ none
      → Goes (define L (values false given) s constant name cells)
  unfolding define new values
  well_define constant name [] h e = absurd (omega arith)
  well_define constant name (c ∷ cells) h e = rw (e, new) (_, refl)

  well_fetch : (o : Option (Name Value)) (n : Name Value) → o ≡ some n → Goes (fetch L (values false given) s o)
  unfolding fetch push not_too_many values
  well_fetch o n e = rw (e, fetch) (_, refl)

  well_assign :
      (name : List ℕ) (cells : List Value) (n : Name Value) → 1 ≤ length cells → lookup name s.names ≡ some n → n.constant ≡ false
      → OfKind n.value.kind (take 1 cells) → Goes (assign L (values false given) s name cells)
  unfolding assign store values OfKind Every
  well_assign name [] n h e b k = absurd (omega arith)
  well_assign name (c ∷ cells) n h e b k = rw (e, store, b, eq-eqb c.kind n.value.kind k.0) (_, refl)

  well_operate :
      (o : Option Operation) (p : Operation) → o ≡ some p → Enough p.takes s.sight → AllFit p.takes s.sight
      → Goes (operate L (values false given) step s o)
  unfolding operate given_of not_too_many values
  well_operate o p e n f =
      let left = (items_agree L false given p.takes s.sight).1 (n, f) in
      rw (e, operate, left.1, given_of) (_, refl)

  -- the one of this name is the one that some is
  the_variable :
      (name : List ℕ) (ns : List (Name Value)) (n : Name Value) → Every (λ m. m.name ≡ name → m ≡ n) ns
      → Some (Variable name s.sight) ns → Variable name s.sight n
  unfolding Some Every
  the_variable name [] n one there = elim there [ ]
  the_variable name (m ∷ ns) n one (inl v) = rw (one.0 v.0) at v
  the_variable name (m ∷ ns) n one (inr v) = the_variable name ns n one.1 v

  module _ (apart : Apart (λ n. n.name) s.names) where
    by_kind :
        (k : Kind) (place n : ℕ) (text string : List ℕ)
        → Well os s (record { kind = k; place = place; text = text; string = string; count = n })
        → Goes (act L (values false given) os step s (record { kind = k; place = place; text = text; string = string; count = n }))
    unfolding act hide push not_too_many values CellForAName EnoughCells RightKinds OneCell NotYetDefined DefinedBefore PutToAVariable
        InTheTable Defines
    by_kind begin-metacommand place n text string w = (_, refl)
    by_kind end-metacommand place n text string w = (_, refl)
    by_kind metacommand-token place n text string w = (_, refl)
    by_kind metacommand-quoted place n text string w = (_, refl)
    by_kind metacommand-curly place n text string w = (_, refl)
    by_kind begin_group place n text string w = (_, refl)
    by_kind end-group place n text string w = (one_cell_agrees L false given s s.sight).1 (w.one_cell refl)
    by_kind array place n text string w = (_, refl)
    by_kind number place n text string w = (_, refl)
    by_kind quoted-string place n text string w = (_, refl)
    by_kind curly-string place n text string w = (_, refl)
    by_kind define-variable place n text string w =
        well_define false text s.sight (w.cell_for_a_name (inl (inl refl)))
        ((undefined_agrees text s.names).1 (w.not_yet_defined (inl refl)))
    by_kind define-constant place n text string w =
        well_define true text s.sight (w.cell_for_a_name (inl (inr refl)))
        ((undefined_agrees text s.names).1 (w.not_yet_defined (inr refl)))
    by_kind get place n text string w =
        let one = (defined_agrees text s.names).1 (w.defined_before (inl refl)) in
        well_fetch (lookup text s.names) one.0 one.1
    by_kind put place n text string w =
        let one = (defined_agrees text s.names).1 (w.defined_before (inr refl)) in
        let p = is_there (λ n. n.name) text s.names (lookup text s.names) (lookup_found text s.names) one.0 one.1 in
        let v = the_variable text s.names one.0 (only (λ n. n.name) text one.0 s.names apart p.0 p.1)
        (w.put_to_a_variable refl) in
        well_assign text s.sight one.0 (w.cell_for_a_name (inr refl)) one.1 v.1 v.2
    by_kind operation place n text string w =
        let one = (known_agrees text os).1 (w.in_the_table refl) in
        let p = is_there (λ o. o.name) text os (find text os) (find_found text os) one.0 one.1 in
        well_operate (find text os) one.0 one.1
        (in_every _ one.0 p.1 (w.enough_cells refl) p.0)
        (in_every _ one.0 p.1 (w.right_kinds refl) p.0)
    by_kind end place n text string w = (_, refl)

    well_goes : (e : Entity) → Well os s e → Goes (act L (values false given) os step s e)
    well_goes e w = by_kind e.kind e.place e.count e.text e.string w

-- both ways
pub steps_agree :
    (L : Limits) (given : Outside) (os : List Operation) (step : ℕ) (s : State Value) (e : Entity)
    → Apart (λ o. o.name) os → Apart (λ n. n.name) s.names → Goes (act L (values false given) os step s e) ↔ Well os s e
steps_agree L given os step s e lines names =
    ((λ g. well L false given os lines step s e g.0 g.1), well_goes L given os step s names e)
