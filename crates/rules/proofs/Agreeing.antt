-- The predicates of demand 3 and the rules of a run agree: each rule decides by one test, and the predicate says what that test finds.
-- `Steps.antt` puts them together for an entity, both ways.
use mathlib.Core.Path.{◌≡◌, refl}
use mathlib.Core.Bool.{Bool, false, not, ◌&&◌}
use mathlib.Core.List.{List, [], ◌∷◌}
use mathlib.Core.Logic.{◌↔◌}
use mathlib.Core.Option.{Option, none, some}
use Prim.Native.Nat.{ℕ, ◌≤◌}
use native.Mathlib.Omega.{arith}
use lib.Dec.{ltb, eqb}
use lib.ListN.{length, take}
use borrow.Author.Tests.{eqb-true}
use Rattle.chars.specs.Limits.{Limits}
use Rattle.chars.proofs.Cases.{either}
use Rattle.table.specs.Table.{Operation, find}
use Rattle.rules.specs.Cells.{Name, State, Taken, leaves, refuses, cells_of, lookup, not_too_many, push, show}
use Rattle.rules.specs.Cells.{new, define, fetch, store, assign, take_items, given as given_of, operate}
use Rattle.rules.specs.Run.{Value, Outside, values}
use Rattle.rules.specs.Well.{Every, Some, Enough, OfKind, AllFit}
use Rattle.rules.specs.Well.{Apart}
use Rattle.rules.proofs.ByKind.{Goes, IfGoes, if_goes}
use Rattle.rules.proofs.First.{in_some, every_map, is_there, some_agrees, none_agrees, only, find_found, lookup_found}
use Rattle.rules.proofs.Items.{items_agree}

-- 21: an operation is in the table
pub known_agrees : (name : List ℕ) (os : List Operation) → ((o : Operation) × (find name os ≡ some o)) ↔ Some (λ o. o.name ≡ name) os
known_agrees name os = some_agrees (λ o. o.name) name os (find name os) (find_found name os)

-- 25: a name is not defined yet
pub undefined_agrees : (name : List ℕ) (ns : List (Name Value)) → (lookup name ns ≡ none) ↔ Every (λ n. n.name ≡ name → ⊥) ns
undefined_agrees name ns = none_agrees (λ n. n.name) name ns (lookup name ns) (lookup_found name ns)

-- 26: a name is defined
pub defined_agrees :
    (name : List ℕ) (ns : List (Name Value)) → ((n : Name Value) × (lookup name ns ≡ some n)) ↔ Some (λ n. n.name ≡ name) ns
defined_agrees name ns = some_agrees (λ n. n.name) name ns (lookup name ns) (lookup_found name ns)

-- 27 and 23: a variable of this name, of the kind of what is put
abbrev pub Variable : (name : List ℕ) → List Value → Name Value → Type 0
Variable name cells n = (n.name ≡ name) × (n.constant ≡ false) × OfKind n.value.kind (take 1 cells)

module _ (L : Limits) (bounded : Bool) (given : Outside) where
  -- 28: exactly one cell is in sight
  show_well : (s : State Value) (cells : List Value) → IfGoes (λ t. length cells ≡ 1) (show L (values bounded given) s cells)
  unfolding show IfGoes
  show_well s [] = tt
  show_well s (c ∷ []) = refl
  show_well s (c ∷ d ∷ cells) = tt

  well_show : (s : State Value) (cells : List Value) → length cells ≡ 1 → Goes (show L (values bounded given) s cells)
  unfolding show
  well_show s [] h = absurd (omega arith)
  well_show s (c ∷ []) h = (_, refl)
  well_show s (c ∷ d ∷ cells) h = absurd (omega arith)

  pub one_cell_agrees : (s : State Value) (cells : List Value) → Goes (show L (values bounded given) s cells) ↔ (length cells ≡ 1)
  one_cell_agrees s cells = ((λ g. if_goes (λ t. length cells ≡ 1) g.0 g.1 (show_well s cells)), well_show s cells)

  -- whatever the limit of cells says
  with_cells : (P : Type 0) (t : State Value) → P → IfGoes (λ u. P) (not_too_many L (values bounded given) t)
  unfolding not_too_many IfGoes
  with_cells P t p = either ((values bounded given).bounded && ltb L.cells (cells_of t)) (λ b. rw b tt) (λ b. rw b p)

  -- `?` and `@`
  new_well :
      (P : Type 0) (s : State Value) (constant : Bool) (name : List ℕ) (c : Value) (cells : List Value) (o : Option (Name Value))
      → (o ≡ none → P) → IfGoes (λ t. P) (new L (values bounded given) s constant name c cells o)
  unfolding new IfGoes
  new_well P s constant name c cells (some n) p = tt
  new_well P s constant name c cells none p =
      either ((values bounded given).bounded && not (ltb (length s.names) L.names)) (λ b. rw b tt) (λ b. rw b (p refl))

  pub define_well :
      (s : State Value) (constant : Bool) (name : List ℕ) (cells : List Value)
      → IfGoes (λ t. (1 ≤ length cells) × Every (λ n. n.name ≡ name → ⊥) s.names)
      (define L (values bounded given) s constant name cells)
  unfolding define IfGoes
  define_well s constant name [] = tt
  define_well s constant name (c ∷ cells) =
      new_well _ s constant name c cells (lookup name s.names) (λ e. (omega arith, (undefined_agrees name s.names).0 e))

  -- `=`
  fetch_well :
      (P : Type 0) (s : State Value) (o : Option (Name Value)) → ((n : Name Value) → o ≡ some n → P)
      → IfGoes (λ t. P) (fetch L (values bounded given) s o)
  unfolding fetch push IfGoes
  fetch_well P s none p = tt
  fetch_well P s (some n) p = with_cells P _ (p n refl)

  pub get_well :
      (s : State Value) (name : List ℕ)
      → IfGoes (λ t. Some (λ n. n.name ≡ name) s.names) (fetch L (values bounded given) s (lookup name s.names))
  get_well s name = fetch_well _ s (lookup name s.names) (λ n e. (defined_agrees name s.names).0 (n, e))

  -- `:`
  store_well :
      (P : Type 0) (s : State Value) (name : List ℕ) (c : Value) (cells : List Value) (o : Option (Name Value))
      → ((n : Name Value) → o ≡ some n → n.constant ≡ false → c.kind ≡ n.value.kind → P)
      → IfGoes (λ t. P) (store L (values bounded given) s name c cells o)
  unfolding store IfGoes values
  store_well P s name c cells none p = tt
  store_well P s name c cells (some n) p =
      either n.constant
      (λ b. rw b tt)
      (λ b. rw b (either (eqb c.kind n.value.kind)
      (λ k. rw k (p n refl b (eqb-true c.kind n.value.kind k)))
      (λ k. rw k tt)))

  pub assign_well :
      (s : State Value) (name : List ℕ) (cells : List Value)
      → IfGoes (λ t. (1 ≤ length cells) × Some (Variable name cells) s.names) (assign L (values bounded given) s name cells)
  unfolding assign IfGoes OfKind Every
  assign_well s name [] = tt
  assign_well s name (c ∷ cells) =
      store_well _ s name c cells (lookup name s.names)
      (λ n e b k.
      let p = is_there (λ n. n.name) name s.names (lookup name s.names) (lookup_found name s.names) n e in
      (omega arith, in_some (Variable name (c ∷ cells)) n p.1 (p.0, b, (k, tt))))

  -- an operation
  given_well :
      (P : Type 0) (step : ℕ) (s : State Value) (kinds : List ℕ) (t : Taken Value) → ((rest : List Value) → t ≡ leaves rest → P)
      → IfGoes (λ u. P) (given_of L (values bounded given) step s kinds t)
  unfolding given_of IfGoes
  given_well P step s kinds (refuses rule) p = tt
  given_well P step s kinds (leaves rest) p = with_cells P _ (p rest refl)

  operate_well :
      (P : Type 0) (step : ℕ) (s : State Value) (o : Option Operation)
      → ((p : Operation) → o ≡ some p → Enough p.takes s.sight → AllFit p.takes s.sight → P)
      → IfGoes (λ t. P) (operate L (values bounded given) step s o)
  unfolding operate IfGoes
  operate_well P step s none p = tt
  operate_well P step s (some o) p =
      given_well P step s o.gives (take_items L (values bounded given) o.takes s.sight)
      (λ rest e. let both_so = (items_agree L bounded given o.takes s.sight).0 (rest, e) in p o refl both_so.0 both_so.1)

  -- of every line of this name, where there is but one
  pub operation_well :
      (os : List Operation) (step : ℕ) (s : State Value) (name : List ℕ) → Apart (λ o. o.name) os
      → IfGoes (λ t.
      Every (λ o. o.name ≡ name → Enough o.takes s.sight) os
      × Every (λ o. o.name ≡ name → AllFit o.takes s.sight) os
      × Some (λ o. o.name ≡ name) os)
      (operate L (values bounded given) step s (find name os))
  operation_well os step s name apart =
      operate_well _ step s (find name os)
      (λ o e n f.
      let p = is_there (λ o. o.name) name os (find name os) (find_found name os) o e in
      let one = only (λ o. o.name) name o os apart p.0 p.1 in (
        every_map _ (λ o. o.name ≡ name → Enough o.takes s.sight) (λ q same-one named. rw (same-one named) n) os one,
        every_map _ (λ o. o.name ≡ name → AllFit o.takes s.sight) (λ q same-one named. rw (same-one named) f) os one,
        (known_agrees name os).0 (o, e),
      ))
