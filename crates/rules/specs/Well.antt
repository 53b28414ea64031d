-- Demand 3 in its own words: what is so at every step of a run that goes well. A predicate speaks of the state before a step and of the
-- entity that comes, and uses none of the functions by which a run decides; only the number of cells, `cells_of`, is the rules' own.
use Rattle.std.specs.Prelude.{ℕ, suc, ◌≤◌, ◌≡◌, Bool, false, List, [], ◌∷◌, ◌++◌, ◌⊎◌, length, take, drop}
use Rattle.chars.specs.Limits.{Limits}
use Rattle.entities.specs.Entity.{Kind, Entity, begin_group, end-group, define-variable, define-constant, get, put, operation}
use Rattle.table.specs.Table.{Item, one, array_of, Operation}
use Rattle.rules.specs.Cells.{State, cells_of}
use Rattle.rules.specs.Run.{Whole, plus, minus, Value, Outside, run, states}

-- every entry of a list is so
unfoldable pub Every : {A : Type 0} → (A → Type 0) → List A → Type 0
Every P [] = Unit
Every P (x ∷ xs) = P x × Every P xs

-- some entry of a list is so
unfoldable pub Some : {A : Type 0} → (A → Type 0) → List A → Type 0
Some P [] = ⊥
Some P (x ∷ xs) = P x ⊎ Some P xs

unfoldable pub NotNegative : Whole → Type 0
NotNegative (plus n) = Unit
NotNegative (minus n) = ⊥

-- a number of cells: that of a whole number that is not negative
unfoldable pub size : Whole → ℕ
size (plus n) = n
size (minus n) = 0

-- how many cells an item takes from the top of these: one; of an array the number cell, and under it as many as its value says
unfoldable pub reach : Item → List Value → ℕ
reach (one kind) cells = 1
reach (array_of kind) [] = 1
reach (array_of kind) (v ∷ cells) = suc (size v.is)

-- for each item in order there are as many cells as it takes
unfoldable pub Enough : List Item → List Value → Type 0
Enough [] cells = Unit
Enough (i ∷ is) cells = (reach i cells ≤ length cells) × Enough is (drop (reach i cells) cells)

unfoldable pub OfKind : (kind : ℕ) → List Value → Type 0
OfKind kind cells = Every (λ v. v.kind ≡ kind) cells

-- the cells that an item takes have its kind; an array item takes a number that is not negative, and the cells under it have its kind
unfoldable pub Fits : Item → List Value → Type 0
Fits (one kind) cells = OfKind kind cells
Fits (array_of kind) [] = ⊥
Fits (array_of kind) (v ∷ cells) = (v.kind ≡ 0) × NotNegative v.is × OfKind kind cells

-- each item in order
unfoldable pub AllFit : List Item → List Value → Type 0
AllFit [] cells = Unit
AllFit (i ∷ is) cells = Fits i (take (reach i cells) cells) × AllFit is (drop (reach i cells) cells)

unfoldable pub Defines : Kind → Type 0
Defines kind = (kind ≡ define-variable) ⊎ (kind ≡ define-constant)

-- "never too few cells in sight": `?`, `@` and `:` find one
unfoldable pub CellForAName : State Value → Entity → Type 0
CellForAName s e = Defines e.kind ⊎ (e.kind ≡ put) → 1 ≤ length s.sight

-- and an operation finds all that the table's line declares
unfoldable pub EnoughCells : List Operation → State Value → Entity → Type 0
EnoughCells os s e = e.kind ≡ operation → Every (λ o. o.name ≡ e.text → Enough o.takes s.sight) os

-- "or a wrong kind"
unfoldable pub RightKinds : List Operation → State Value → Entity → Type 0
RightKinds os s e = e.kind ≡ operation → Every (λ o. o.name ≡ e.text → AllFit o.takes s.sight) os

-- "each group closes on exactly one cell"
unfoldable pub OneCell : State Value → Entity → Type 0
OneCell s e = e.kind ≡ end-group → length s.sight ≡ 1

-- "each name is defined once": it is not defined yet
unfoldable pub NotYetDefined : State Value → Entity → Type 0
NotYetDefined s e = Defines e.kind → Every (λ n. n.name ≡ e.text → ⊥) s.names

-- "and before use"
unfoldable pub DefinedBefore : State Value → Entity → Type 0
DefinedBefore s e = (e.kind ≡ get) ⊎ (e.kind ≡ put) → Some (λ n. n.name ≡ e.text) s.names

-- "no constant is stored to": a put goes to a variable, with its kind
unfoldable pub PutToAVariable : State Value → Entity → Type 0
PutToAVariable s e =
    e.kind ≡ put
    → Some (λ n. (n.name ≡ e.text) × (n.constant ≡ false) × OfKind n.value.kind (take 1 s.sight)) s.names

-- an operation is in the table
unfoldable pub InTheTable : List Operation → Entity → Type 0
InTheTable os e = e.kind ≡ operation → Some (λ o. o.name ≡ e.text) os

-- all of it, of a state and the entity that comes
pub record Well (os : List Operation) (s : State Value) (e : Entity) : Type 0 where
  pub cell_for_a_name : CellForAName s e
  pub enough_cells : EnoughCells os s e
  pub right_kinds : RightKinds os s e
  pub one_cell : OneCell s e
  pub not_yet_defined : NotYetDefined s e
  pub defined_before : DefinedBefore s e
  pub put_to_a_variable : PutToAVariable s e
  pub in_the_table : InTheTable os e

-- no two entries have the same name
unfoldable pub Apart : {A : Type 0} → (name : A → List ℕ) → List A → Type 0
Apart name [] = Unit
Apart name (x ∷ xs) = Every (λ y. name y ≡ name x → ⊥) xs × Apart name xs

-- "never over 1,024 cells", hidden ones counted, nor over 128 names
pub record Limited (L : Limits) {C : Type 0} (s : State C) : Type 0 where
  pub few_cells : cells_of s ≤ L.cells
  pub few_names : length s.names ≤ L.names

-- What "in sight" means, of the states before and after a step: begin group hides all cells, end group shows again what its group hid,
-- under the one that is left, and no other entity touches a hidden cell.
pub record Hiding (s : State Value) (e : Entity) (t : State Value) : Type 0 where
  pub begins : e.kind ≡ begin_group → (t.sight ≡ []) × (t.hidden ≡ s.sight ∷ s.hidden)
  pub ends :
      e.kind ≡ end-group → (cells : List Value) (rest : List (List Value)) → s.hidden ≡ cells ∷ rest
      → (t.sight ≡ s.sight ++ cells) × (t.hidden ≡ rest)
  pub between : (e.kind ≡ begin_group → ⊥) → (e.kind ≡ end-group → ⊥) → t.hidden ≡ s.hidden

-- At every step of these states, one before each entity and one at the end.
unfoldable pub EveryStep : Limits → List Operation → List (State Value) → List Entity → Type 0
EveryStep L os [] es = ⊥
EveryStep L os (s ∷ []) [] = Limited L s × Apart (λ n. n.name) s.names
EveryStep L os (s ∷ t ∷ ss) [] = ⊥
EveryStep L os (s ∷ []) (e ∷ es) = ⊥
EveryStep L os (s ∷ t ∷ ss) (e ∷ es) =
    Limited L s × Apart (λ n. n.name) s.names × Well os s e × Hiding s e t × EveryStep L os (t ∷ ss) es

-- A run that goes well: it ends with 0 behind the last entity, each of them a step, so many cells remain, and every step is well.
pub record GoesWell (L : Limits) (os : List Operation) (es : List Entity) (bounded : Bool) (given : Outside) (cells : ℕ) :
    Type 0 where
  pub ends : run L bounded given os es ≡ record { number = 0; place = 0; steps = length es; cells = cells }
  pub at_every_step : EveryStep L os (states L bounded given os es) es
