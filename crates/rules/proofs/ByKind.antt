-- What an entity of a kind does, and what is so where it goes on.
use mathlib.Core.Path.{◌≡◌, refl}
use mathlib.Core.Bool.{Bool, true, false}
use mathlib.Core.List.{List, [], ◌∷◌}
use Prim.Native.Nat.{ℕ}
use Rattle.chars.specs.Limits.{Limits}
use Rattle.entities.specs.Entity.{Kind, Entity}
use Rattle.entities.specs.Entity.{begin-metacommand, end-metacommand, metacommand-token, metacommand-quoted, metacommand-curly}
use Rattle.entities.specs.Entity.{begin_group, end-group, array, number, quoted-string, curly-string}
use Rattle.entities.specs.Entity.{define-variable, define-constant, get, put, operation, end}
use Rattle.table.specs.Table.{Operation, find}
use Rattle.rules.specs.Cells.{Cell, State, Did, goes, stops, lookup, push, hide, show, define, fetch, assign, operate, act}

-- it goes on to a state
abbrev pub Goes : {C : Type 0} → Did C → Type 0
Goes {C} d = (t : State C) × (d ≡ goes t)

-- what is so if it goes on
unfoldable pub IfGoes : {C : Type 0} → (State C → Type 0) → Did C → Type 0
IfGoes P (goes t) = P t
IfGoes P (stops rule) = Unit

pub if_goes : {C : Type 0} (P : State C → Type 0) {d : Did C} (t : State C) → d ≡ goes t → IfGoes P d → P t
unfolding IfGoes
if_goes P t e p = rw e at p

module _ (L : Limits) {C : Type 0} (cell : Cell C) (os : List Operation) (step : ℕ) (s : State C) (e : Entity) where
  pub at_begin_group : e.kind ≡ begin_group → act L cell os step s e ≡ hide L cell s
  unfolding act
  at_begin_group k = rw (k, act)

  pub at_end_group : e.kind ≡ end-group → act L cell os step s e ≡ show L cell s s.sight
  unfolding act
  at_end_group k = rw (k, act)

  pub at_variable : e.kind ≡ define-variable → act L cell os step s e ≡ define L cell s false e.text s.sight
  unfolding act
  at_variable k = rw (k, act)

  pub at_constant : e.kind ≡ define-constant → act L cell os step s e ≡ define L cell s true e.text s.sight
  unfolding act
  at_constant k = rw (k, act)

  pub at_get : e.kind ≡ get → act L cell os step s e ≡ fetch L cell s (lookup e.text s.names)
  unfolding act
  at_get k = rw (k, act)

  pub at_put : e.kind ≡ put → act L cell os step s e ≡ assign L cell s e.text s.sight
  unfolding act
  at_put k = rw (k, act)

  pub at_operation : e.kind ≡ operation → act L cell os step s e ≡ operate L cell step s (find e.text os)
  unfolding act
  at_operation k = rw (k, act)

-- begin group hides all cells
pub begin_hides :
    (L : Limits) {C : Type 0} (cell : Cell C) (s : State C)
    → IfGoes (λ t. (t.sight ≡ []) × (t.hidden ≡ s.sight ∷ s.hidden)) (hide L cell s)
unfolding hide IfGoes
begin_hides L cell s = (refl, refl)

-- What is so of each way that an entity can go is so of the entity.
module _ (L : Limits) {C : Type 0} (cell : Cell C) (os : List Operation) (step : ℕ) (s : State C) (P : Kind → Did C → Type 0) where
  pub record Ways (text : List ℕ) : Type 0 where
    pub nothing : (k : Kind) → P k (goes s)
    pub hides : P begin_group (hide L cell s)
    pub shows : P end-group (show L cell s s.sight)
    pub pushes : (k : Kind) (c : C) → P k (push L cell s c)
    pub defines : (k : Kind) (constant : Bool) → P k (define L cell s constant text s.sight)
    pub fetches : P get (fetch L cell s (lookup text s.names))
    pub assigns : P put (assign L cell s text s.sight)
    pub operates : P operation (operate L cell step s (find text os))

  by_kind :
      (k : Kind) (place n : ℕ) (text string : List ℕ) → Ways text
      → P k (act L cell os step s (record { kind = k; place = place; text = text; string = string; count = n }))
  unfolding act
  by_kind begin-metacommand place n text string w = w.nothing begin-metacommand
  by_kind end-metacommand place n text string w = w.nothing end-metacommand
  by_kind metacommand-token place n text string w = w.nothing metacommand-token
  by_kind metacommand-quoted place n text string w = w.nothing metacommand-quoted
  by_kind metacommand-curly place n text string w = w.nothing metacommand-curly
  by_kind begin_group place n text string w = w.hides
  by_kind end-group place n text string w = w.shows
  by_kind array place n text string w = w.pushes array (cell.counted n)
  by_kind number place n text string w = w.pushes number (cell.literal step 0)
  by_kind quoted-string place n text string w = w.pushes quoted-string (cell.literal step 1)
  by_kind curly-string place n text string w = w.pushes curly-string (cell.literal step 1)
  by_kind define-variable place n text string w = w.defines define-variable false
  by_kind define-constant place n text string w = w.defines define-constant true
  by_kind get place n text string w = w.fetches
  by_kind put place n text string w = w.assigns
  by_kind operation place n text string w = w.operates
  by_kind end place n text string w = w.nothing end

  pub by_way : (e : Entity) → Ways e.text → P e.kind (act L cell os step s e)
  by_way e w = by_kind e.kind e.place e.count e.text e.string w
