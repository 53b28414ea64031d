-- The rules of cells, groups, names and operations, once for the check and for a run (document 01, "Cells and operations" and
-- "Order"). A run "keeps the same rules but for 24, 29 and 30", so what a cell is and which rules hold is a parameter here.
use Rattle.std.specs.Prelude.{ℕ, suc, ◌+◌, Bool, true, false, not, ◌&&◌, List, [], ◌∷◌, leb, ltb, eqb, length, take, drop, if◌then◌else◌}
use Rattle.std.proofs.Math.Option.{Option, none, some}
use Rattle.chars.specs.Limits.{Limits}
use Rattle.chars.specs.Choice.{same}
use Rattle.entities.specs.Entity.{Entity}
use Rattle.entities.specs.Entity.{begin-metacommand, end-metacommand, metacommand-token, metacommand-quoted, metacommand-curly}
use Rattle.entities.specs.Entity.{begin_group, end-group, array, number, quoted-string, curly-string}
use Rattle.entities.specs.Entity.{define-variable, define-constant, get, put, operation, end}
use Rattle.table.specs.Table.{Item, one, array_of, Operation, find}

-- how many cells an array item takes behind its number cell, or the rule that refuses it
pub data Amount : Type 0 where
  amount : ℕ → Amount
  none_by : (rule : ℕ) → Amount

-- what a cell is
pub record Cell (C : Type 0) : Type 1 where
  -- its kind: 0 number, 1 string, 2 to 15 the house's
  pub kind : C → ℕ
  -- what a literal of this kind pushes at this step
  pub literal : (step kind : ℕ) → C
  -- what an array pushes
  pub counted : (count : ℕ) → C
  -- what a name keeps of a cell
  pub kept : C → C
  -- what an operation hands back at this step, by its place among the kinds given
  pub result : (step place kind : ℕ) → C
  -- what an array item makes of a cell of kind 0
  pub wanted : C → Amount
  -- whether 29 and 30 are rules
  pub bounded : Bool

pub record Name (C : Type 0) : Type 0 where
  pub name : List ℕ
  pub constant : Bool
  pub value : C

pub record State (C : Type 0) : Type 0 where
  -- the cells in sight, the top first
  pub sight : List C
  -- what each open group hides, the innermost first
  pub hidden : List (List C)
  -- names of variables and constants, in one space
  pub names : List (Name C)

-- what an entity does: it leads to a state, or a rule stops it
pub data Did (C : Type 0) : Type 0 where
  goes : State C → Did C
  stops : (rule : ℕ) → Did C

-- the cells in sight that are left, or the rule that stops it
pub data Taken (C : Type 0) : Type 0 where
  leaves : List C → Taken C
  refuses : (rule : ℕ) → Taken C

-- how many cells are hidden
unfoldable pub total : {C : Type 0} → List (List C) → ℕ
total [] = 0
total (cells ∷ rest) = length cells + total rest

-- how many cells there are, hidden ones counted
unfoldable pub cells_of : {C : Type 0} → State C → ℕ
cells_of s = length s.sight + total s.hidden

-- the variable or constant of this name
unfoldable pub lookup : {C : Type 0} → (name : List ℕ) → List (Name C) → Option (Name C)
lookup name [] = none
lookup name (n ∷ ns) = if same name n.name then some n else lookup name ns

-- the names, with another value for this one
unfoldable pub changed : {C : Type 0} → (name : List ℕ) → C → List (Name C) → List (Name C)
changed name value [] = []
changed name value (n ∷ ns) =
    (if same name n.name then record { name = n.name; constant = n.constant; value = value } else n)
    ∷ changed name value ns

module _ (L : Limits) {C : Type 0} (cell : Cell C) where
  -- 29 where there are over 1,024 cells
  unfoldable pub not_too_many : State C → Did C
  not_too_many s =
      if cell.bounded && ltb L.cells (cells_of s) then stops 29 else goes s

  unfoldable pub in_sight : State C → List C → State C
  in_sight s cells = record { sight = cells; hidden = s.hidden; names = s.names }

  unfoldable pub push : State C → C → Did C
  push s c = not_too_many (in_sight s (c ∷ s.sight))

  -- begin group hides all cells
  unfoldable pub hide : State C → Did C
  hide s = goes (record { sight = []; hidden = s.sight ∷ s.hidden; names = s.names })

  -- the cells that the innermost group hides
  unfoldable pub innermost : List (List C) → List C
  innermost [] = []
  innermost (cells ∷ rest) = cells

  unfoldable pub outer : List (List C) → List (List C)
  outer [] = []
  outer (cells ∷ rest) = rest

  -- end group needs exactly one cell in sight (28), then shows the hidden ones again
  unfoldable pub show : State C → List C → Did C
  show s [] = stops 28
  show s (c ∷ []) =
      goes (record { sight = c ∷ innermost s.hidden; hidden = outer s.hidden; names = s.names })
  show s (c ∷ d ∷ cells) = stops 28

  -- a name that is new, with its cell: 25, 30
  unfoldable pub new : State C → (constant : Bool) → (name : List ℕ) → C → List C → Option (Name C) → Did C
  new s constant name c cells (some n) = stops 25
  new s constant name c cells none =
      if cell.bounded && not (ltb (length s.names) L.names) then stops 30
      else goes
      (record {
        sight = cells;
        hidden = s.hidden;
        names = record { name = name; constant = constant; value = cell.kept c } ∷ s.names;
      })

  -- `?` and `@` take the top cell (22, 25, 30)
  unfoldable pub define : State C → (constant : Bool) → (name : List ℕ) → List C → Did C
  define s constant name [] = stops 22
  define s constant name (c ∷ cells) = new s constant name c cells (lookup name s.names)

  -- `=` pushes what the name keeps (26, 29)
  unfoldable pub fetch : State C → Option (Name C) → Did C
  fetch s none = stops 26
  fetch s (some n) = push s n.value

  -- `:` takes a cell of the name's kind (26, 27, 23)
  unfoldable pub store : State C → (name : List ℕ) → C → List C → Option (Name C) → Did C
  store s name c cells none = stops 26
  store s name c cells (some n) =
      if n.constant then stops 27
      else if eqb (cell.kind c) (cell.kind n.value)
      then goes (record { sight = cells; hidden = s.hidden; names = changed name (cell.kept c) s.names })
      else stops 23

  -- 22 comes before these
  unfoldable pub assign : State C → (name : List ℕ) → List C → Did C
  assign s name [] = stops 22
  assign s name (c ∷ cells) = store s name c cells (lookup name s.names)

  unfoldable pub all_of : (kind : ℕ) → List C → Bool
  all_of kind [] = true
  all_of kind (c ∷ cells) = eqb (cell.kind c) kind && all_of kind cells

  -- an array's cells, behind its number cell: for all of them 22 before 23
  unfoldable pub take_array : (kind : ℕ) → Amount → List C → Taken C
  take_array kind (none_by rule) cells = refuses rule
  take_array kind (amount n) cells =
      if leb n (length cells)
      then if all_of kind (take n cells) then leaves (drop n cells) else refuses 23
      else refuses 22

  -- one item, from the top: 22, 23; of an array the number cell first
  unfoldable pub take_item : Item → List C → Taken C
  take_item (one kind) [] = refuses 22
  take_item (one kind) (c ∷ cells) = if eqb (cell.kind c) kind then leaves cells else refuses 23
  take_item (array_of kind) [] = refuses 22
  take_item (array_of kind) (c ∷ cells) =
      if eqb (cell.kind c) 0 then take_array kind (cell.wanted c) cells else refuses 23

  -- the items in order
  unfoldable pub take_items : List Item → List C → Taken C
  take_items [] cells = leaves cells
  take_items (i ∷ is) cells =
      elim (take_item i cells) [ refuses rule ↦ refuses rule | leaves cells ↦ take_items is cells ]

  -- the kinds given, the last left on top
  unfoldable pub give : (step place : ℕ) → List ℕ → List C → List C
  give step place [] cells = cells
  give step place (kind ∷ kinds) cells = give step (suc place) kinds (cell.result step place kind ∷ cells)

  -- after all items 29
  unfoldable pub given : (step : ℕ) → State C → (kinds : List ℕ) → Taken C → Did C
  given step s kinds (refuses rule) = stops rule
  given step s kinds (leaves cells) = not_too_many (in_sight s (give step 0 kinds cells))

  -- an operation: 21, then its items
  unfoldable pub operate : (step : ℕ) → State C → Option Operation → Did C
  operate step s none = stops 21
  operate step s (some o) = given step s o.gives (take_items o.takes s.sight)

  -- One entity. Metacommands do nothing, and neither does `|;`.
  unfoldable pub act : List Operation → (step : ℕ) → State C → Entity → Did C
  act os step s e =
      elim e.kind [
        | begin-metacommand ↦ goes s
        | end-metacommand ↦ goes s
        | metacommand-token ↦ goes s
        | metacommand-quoted ↦ goes s
        | metacommand-curly ↦ goes s
        | begin_group ↦ hide s
        | end-group ↦ show s s.sight
        | array ↦ push s (cell.counted e.count)
        | number ↦ push s (cell.literal step 0)
        | quoted-string ↦ push s (cell.literal step 1)
        | curly-string ↦ push s (cell.literal step 1)
        | define-variable ↦ define s false e.text s.sight
        | define-constant ↦ define s true e.text s.sight
        | get ↦ fetch s (lookup e.text s.names)
        | put ↦ assign s e.text s.sight
        | operation ↦ operate step s (find e.text os)
        | end ↦ goes s
      ]

-- How it ended: 0, or the rule that stopped it and the place of the entity; the entities handled before it stopped; the cells that
-- remain.
pub record Ended : Type 0 where
  pub number : ℕ
  pub place : ℕ
  pub steps : ℕ
  pub cells : ℕ

-- From the first entity through the last. Each entity is one step, `|;` included and a refused one not.
unfoldable pub through :
    Limits → {C : Type 0} → Cell C → List Operation → (steps : ℕ) → State C → List Entity → Ended
through L cell os steps s [] = record { number = 0; place = 0; steps = steps; cells = cells_of s }
through L cell os steps s (e ∷ es) =
    elim (act L cell os steps s e) [
      | stops rule ↦ record { number = rule; place = e.place; steps = steps; cells = 0 }
      | goes s ↦ through L cell os (suc steps) s es
    ]

-- no cell and no name
unfoldable pub empty : {C : Type 0} → State C
empty = record { sight = []; hidden = []; names = [] }
