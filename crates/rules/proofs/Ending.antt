-- How a check of kinds ends: by 0 behind the last entity, or by a rule of 21 to 30 at the entity that it stopped at, and then no cells are
-- told. Each rule of an entity is one of these numbers, and each step is one entity further in the list.
use mathlib.Core.Path.{◌≡◌, refl}
use mathlib.Core.Bool.{Bool, true, false, not, ◌&&◌}
use mathlib.Core.List.{List, [], ◌∷◌}
use mathlib.Core.Logic.{◌⊎◌, inl, inr}
use mathlib.Core.Option.{Option, none, some}
use Prim.Native.Nat.{ℕ, zero, suc, ◌+◌, ◌<◌, ◌≤◌}
use native.Mathlib.Omega.{arith}
use lib.Dec.{leb, ltb, eqb}
use lib.ListN.{length, take}
use borrow.Author.Tests.{leb-true}
use Rattle.chars.specs.Limits.{Limits}
use Rattle.std.specs.Prelude.{if◌then◌else◌}
use Rattle.chars.specs.Choice.{within}
use Rattle.chars.proofs.Cases.{both}
use Rattle.entities.specs.Entity.{Entity}
use Rattle.table.specs.Table.{Item, one, array_of, Operation, find}
use Rattle.rules.specs.Cells.{Amount, amount, none_by, Cell, Name, State, Did, goes, stops, Taken, leaves, refuses, Ended, cells_of}
use Rattle.rules.specs.Cells.{lookup, not_too_many, push, hide, show, new, define, fetch, store, assign, all_of, take_array}
use Rattle.rules.specs.Cells.{take_item, take_items, given, operate, act, through, empty}
use Rattle.rules.specs.Kinds.{Checked, of, count, wanted_of, kinds, check}
use Rattle.rules.proofs.ByKind.{by_way}

-- whether what stops an entity, the items of an operation or the count of an array is a rule of 21 to 30; one that is not stopped is fine
unfoldable pub ruled_did : {C : Type 0} → Did C → Bool
ruled_did (goes s) = true
ruled_did (stops rule) = within 21 30 rule

unfoldable ruled_taken : {C : Type 0} → Taken C → Bool
ruled_taken (leaves cells) = true
ruled_taken (refuses rule) = within 21 30 rule

unfoldable pub ruled_amount : Amount → Bool
ruled_amount (amount n) = true
ruled_amount (none_by rule) = within 21 30 rule

abbrev pub Ruled : {C : Type 0} → Did C → Type 0
Ruled d = ruled_did d ≡ true

abbrev Taking : {C : Type 0} → Taken C → Type 0
Taking t = ruled_taken t ≡ true

abbrev pub Counting : Amount → Type 0
Counting a = ruled_amount a ≡ true

-- one way or the other
ruled : {C : Type 0} (t : Bool) (x y : Did C) → Ruled x → Ruled y → Ruled (if t then x else y)
ruled true x y a b = a
ruled false x y a b = b

taking : {C : Type 0} (t : Bool) (x y : Taken C) → Taking x → Taking y → Taking (if t then x else y)
taking true x y a b = a
taking false x y a b = b

module _ (L : Limits) {C : Type 0} (cell : Cell C) (counts : (c : C) → Counting (cell.wanted c)) where
  not_too_many_ruled : (s : State C) → Ruled (not_too_many L cell s)
  unfolding not_too_many ruled_did
  not_too_many_ruled s = ruled (cell.bounded && ltb L.cells (cells_of s)) _ _ refl refl

  push_ruled : (s : State C) (c : C) → Ruled (push L cell s c)
  unfolding push
  push_ruled s c = not_too_many_ruled _

  show_ruled : (s : State C) (cells : List C) → Ruled (show L cell s cells)
  unfolding show ruled_did
  show_ruled s [] = refl
  show_ruled s (c ∷ []) = refl
  show_ruled s (c ∷ d ∷ cells) = refl

  new_ruled :
      (s : State C) (constant : Bool) (name : List ℕ) (c : C) (cells : List C) (o : Option (Name C))
      → Ruled (new L cell s constant name c cells o)
  unfolding new ruled_did
  new_ruled s constant name c cells (some n) = refl
  new_ruled s constant name c cells none =
      ruled (cell.bounded && not (ltb (length s.names) L.names)) _ _ refl refl

  define_ruled : (s : State C) (constant : Bool) (name : List ℕ) (cells : List C) → Ruled (define L cell s constant name cells)
  unfolding define ruled_did
  define_ruled s constant name [] = refl
  define_ruled s constant name (c ∷ cells) = new_ruled s constant name c cells (lookup name s.names)

  fetch_ruled : (s : State C) (o : Option (Name C)) → Ruled (fetch L cell s o)
  unfolding fetch ruled_did
  fetch_ruled s none = refl
  fetch_ruled s (some n) = push_ruled s n.value

  store_ruled : (s : State C) (name : List ℕ) (c : C) (cells : List C) (o : Option (Name C)) → Ruled (store L cell s name c cells o)
  unfolding store ruled_did
  store_ruled s name c cells none = refl
  store_ruled s name c cells (some n) =
      ruled n.constant _ _ refl (ruled (eqb (cell.kind c) (cell.kind n.value)) _ _ refl refl)

  assign_ruled : (s : State C) (name : List ℕ) (cells : List C) → Ruled (assign L cell s name cells)
  unfolding assign ruled_did
  assign_ruled s name [] = refl
  assign_ruled s name (c ∷ cells) = store_ruled s name c cells (lookup name s.names)

  array_taking : (kind : ℕ) (a : Amount) (cells : List C) → Counting a → Taking (take_array L cell kind a cells)
  unfolding take_array ruled_taken ruled_amount
  array_taking kind (none_by rule) cells r = r
  array_taking kind (amount n) cells r =
      taking (leb n (length cells)) _ _ (taking (all_of L cell kind (take n cells)) _ _ refl refl) refl

  item_taking : (i : Item) (cells : List C) → Taking (take_item L cell i cells)
  unfolding take_item ruled_taken
  item_taking (one kind) [] = refl
  item_taking (one kind) (c ∷ cells) = taking (eqb (cell.kind c) kind) _ _ refl refl
  item_taking (array_of kind) [] = refl
  item_taking (array_of kind) (c ∷ cells) =
      taking (eqb (cell.kind c) 0) _ _ (array_taking kind (cell.wanted c) cells (counts c)) refl

  then_taking :
      (t : Taken C) (f : List C → Taken C) → Taking t → ((cells : List C) → Taking (f cells))
      → Taking {C = C} (elim t [ refuses rule ↦ refuses rule | leaves cells ↦ f cells ])
  then_taking (refuses rule) f r g = r
  then_taking (leaves cells) f r g = g cells

  items_taking : (is : List Item) (cells : List C) → Taking (take_items L cell is cells)
  unfolding take_items ruled_taken
  items_taking [] cells = refl
  items_taking (i ∷ is) cells = then_taking (take_item L cell i cells) (take_items L cell is) (item_taking i cells) (items_taking is)

  given_ruled : (step : ℕ) (s : State C) (kinds : List ℕ) (t : Taken C) → Taking t → Ruled (given L cell step s kinds t)
  unfolding given ruled_did ruled_taken
  given_ruled step s _ (refuses rule) r = r
  given_ruled step s _ (leaves cells) r = not_too_many_ruled _

  operate_ruled : (step : ℕ) (s : State C) (o : Option Operation) → Ruled (operate L cell step s o)
  unfolding operate ruled_did
  operate_ruled step s none = refl
  operate_ruled step s (some o) = given_ruled step s o.gives _ (items_taking o.takes s.sight)

  pub act_ruled : (os : List Operation) (step : ℕ) (s : State C) (e : Entity) → Ruled (act L cell os step s e)
  unfolding hide ruled_did
  act_ruled os step s e =
      by_way L cell os step s (λ k d. Ruled d) e
      (record {
        nothing = λ k. refl;
        hides = refl;
        shows = show_ruled s s.sight;
        pushes = λ k c. push_ruled s c;
        defines = λ k constant. define_ruled s constant e.text s.sight;
        fetches = fetch_ruled s (lookup e.text s.names);
        assigns = assign_ruled s e.text s.sight;
        operates = operate_ruled step s (find e.text os);
      })

-- the place of an entity, counted from 0, or 0 past the last
unfoldable pub place_at : List Entity → ℕ → ℕ
place_at [] i = 0
place_at (e ∷ es) zero = e.place
place_at (e ∷ es) (suc i) = place_at es i

pub place_past : (i : ℕ) → place_at [] i ≡ 0
unfolding place_at
place_past i = refl

pub place_first : (e : Entity) (es : List Entity) → place_at (e ∷ es) 0 ≡ e.place
unfolding place_at
place_first e es = refl

pub place_next : (e : Entity) (es : List Entity) (i : ℕ) → place_at (e ∷ es) (suc i) ≡ place_at es i
unfolding place_at
place_next e es i = refl

pub rule_within : (rule : ℕ) → within 21 30 rule ≡ true → (21 ≤ rule) × (rule ≤ 30)
rule_within rule t =
    let parts = both (leb 21 rule) (leb rule 30) t in
    (leb-true 21 rule parts.0, leb-true rule 30 parts.1)

-- one entity, and those behind it
module _ (L : Limits) {C : Type 0} (cell : Cell C) (os : List Operation) where
  pub stopped_at :
      (steps rule : ℕ) (s : State C) (e : Entity) (es : List Entity) → act L cell os steps s e ≡ stops rule
      → through L cell os steps s (e ∷ es) ≡ record { number = rule; place = e.place; steps = steps; cells = 0 }
  unfolding through
  stopped_at steps rule s e es h = rw (h, through)

  pub went_on :
      (steps : ℕ) (s t : State C) (e : Entity) (es : List Entity) → act L cell os steps s e ≡ goes t
      → through L cell os steps s (e ∷ es) ≡ through L cell os (suc steps) t es
  unfolding through
  went_on steps s t e es h = rw (h, through)

-- how the entities behind so many steps end
data Ending (steps : ℕ) (es : List Entity) (x : Ended) : Type 0 where
  passed : x.number ≡ 0 → x.place ≡ 0 → x.steps ≡ steps + length es → Ending steps es x
  stopped :
      (i : ℕ) → (21 ≤ x.number) × (x.number ≤ 30) → i < length es → x.steps ≡ steps + i → x.place ≡ place_at es i → x.cells ≡ 0
      → Ending steps es x

one_more : (steps : ℕ) (e : Entity) (es : List Entity) (x : Ended) → Ending (suc steps) es x → Ending steps (e ∷ es) x
one_more steps e es x (passed n p s) = passed n p (omega arith)
one_more steps e es x (stopped i n l s p c) = stopped (suc i) n (omega arith) (omega arith) (rw place_next p) c

module _ (L : Limits) {C : Type 0} (cell : Cell C) (counts : (c : C) → Counting (cell.wanted c)) (os : List Operation) where
  then_ending :
      (steps : ℕ) (e : Entity) (es : List Entity) (d : Did C) → Ruled d
      → ((s : State C) → Ending (suc steps) es (through L cell os (suc steps) s es))
      → Ending steps (e ∷ es)
      (elim d [
        | stops rule ↦ record { number = rule; place = e.place; steps = steps; cells = 0 }
        | goes s ↦ through L cell os (suc steps) s es
      ])
  unfolding ruled_did
  then_ending steps e es (stops rule) r f = stopped 0 (rule_within rule r) (omega arith) (omega arith) (rw place_first) refl
  then_ending steps e es (goes s) r f = one_more steps e es _ (f s)

  ending : (steps : ℕ) (s : State C) (es : List Entity) → Ending steps es (through L cell os steps s es)
  unfolding through
  ending steps s [] = passed refl refl (omega arith)
  ending steps s (e ∷ es) =
      then_ending steps e es (act L cell os steps s e) (act_ruled L cell counts os steps s e) (λ t. ending (suc steps) t es)

-- a plain number is refused by 24
pub kinds_count : (c : Checked) → Counting (wanted_of c)
unfolding wanted_of ruled_amount
kinds_count (of kind) = refl
kinds_count (count n) = refl

check_ending : (L : Limits) (os : List Operation) (es : List Entity) → Ending 0 es (check L os es)
unfolding check kinds
check_ending L os es = ending L kinds kinds_count os 0 empty es

number_of : {steps : ℕ} {es : List Entity} {x : Ended} → Ending steps es x → (x.number ≡ 0) ⊎ ((21 ≤ x.number) × (x.number ≤ 30))
number_of (passed n p s) = inl n
number_of (stopped i n l s p c) = inr n

passes_of : {es : List Entity} {x : Ended} → Ending 0 es x → x.number ≡ 0 → (x.place ≡ 0) × (x.steps ≡ length es)
passes_of (passed n p s) z = (p, omega arith)
passes_of (stopped i n l s p c) z = absurd (omega arith)

stops_of :
    {es : List Entity} {x : Ended} → Ending 0 es x → (x.number ≡ 0 → ⊥)
    → (x.steps < length es) × (x.place ≡ place_at es x.steps) × (x.cells ≡ 0)
stops_of (passed n p s) z = absurd (z n)
stops_of {x = x} (stopped i n l s p c) z =
    let at : x.steps ≡ i = omega arith in
    (omega arith, rw at p, c)

pub check_number :
    (L : Limits) (os : List Operation) (es : List Entity)
    → ((check L os es).number ≡ 0) ⊎ ((21 ≤ (check L os es).number) × ((check L os es).number ≤ 30))
check_number L os es = number_of (check_ending L os es)

pub check_passes :
    (L : Limits) (os : List Operation) (es : List Entity) → (check L os es).number ≡ 0
    → ((check L os es).place ≡ 0) × ((check L os es).steps ≡ length es)
check_passes L os es = passes_of (check_ending L os es)

pub check_stops :
    (L : Limits) (os : List Operation) (es : List Entity) → ((check L os es).number ≡ 0 → ⊥)
    → ((check L os es).steps < length es) × ((check L os es).place ≡ place_at es (check L os es).steps) × ((check L os es).cells ≡ 0)
check_stops L os es = stops_of (check_ending L os es)
