-- The limits of cells and names, where they are rules. 29 and 30 agree with the predicate of the state behind a step; a step that they do
-- not look at leaves no more cells and names than there were.
use mathlib.Core.Path.{◌≡◌, refl}
use mathlib.Core.Bool.{Bool, true}
use mathlib.Core.List.{List, [], ◌∷◌}
use mathlib.Core.Logic.{◌↔◌}
use mathlib.Core.Option.{Option, none, some}
use Prim.Native.Nat.{ℕ, suc, ◌+◌, ◌≤◌}
use native.Mathlib.Omega.{arith}
use lib.Dec.{ltb, eqb}
use lib.ListN.{length}
use borrow.Author.Tests.{ltb-true, ltb-false, lt-ltb, le-ltb}
use Rattle.chars.specs.Limits.{Limits}
use Rattle.chars.proofs.Cases.{either}
use Rattle.entities.specs.Entity.{Entity}
use Rattle.table.specs.Table.{Operation, find}
use Rattle.rules.specs.Cells.{Cell, Name, State, goes, Taken, leaves, refuses, total, cells_of, lookup, not_too_many}
use Rattle.rules.specs.Cells.{in_sight, push, hide, innermost, outer, show, new, define, fetch, store, assign, take_items, given}
use Rattle.rules.specs.Cells.{operate}
use Rattle.rules.specs.Cells.{act}
use Rattle.rules.specs.Well.{Limited}
use Rattle.rules.proofs.ByKind.{Goes, IfGoes, if_goes, by_way}
use Rattle.rules.proofs.States.{after, went, changed_length}

module _ (L : Limits) {C : Type 0} (cell : Cell C) (b : cell.bounded ≡ true) where
  -- 29
  cells_well : (t : State C) → IfGoes (λ u. cells_of t ≤ L.cells) (not_too_many L cell t)
  unfolding not_too_many IfGoes
  cells_well t =
      either (ltb L.cells (cells_of t)) (λ m. rw (b, m) tt) (λ m. rw (b, m) (ltb-false L.cells (cells_of t) m))

  well_cells : (t : State C) → cells_of t ≤ L.cells → Goes (not_too_many L cell t)
  unfolding not_too_many
  well_cells t h = rw (b, le-ltb L.cells (cells_of t) h) (_, refl)

  pub cells_agree : (t : State C) → Goes (not_too_many L cell t) ↔ (cells_of t ≤ L.cells)
  cells_agree t = ((λ g. if_goes (λ u. cells_of t ≤ L.cells) g.0 g.1 (cells_well t)), well_cells t)

  -- 30, of a name that is new
  names_well :
      (s : State C) (constant : Bool) (name : List ℕ) (c : C) (cells : List C)
      → IfGoes (λ u. suc (length s.names) ≤ L.names) (new L cell s constant name c cells none)
  unfolding new IfGoes
  names_well s constant name c cells =
      either (ltb (length s.names) L.names)
      (λ m. rw (b, m) (ltb-true (length s.names) L.names m))
      (λ m. rw (b, m) tt)

  well_names :
      (s : State C) (constant : Bool) (name : List ℕ) (c : C) (cells : List C) → suc (length s.names) ≤ L.names
      → Goes (new L cell s constant name c cells none)
  unfolding new
  well_names s constant name c cells h = rw (b, lt-ltb (length s.names) L.names h) (_, refl)

  pub names_agree :
      (s : State C) (constant : Bool) (name : List ℕ) (c : C) (cells : List C)
      → Goes (new L cell s constant name c cells none) ↔ (suc (length s.names) ≤ L.names)
  names_agree s constant name c cells = (
    (λ g. if_goes (λ u. suc (length s.names) ≤ L.names) g.0 g.1 (names_well s constant name c cells)),
    well_names s constant name c cells,
  )

  module _ (s : State C) (w : Limited L s) where
    many_limited : (t : State C) → t.names ≡ s.names → Limited L (after s (not_too_many L cell t))
    unfolding not_too_many after
    many_limited t e =
        either (ltb L.cells (cells_of t))
        (λ m. rw (b, m) w)
        (λ m. rw (b, m) (record { few_cells = ltb-false L.cells (cells_of t) m; few_names = rw e w.few_names }))

    push_limited : (c : C) → Limited L (after s (push L cell s c))
    unfolding push in_sight
    push_limited c = many_limited _ refl

    hide_limited : Limited L (after s (hide L cell s))
    unfolding hide after cells_of total
    hide_limited = let few = w.few_cells in record { few_cells = omega arith; few_names = w.few_names }

    shown : (hidden : List (List C)) → length (innermost L cell hidden) + total (outer L cell hidden) ≡ total hidden
    unfolding innermost outer total
    shown [] = refl
    shown (cells ∷ rest) = refl

    show_limited : (cells : List C) → length cells ≡ length s.sight → Limited L (after s (show L cell s cells))
    unfolding show after cells_of
    show_limited [] e = w
    show_limited (c ∷ []) e =
        let all = shown s.hidden in
        let few = w.few_cells in
        record { few_cells = omega arith; few_names = w.few_names }
    show_limited (c ∷ d ∷ cells) e = w

    fetch_limited : (o : Option (Name C)) → Limited L (after s (fetch L cell s o))
    unfolding fetch after
    fetch_limited none = w
    fetch_limited (some n) = push_limited n.value

    new_limited :
        (constant : Bool) (name : List ℕ) (c : C) (cells : List C) (o : Option (Name C)) → suc (length cells) ≡ length s.sight
        → Limited L (after s (new L cell s constant name c cells o))
    unfolding new after cells_of
    new_limited constant name c cells (some n) e = w
    new_limited constant name c cells none e =
        let few = w.few_cells in
        either (ltb (length s.names) L.names)
        (λ m. rw (b, m) (record { few_cells = omega arith; few_names = ltb-true (length s.names) L.names m }))
        (λ m. rw (b, m) w)

    define_limited :
        (constant : Bool) (name : List ℕ) (cells : List C) → length cells ≡ length s.sight
        → Limited L (after s (define L cell s constant name cells))
    unfolding define after
    define_limited constant name [] e = w
    define_limited constant name (c ∷ cells) e = new_limited constant name c cells (lookup name s.names) e

    store_limited :
        (name : List ℕ) (c : C) (cells : List C) (o : Option (Name C)) → suc (length cells) ≡ length s.sight
        → Limited L (after s (store L cell s name c cells o))
    unfolding store after cells_of
    store_limited name c cells none e = w
    store_limited name c cells (some n) e =
        let few = w.few_cells in
        either n.constant (λ k. rw k w)
        (λ k. rw k (either (eqb (cell.kind c) (cell.kind n.value))
        (λ d. rw d (record { few_cells = omega arith; few_names = rw (changed_length name (cell.kept c) s.names) w.few_names }))
        (λ d. rw d w)))

    assign_limited : (name : List ℕ) (cells : List C) → length cells ≡ length s.sight → Limited L (after s (assign L cell s name cells))
    unfolding assign after
    assign_limited name [] e = w
    assign_limited name (c ∷ cells) e = store_limited name c cells (lookup name s.names) e

    given_limited : (step : ℕ) (kinds : List ℕ) (t : Taken C) → Limited L (after s (given L cell step s kinds t))
    unfolding given in_sight after
    given_limited step kinds (refuses rule) = w
    given_limited step kinds (leaves cells) = many_limited _ refl

    operate_limited : (step : ℕ) (o : Option Operation) → Limited L (after s (operate L cell step s o))
    unfolding operate after
    operate_limited step none = w
    operate_limited step (some o) = given_limited step o.gives (take_items L cell o.takes s.sight)

    pub still_limited : (os : List Operation) (step : ℕ) (e : Entity) (t : State C) → act L cell os step s e ≡ goes t → Limited L t
    unfolding after
    still_limited os step e t h =
        rw (went s t (act L cell os step s e) h)
        at (by_way L cell os step s (λ k d. Limited L (after s d)) e
        (record {
          nothing = λ k. w;
          hides = hide_limited;
          shows = show_limited s.sight refl;
          pushes = λ k c. push_limited c;
          defines = λ k constant. define_limited constant e.text s.sight refl;
          fetches = fetch_limited (lookup e.text s.names);
          assigns = assign_limited e.text s.sight refl;
          operates = operate_limited step (find e.text os);
        }))
