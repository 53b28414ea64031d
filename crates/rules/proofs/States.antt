-- What is so of every state. A step that adds a name adds one that is not there; a step that pushes cells or adds a name looks at the
-- limits, and every other step leaves no more than there were; and but for the two ends of a group no step touches a hidden cell.
use mathlib.Core.Path.{◌≡◌, refl, ap}
use mathlib.Core.Bool.{Bool, not, ◌&&◌}
use mathlib.Core.List.{List, [], ◌∷◌, ◌++◌}
use mathlib.Core.Option.{Option, none, some}
use Prim.Native.Nat.{ℕ, suc}
use lib.Dec.{ltb, eqb}
use lib.ListN.{length}
use Rattle.chars.specs.Limits.{Limits}
use Rattle.chars.specs.Choice.{same}
use Rattle.chars.proofs.Cases.{either}
use Rattle.entities.specs.Entity.{Entity, begin_group, end-group}
use Rattle.table.specs.Table.{Operation, find}
use Rattle.rules.specs.Cells.{Cell, Name, State, Did, goes, stops, Taken, leaves, refuses, cells_of, lookup, changed, not_too_many}
use Rattle.rules.specs.Cells.{in_sight, push, hide, innermost, outer, show, new, define, fetch, store, assign, take_items, given}
use Rattle.rules.specs.Cells.{operate}
use Rattle.rules.specs.Cells.{act}
use Rattle.rules.specs.Well.{Every, Apart}
use Rattle.rules.proofs.ByKind.{IfGoes, by_way}
use Rattle.rules.proofs.First.{Found, lookup_found}

-- the state behind an entity; one that is stopped leaves it
unfoldable pub after : {C : Type 0} → State C → Did C → State C
after s (goes t) = t
after s (stops rule) = s

pub went : {C : Type 0} (s t : State C) (d : Did C) → d ≡ goes t → after s d ≡ t
unfolding after
went s t d e = rw e

-- hidden cells and names are as they were
abbrev Kept : {C : Type 0} → State C → State C → Type 0
Kept s t = (t.hidden ≡ s.hidden) × (t.names ≡ s.names)

abbrev named : {C : Type 0} → Name C → List ℕ
named n = n.name

module _ (L : Limits) {C : Type 0} (cell : Cell C) (s : State C) where
  many_kept : (t : State C) → Kept s t → Kept s (after s (not_too_many L cell t))
  unfolding not_too_many after
  many_kept t k = either (cell.bounded && ltb L.cells (cells_of t)) (λ b. rw b (refl, refl)) (λ b. rw b k)

  push_kept : (c : C) → Kept s (after s (push L cell s c))
  unfolding push in_sight
  push_kept c = many_kept _ (refl, refl)

  fetch_kept : (o : Option (Name C)) → Kept s (after s (fetch L cell s o))
  unfolding fetch after
  fetch_kept none = (refl, refl)
  fetch_kept (some n) = push_kept n.value

  given_kept : (step : ℕ) (kinds : List ℕ) (t : Taken C) → Kept s (after s (given L cell step s kinds t))
  unfolding given in_sight after
  given_kept step kinds (refuses rule) = (refl, refl)
  given_kept step kinds (leaves cells) = many_kept _ (refl, refl)

  operate_kept : (step : ℕ) (o : Option Operation) → Kept s (after s (operate L cell step s o))
  unfolding operate after
  operate_kept step none = (refl, refl)
  operate_kept step (some o) = given_kept step o.gives (take_items L cell o.takes s.sight)

  -- hidden cells
  new_hidden :
      (constant : Bool) (name : List ℕ) (c : C) (cells : List C) (o : Option (Name C))
      → (after s (new L cell s constant name c cells o)).hidden ≡ s.hidden
  unfolding new after
  new_hidden constant name c cells (some n) = refl
  new_hidden constant name c cells none =
      either (cell.bounded && not (ltb (length s.names) L.names)) (λ b. rw b refl) (λ b. rw b refl)

  define_hidden : (constant : Bool) (name : List ℕ) (cells : List C) → (after s (define L cell s constant name cells)).hidden ≡ s.hidden
  unfolding define after
  define_hidden constant name [] = refl
  define_hidden constant name (c ∷ cells) = new_hidden constant name c cells (lookup name s.names)

  store_hidden :
      (name : List ℕ) (c : C) (cells : List C) (o : Option (Name C)) → (after s (store L cell s name c cells o)).hidden ≡ s.hidden
  unfolding store after
  store_hidden name c cells none = refl
  store_hidden name c cells (some n) =
      either n.constant (λ b. rw b refl)
      (λ b. rw b (either (eqb (cell.kind c) (cell.kind n.value)) (λ d. rw d refl) (λ d. rw d refl)))

  assign_hidden : (name : List ℕ) (cells : List C) → (after s (assign L cell s name cells)).hidden ≡ s.hidden
  unfolding assign after
  assign_hidden name [] = refl
  assign_hidden name (c ∷ cells) = store_hidden name c cells (lookup name s.names)

  pub hidden_kept :
      (os : List Operation) (step : ℕ) (e : Entity) (t : State C) → (e.kind ≡ begin_group → ⊥) → (e.kind ≡ end-group → ⊥)
      → act L cell os step s e ≡ goes t → t.hidden ≡ s.hidden
  unfolding after
  hidden_kept os step e t begins ends h =
      rw (went s t (act L cell os step s e) h)
      at (by_way L cell os step s (λ k d. (k ≡ begin_group → ⊥) → (k ≡ end-group → ⊥) → (after s d).hidden ≡ s.hidden) e
      (record {
        nothing = λ k b f. refl;
        hides = λ b f. absurd (b refl);
        shows = λ b f. absurd (f refl);
        pushes = λ k c b f. (push_kept c).0;
        defines = λ k constant b f. define_hidden constant e.text s.sight;
        fetches = λ b f. (fetch_kept (lookup e.text s.names)).0;
        assigns = λ b f. assign_hidden e.text s.sight;
        operates = λ b f. (operate_kept step (find e.text os)).0;
      }) begins ends)

-- end group shows what its group hid, under the one that is left
pub end_hidden :
    (L : Limits) {C : Type 0} (cell : Cell C) (s : State C) (sight : List C)
    → IfGoes (λ t. (t.hidden ≡ outer L cell s.hidden) × (t.sight ≡ sight ++ innermost L cell s.hidden)) (show L cell s sight)
unfolding show IfGoes
end_hidden L cell s [] = tt
end_hidden L cell s (c ∷ []) = (refl, refl)
end_hidden L cell s (c ∷ d ∷ sight) = tt

-- names
module _ {C : Type 0} (name : List ℕ) (value : C) where
  changed_differs :
      (other : List ℕ) (ns : List (Name C)) → Every (λ n. n.name ≡ other → ⊥) ns → Every (λ n. n.name ≡ other → ⊥) (changed name value ns)
  unfolding changed Every
  changed_differs other [] d = tt
  changed_differs other (n ∷ ns) d =
      either (same name n.name)
      (λ t. rw t (d.0, changed_differs other ns d.1))
      (λ t. rw t (d.0, changed_differs other ns d.1))

  changed_apart : (ns : List (Name C)) → Apart named ns → Apart named (changed name value ns)
  unfolding changed Apart
  changed_apart [] a = tt
  changed_apart (n ∷ ns) a =
      either (same name n.name)
      (λ t. rw t (changed_differs n.name ns a.0, changed_apart ns a.1))
      (λ t. rw t (changed_differs n.name ns a.0, changed_apart ns a.1))

  pub changed_length : (ns : List (Name C)) → length (changed name value ns) ≡ length ns
  unfolding changed
  changed_length [] = refl
  changed_length (n ∷ ns) = ap suc (changed_length ns)

module _ (L : Limits) {C : Type 0} (cell : Cell C) (s : State C) (a : Apart named s.names) where
  still : (d : Did C) → Kept s (after s d) → Apart named (after s d).names
  still d k = rw k.1 a

  new_apart :
      (constant : Bool) (name : List ℕ) (c : C) (cells : List C) (o : Option (Name C)) → Found named name s.names o
      → Apart named (after s (new L cell s constant name c cells o)).names
  unfolding new after Found Apart
  new_apart constant name c cells (some n) h = a
  new_apart constant name c cells none h =
      either (cell.bounded && not (ltb (length s.names) L.names)) (λ b. rw b a) (λ b. rw b (h, a))

  define_apart : (constant : Bool) (name : List ℕ) (cells : List C) → Apart named (after s (define L cell s constant name cells)).names
  unfolding define after
  define_apart constant name [] = a
  define_apart constant name (c ∷ cells) = new_apart constant name c cells (lookup name s.names) (lookup_found name s.names)

  store_apart :
      (name : List ℕ) (c : C) (cells : List C) (o : Option (Name C)) → Apart named (after s (store L cell s name c cells o)).names
  unfolding store after
  store_apart name c cells none = a
  store_apart name c cells (some n) =
      either n.constant (λ b. rw b a)
      (λ b. rw b (either (eqb (cell.kind c) (cell.kind n.value))
      (λ d. rw d (changed_apart name (cell.kept c) s.names a))
      (λ d. rw d a)))

  assign_apart : (name : List ℕ) (cells : List C) → Apart named (after s (assign L cell s name cells)).names
  unfolding assign after
  assign_apart name [] = a
  assign_apart name (c ∷ cells) = store_apart name c cells (lookup name s.names)

  show_apart : (cells : List C) → Apart named (after s (show L cell s cells)).names
  unfolding show after
  show_apart [] = a
  show_apart (c ∷ []) = a
  show_apart (c ∷ d ∷ cells) = a

  pub names_apart :
      (os : List Operation) (step : ℕ) (e : Entity) (t : State C) → act L cell os step s e ≡ goes t → Apart named t.names
  unfolding after hide
  names_apart os step e t h =
      rw (went s t (act L cell os step s e) h)
      at (by_way L cell os step s (λ k d. Apart named (after s d).names) e
      (record {
        nothing = λ k. a;
        hides = a;
        shows = show_apart s.sight;
        pushes = λ k c. still (push L cell s c) (push_kept L cell s c);
        defines = λ k constant. define_apart constant e.text s.sight;
        fetches = still (fetch L cell s _) (fetch_kept L cell s (lookup e.text s.names));
        assigns = assign_apart e.text s.sight;
        operates = still (operate L cell step s _) (operate_kept L cell s step (find e.text os));
      }))
