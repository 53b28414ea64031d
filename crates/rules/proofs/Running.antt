-- What passes the check can only run well. A run follows the check from state to state, so it comes to the end; its states have as many
-- cells and names as the check's, which keeps the limits; and at each step the entity went on, so it is well.
use mathlib.Core.Path.{◌≡◌, refl, sym, ◌∙◌}
use mathlib.Core.Bool.{Bool, true}
use mathlib.Core.List.{List, [], ◌∷◌, ◌++◌}
use Prim.Native.Nat.{ℕ, suc}
use native.Mathlib.Omega.{arith}
use lib.ListN.{length}
use Rattle.chars.specs.Limits.{Limits}
use Rattle.chars.specs.Choice.{within}
use Rattle.entities.specs.Entity.{Entity, end-group}
use Rattle.table.specs.Table.{Operation}
use Rattle.rules.specs.Cells.{Cell, State, Did, goes, Ended, cells_of, total, innermost, outer, act, through, empty}
use Rattle.rules.specs.Kinds.{Checked, of, count, kind_of, wanted_of, kinds, check}
use Rattle.rules.specs.Run.{plus, Value, Outside, wanted_by, values, run, states_from, states}
use Rattle.rules.specs.Well.{Apart, Limited, Hiding, EveryStep, GoesWell}
use Rattle.rules.proofs.ByKind.{if_goes, at_begin_group, at_end_group, begin_hides}
use Rattle.rules.proofs.Ending.{Counting, ruled_did, act_ruled, kinds_count, rule_within, stopped_at, went_on, check_passes}
use Rattle.rules.proofs.States.{hidden_kept, end_hidden, names_apart}
use Rattle.rules.proofs.Within.{still_limited}
use Rattle.rules.proofs.Steps.{well}
use Rattle.rules.proofs.Following.{none_left, Wants, no_count, same_count, Standing, Like, Follows, on, stopped, same_cells}
use Rattle.rules.proofs.Following.{same_names, follow}

-- a cell of the check stands for every value of its kind, and a count only for the value that it is
unfoldable stands_for : Checked → Value → Type 0
stands_for (of kind) v = v.kind ≡ kind
stands_for (count n) v = (v.kind ≡ 0) × (v.is ≡ plus n)

stands_kind : (c : Checked) (v : Value) → stands_for c v → kind_of c ≡ v.kind
unfolding stands_for kind_of
stands_kind (of kind) v e = sym e
stands_kind (count n) v e = sym e.0

stands_wants : (c : Checked) (v : Value) → stands_for c v → Wants (wanted_of c) (wanted_by v.is)
unfolding stands_for wanted_of wanted_by
stands_wants (of kind) v e = no_count
stands_wants (count n) v e = rw e.1 same_count

-- the cells of the check, whatever a name keeps of one
abbrev pub keeping : (Checked → Checked) → Cell Checked
keeping f =
    record {
      kind = kind_of;
      literal = λ step kind. of kind;
      counted = count;
      kept = f;
      result = λ step place kind. of kind;
      wanted = wanted_of;
      bounded = true;
    }

stand :
    (f : Checked → Checked) → ((c : Checked) (v : Value) → stands_for c v → stands_for (f c) v) → (bounded : Bool) (given : Outside)
    → Standing (keeping f) (values bounded given)
unfolding values stands_for
stand f keeps bounded given =
    record {
      Stands = stands_for;
      kinds = λ {c} {v} e. stands_kind c v e;
      literals = λ step kind. refl;
      counts = λ n. (refl, refl);
      keeps = λ {c} {v} e. keeps c v e;
      results = λ step place kind. refl;
      wants = λ {c} {v} e. stands_wants c v e;
      limited = refl;
    }

-- in a name a count becomes a plain number
kinds_stand : (bounded : Bool) (given : Outside) → Standing kinds (values bounded given)
unfolding kinds stands_for
kinds_stand = stand (λ c. of (kind_of c)) (λ c v e. sym (stands_kind c v e))

first_state :
    (L : Limits) {C : Type 0} (cell : Cell C) (os : List Operation) (steps : ℕ) (t : State C) (es : List Entity)
    → (rest : List (State C)) × (states_from L cell os steps t es ≡ t ∷ rest)
unfolding states_from
first_state L cell os steps t [] = (_, refl)
first_state L cell os steps t (e ∷ es) = (_, refl)

module _ (L : Limits) (os : List Operation) (lines : Apart (λ o. o.name) os) (bounded : Bool) (given : Outside) where
  abbrev runs : Cell Value
  runs = values bounded given

  shown :
      (steps : ℕ) (t : State Value) (e : Entity) (u : State Value) → act L runs os steps t e ≡ goes u → e.kind ≡ end-group
      → (cells : List Value) (rest : List (List Value)) → t.hidden ≡ cells ∷ rest → (u.sight ≡ t.sight ++ cells) × (u.hidden ≡ rest)
  unfolding innermost outer
  shown steps t e u h k cells rest hid =
      let ended = if_goes _ u (sym (at_end_group L runs os steps t e k) ∙ h) (end_hidden L runs t t.sight) in
      (ended.1 ∙ rw (hid, innermost) refl, ended.0 ∙ rw (hid, outer) refl)

  hiding : (steps : ℕ) (t : State Value) (e : Entity) (u : State Value) → act L runs os steps t e ≡ goes u → Hiding t e u
  hiding steps t e u h =
      record {
        begins = λ k. if_goes _ u (sym (at_begin_group L runs os steps t e k) ∙ h) (begin_hides L runs t);
        ends = λ k cells rest hid. shown steps t e u h k cells rest hid;
        between = λ b f. hidden_kept L runs t os steps e u b f h;
      }

  -- for any cells of a check that stand for values, with 29 and 30 as its rules
  module _ {C : Type 0} (checks : Cell C) (R : Standing checks (values bounded given))
      (counts : (c : C) → Counting (checks.wanted c)) where
    limited : {s : State C} {t : State Value} → Like L checks runs R s t → Limited L s → Limited L t
    limited k w =
        record {
          few_cells = rw (sym (same_cells L checks runs R k)) w.few_cells;
          few_names = rw (sym (same_names L checks runs R k)) w.few_names;
        }

    -- from here it comes to the same end, and every step is well
    abbrev Onward : (steps : ℕ) → State C → State Value → List Entity → Type 0
    Onward steps s t es =
        (through L runs os steps t es ≡ through L checks os steps s es) × EveryStep L os (states_from L runs os steps t es) es

    step_on :
        (steps : ℕ) (s : State C) (t : State Value) (e : Entity) (es : List Entity) (s' : State C) (t' : State Value)
        → Like L checks runs R s t → Limited L s → Apart (λ n. n.name) t.names
        → act L checks os steps s e ≡ goes s' → act L runs os steps t e ≡ goes t' → Onward (suc steps) s' t' es → Onward steps s t (e ∷ es)
    unfolding states_from EveryStep
    step_on steps s t e es s' t' k w a h h' next-on =
        let rest = first_state L runs os (suc steps) t' es in
        let behind : EveryStep L os (t' ∷ rest.0) es = rw rest.1 at next-on.1 in (
          went_on L runs os steps t t' e es h' ∙ (next-on.0 ∙ sym (went_on L checks os steps s s' e es h)),
          rw (h', states_from, rest.1)
              (limited k w, a, well L bounded given os lines steps t e t' h', hiding steps t e t' h', behind),
        )

    by_step :
        (steps : ℕ) (s : State C) (t : State Value) (e : Entity) (es : List Entity) → Like L checks runs R s t → Limited L s
        → Apart (λ n. n.name) t.names → (through L checks os steps s (e ∷ es)).number ≡ 0 → (d : Did C) (d' : Did Value)
        → act L checks os steps s e ≡ d → act L runs os steps t e ≡ d' → Follows L checks runs R d d'
        → ((s' : State C) (t' : State Value) → Like L checks runs R s' t' → Limited L s' → Apart (λ n. n.name) t'.names
        → (through L checks os (suc steps) s' es).number ≡ 0 → Onward (suc steps) s' t' es)
        → Onward steps s t (e ∷ es)
    unfolding ruled_did
    by_step steps s t e es k w a z d d' h h' (on {s = s'} {t = t'} k') f =
        step_on steps s t e es s' t' k w a h h'
        (f s' t' k' (still_limited L checks R.limited s w os steps e s' h) (names_apart L runs t a os steps e t' h')
        (rw (went_on L checks os steps s s' e es h) at z))
    by_step steps s t e es k w a z d d' h h' (stopped {rule}) f =
        let ruled : within 21 30 rule ≡ true = rw h at (act_ruled L checks counts os steps s e) in
        let number : rule ≡ 0 = rw (stopped_at L checks os steps rule s e es h) at z in
        absurd (omega (arith, rule_within rule ruled))

    pub onward :
        (steps : ℕ) (s : State C) (t : State Value) (es : List Entity) → Like L checks runs R s t → Limited L s
        → Apart (λ n. n.name) t.names → (through L checks os steps s es).number ≡ 0 → Onward steps s t es
    unfolding through states_from EveryStep
    onward steps s t [] k w a z = (rw (same_cells L checks runs R k), (limited k w, a))
    onward steps s t (e ∷ es) k w a z =
        by_step steps s t e es k w a z (act L checks os steps s e) (act L runs os steps t e) refl refl
        (follow L checks runs R s t k os steps e) (λ s' t'. onward (suc steps) s' t' es)

    -- from the empty state
    pub from_empty : (es : List Entity) → (through L checks os 0 empty es).number ≡ 0 → Onward 0 empty empty es
    unfolding empty cells_of total Apart
    from_empty es z =
        onward 0 empty empty es
        (record { sight = none_left; hidden = none_left; names = none_left })
        (record { few_cells = omega arith; few_names = omega arith })
        tt z

told : (x : Ended) (n : ℕ) → x.number ≡ 0 → x.place ≡ 0 → x.steps ≡ n → x ≡ record { number = 0; place = 0; steps = n; cells = x.cells }
told x n z p s = by_fields x.number x.place x.steps z p s
  where
    by_fields :
        (number place steps : ℕ) → number ≡ 0 → place ≡ 0 → steps ≡ n
        → ◌≡◌ {A = Ended} (record { number = number; place = place; steps = steps; cells = x.cells })
        (record { number = 0; place = 0; steps = n; cells = x.cells })
    by_fields number place steps z p s = rw (z, p, s) refl

-- Whatever passes the check goes well in every run, with 29 and 30 as its rules and without.
pub passes_well :
    (L : Limits) (os : List Operation) (es : List Entity) → Apart (λ o. o.name) os → (check L os es).number ≡ 0
    → (bounded : Bool) (given : Outside) → GoesWell L os es bounded given (check L os es).cells
unfolding check run states kinds
passes_well L os es lines z bounded given =
    let all = from_empty L os lines bounded given kinds (kinds_stand bounded given) kinds_count es z in
    let pass = check_passes L os es z in
    record { ends = all.0 ∙ told (check L os es) (length es) z pass.0 pass.1; at_every_step = all.1 }

-- A check whose names keep a count as a count. Document 01 has a count become a plain number there, and demand 3 does not rest on it: a put
-- changes what the name keeps in the check as it does in the run, so a count that is kept still stands for the value that is it.
pub counts_kept_well :
    (L : Limits) (os : List Operation) (es : List Entity) → Apart (λ o. o.name) os → (through L (keeping (λ c. c)) os 0 empty es).number ≡ 0
    → (bounded : Bool) (given : Outside) → EveryStep L os (states L bounded given os es) es
unfolding states
counts_kept_well L os es lines z bounded given =
    (from_empty L os lines bounded given (keeping (λ c. c)) (stand (λ c. c) (λ c v e. e) bounded given) kinds_count es z).1
