-- One entity after another. The entities from a row on are that row's and those from the next row on, and as groups begin and end, as many
-- are hidden as are open.
use mathlib.Core.Path.{◌≡◌, refl, sym, ◌∙◌, ap}
use mathlib.Core.Bool.{true}
use mathlib.Core.List.{List, [], ◌∷◌}
use Prim.Native.Nat.{ℕ, zero, suc, ◌+◌, ◌-◌, ◌<◌, ◌≤◌}
use native.Mathlib.Omega.{arith}
use native.Mathlib.Numerals.{add-one}
use lib.Dec.{ltb, eqb}
use lib.ListN.{length}
use borrow.Author.Tests.{eqb-true, eqb-false, ltb-true}
use Rattle.chars.specs.Limits.{Limits, limits}
use Rattle.chars.proofs.Cases.{either, both}
use Rattle.entities.specs.Judging.{kind_of}
use Rattle.entities.specs.Entity.{Kind, Entity, kind_number}
use Rattle.entities.specs.Entity.{begin-metacommand, end-metacommand, metacommand-token, metacommand-quoted, metacommand-curly}
use Rattle.entities.specs.Entity.{begin_group, end-group, array, number, quoted-string, curly-string}
use Rattle.entities.specs.Entity.{define-variable, define-constant, get, put, operation, end}
use Rattle.table.specs.Table.{Operation}
use Rattle.rules.specs.Cells.{Cell, State, goes, cells_of, outer, act, through}
use Rattle.rules.proofs.ByKind.{if_goes, at_begin_group, at_end_group, begin_hides}
use Rattle.rules.proofs.Ending.{went_on}
use Rattle.rules.proofs.States.{end_hidden, hidden_kept}
use Rattle.cells.specs.Kept.{entity_at, entities_from, grouped, Held, Here}
use Rattle.sight.specs.Arrays.{hidden_of}

-- the kind of a kind's number is that kind
pub kind_of_number : (k : Kind) → kind_of (kind_number k) ≡ k
unfolding kind_of kind_number
kind_of_number begin-metacommand = refl
kind_of_number end-metacommand = refl
kind_of_number metacommand-token = refl
kind_of_number metacommand-quoted = refl
kind_of_number metacommand-curly = refl
kind_of_number begin_group = refl
kind_of_number end-group = refl
kind_of_number array = refl
kind_of_number number = refl
kind_of_number quoted-string = refl
kind_of_number curly-string = refl
kind_of_number define-variable = refl
kind_of_number define-constant = refl
kind_of_number get = refl
kind_of_number put = refl
kind_of_number operation = refl
kind_of_number end = refl

pub entities_on :
    (list text : List ℕ) (i n : ℕ) → i < n
    → entities_from list text i (n - i) ≡ entity_at list text i ∷ entities_from list text (i + 1) (n - (i + 1))
unfolding entities_from
entities_on list text i n h =
    let left : n - i ≡ suc (n - (i + 1)) = omega arith in
    rw (left, add-one)

-- what the check of one entity needs
pub here :
    (list text : List ℕ) (i n d : ℕ) → Held list text n → i < n → grouped limits.groups d (entities_from list text i (n - i)) ≡ true
    → Here list text i d
unfolding grouped entity_at kind_of kind_number
here list text i n d held h g =
    let g' = rw (entities_on list text i n h) at g in
    record {
      row = omega (arith, held.rows);
      inside = held.texts i h;
      begins = λ k. ltb-true d 64 (both (ltb d 64) _ (rw k at g')).0;
      ends = λ k. ltb-true 0 d (both (ltb 0 d) _ (rw k at g')).0;
    }

module _ (L : Limits) {C : Type 0} (cell : Cell C) (os : List Operation) where
  -- a step is counted by adding one
  pub counted_on :
      (steps : ℕ) (s t : State C) (e : Entity) (es : List Entity) → act L cell os steps s e ≡ goes t
      → through L cell os steps s (e ∷ es) ≡ through L cell os (steps + 1) t es
  counted_on steps s t e es h = rw add-one (went_on L cell os steps s t e es h)

  pub ended :
      (list text : List ℕ) (i n : ℕ) (s : State C) → i ≤ n → n ≤ i
      → through L cell os i s (entities_from list text i (n - i)) ≡ record { number = 0; place = 0; steps = n; cells = cells_of s }
  unfolding through entities_from
  ended list text i n s g h =
      let none_left : n - i ≡ 0 = omega arith in
      let all : i ≡ n = omega arith in
      rw (none_left, all)

-- the groups of what is behind an entity
module _ (L : Limits) {C : Type 0} (cell : Cell C) (os : List Operation) (most step : ℕ) (s : State C) where
  one_less : (hidden : List (List C)) → length (outer L cell hidden) ≡ length hidden - 1
  unfolding outer
  one_less [] = refl
  one_less (cells ∷ rest) = omega arith

  pub behind :
      (e : Entity) (t : State C) (es : List Entity) → act L cell os step s e ≡ goes t
      → grouped most (length s.hidden) (e ∷ es) ≡ true → grouped most (length t.hidden) es ≡ true
  unfolding grouped kind_number kind_of
  behind e t es h g =
      let kind = kind_number e.kind in
      let is : (n : ℕ) → kind ≡ n → e.kind ≡ kind_of n = λ n k. sym (kind_of_number e.kind) ∙ ap kind_of k in
      let depth = length s.hidden in
      either (eqb kind 6)
      (λ b.
      let begun = if_goes _ t (sym (at_begin_group L cell os step s e (is 6 (eqb-true kind 6 b))) ∙ h) (begin_hides L cell s) in
      rw begun.1 (both (ltb depth most) (grouped most (suc depth) es) (rw b at g)).1)
      (λ b. either (eqb kind 7)
      (λ f.
      let ended = if_goes _ t (sym (at_end_group L cell os step s e (is 7 (eqb-true kind 7 f))) ∙ h) (end_hidden L cell s s.sight) in
      rw (ended.0, one_less) (both (ltb 0 depth) (grouped most (depth - 1) es) (rw (b, f) at g)).1)
      (λ f.
      let kept = hidden_kept L cell s os step e t
      (λ k. eqb-false kind 6 b (ap kind_number k)) (λ k. eqb-false kind 7 f (ap kind_number k)) h in
      rw kept (rw (b, f) at g)))

-- as many groups are hidden as are open
pub so_deep : (cells bases : List ℕ) (base depth : ℕ) → length (hidden_of cells bases base depth) ≡ depth
unfolding hidden_of
so_deep cells bases base zero = refl
so_deep cells bases base (suc d) = ap suc (so_deep cells bases _ d)
