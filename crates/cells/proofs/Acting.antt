-- What an entity of a kept list does, by the number of its kind: the definition at each number.
use mathlib.Core.Path.{◌≡◌}
use mathlib.Core.Bool.{true, false}
use mathlib.Core.List.{List}
use Prim.Native.Nat.{ℕ}
use lib.Dec.{eqb}
use borrow.Author.Tests.{ne_eqb}
use Rattle.chars.specs.Limits.{Limits}
use Rattle.chars.proofs.Cases.{either}
use Rattle.entities.specs.Judging.{kind_of}
use Rattle.table.specs.Table.{Operation, find}
use Rattle.rules.specs.Cells.{State, goes, push, hide, show, define, fetch, assign, lookup, operate, act}
use Rattle.rules.specs.Kinds.{Checked, of, count, kinds}
use Rattle.sight.specs.Row.{kind_in, count_in, text_in}
use Rattle.cells.specs.Kept.{entity_at}

module _ (L : Limits) (os : List Operation) (step : ℕ) (s : State Checked) (list text : List ℕ) (i : ℕ) where
  pub at_begin : kind_in list i ≡ 6 → act L kinds os step s (entity_at list text i) ≡ hide L kinds s
  unfolding act entity_at kind_of
  at_begin h = rw h

  pub at_end : kind_in list i ≡ 7 → act L kinds os step s (entity_at list text i) ≡ show L kinds s s.sight
  unfolding act entity_at kind_of
  at_end h = rw h

  pub at_array : kind_in list i ≡ 8 → act L kinds os step s (entity_at list text i) ≡ push L kinds s (count (count_in list i))
  unfolding act entity_at kind_of kinds
  at_array h = rw h

  pub at_number : kind_in list i ≡ 9 → act L kinds os step s (entity_at list text i) ≡ push L kinds s (of 0)
  unfolding act entity_at kind_of kinds
  at_number h = rw h

  pub at_quoted : kind_in list i ≡ 10 → act L kinds os step s (entity_at list text i) ≡ push L kinds s (of 1)
  unfolding act entity_at kind_of kinds
  at_quoted h = rw h

  pub at_curly : kind_in list i ≡ 11 → act L kinds os step s (entity_at list text i) ≡ push L kinds s (of 1)
  unfolding act entity_at kind_of kinds
  at_curly h = rw h

  pub at_variable :
      kind_in list i ≡ 12 → act L kinds os step s (entity_at list text i) ≡ define L kinds s false (text_in list text i) s.sight
  unfolding act entity_at kind_of
  at_variable h = rw h

  pub at_constant :
      kind_in list i ≡ 13 → act L kinds os step s (entity_at list text i) ≡ define L kinds s true (text_in list text i) s.sight
  unfolding act entity_at kind_of
  at_constant h = rw h

  pub at_get :
      kind_in list i ≡ 14
      → act L kinds os step s (entity_at list text i) ≡ fetch L kinds s (lookup (text_in list text i) s.names)
  unfolding act entity_at kind_of
  at_get h = rw h

  pub at_put :
      kind_in list i ≡ 15 → act L kinds os step s (entity_at list text i) ≡ assign L kinds s (text_in list text i) s.sight
  unfolding act entity_at kind_of
  at_put h = rw h

  pub at_operation :
      kind_in list i ≡ 16 → act L kinds os step s (entity_at list text i) ≡ operate L kinds step s (find (text_in list text i) os)
  unfolding act entity_at kind_of
  at_operation h = rw h

  -- metacommands and `|;` do nothing
  pub at_other :
      (kind_in list i ≡ 6 → ⊥) → (kind_in list i ≡ 7 → ⊥) → (kind_in list i ≡ 8 → ⊥) → (kind_in list i ≡ 9 → ⊥)
      → (kind_in list i ≡ 10 → ⊥) → (kind_in list i ≡ 11 → ⊥) → (kind_in list i ≡ 12 → ⊥) → (kind_in list i ≡ 13 → ⊥)
      → (kind_in list i ≡ 14 → ⊥) → (kind_in list i ≡ 15 → ⊥) → (kind_in list i ≡ 16 → ⊥)
      → act L kinds os step s (entity_at list text i) ≡ goes s
  unfolding act entity_at kind_of
  at_other a6 a7 a8 a9 a10 a11 a12 a13 a14 a15 a16 =
      let k = kind_in list i in
      either (eqb k 1) (λ t. rw t) (λ t1.
      either (eqb k 2) (λ t. rw (t1, t)) (λ t2.
      either (eqb k 3) (λ t. rw (t1, t2, t)) (λ t3.
      either (eqb k 4) (λ t. rw (t1, t2, t3, t)) (λ t4.
      either (eqb k 5) (λ t. rw (t1, t2, t3, t4, t)) (λ t5.
      rw (
        t1,
        t2,
        t3,
        t4,
        t5,
        ne_eqb k 6 a6,
        ne_eqb k 7 a7,
        ne_eqb k 8 a8,
        ne_eqb k 9 a9,
        ne_eqb k 10 a10,
        ne_eqb k 11 a11,
        ne_eqb k 12 a12,
        ne_eqb k 13 a13,
        ne_eqb k 14 a14,
        ne_eqb k 15 a15,
        ne_eqb k 16 a16,
      ))))))
