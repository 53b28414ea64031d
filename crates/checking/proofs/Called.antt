-- What is shown of the check, said of the call: of every answer and all buffers that meet the contract of `check` as the source has it. The
-- contract equates them with the definition, which goes stage by stage; a stage's refusals have numbers of their own (20, 1 to 19, 21 to
-- 30), so the number tells which stage answered.
use Prim.Native.Nat.{ℕ, ◌<◌, ◌≤◌}
use mathlib.Core.Path.{◌≡◌, refl, sym, ◌∙◌}
use mathlib.Core.List.{List}
use mathlib.Core.Logic.{◌⊎◌, ⊎_elim}
use native.Mathlib.Omega.{arith}
use lib.Dec.{eqb}
use contract.Lifetimes.{Lfts}
use borrow.Author.Tests.{eqb-true, eqb-false, eq-eqb}
use borrow.Fn.World.{ArgsD, ResD}
use borrow.Fn.Kinds.{ended_of}
use denote.Triple.Clauses.{AtExit}
use Rattle.chars.specs.Limits.{limits}
use Rattle.chars.proofs.Cases.{either}
use Rattle.entities.specs.Entity.{sizes, texts, rows}
use Rattle.reading.specs.Reading.{Read, Reading, reading, read_with, room_of, answered}
use Rattle.reading.specs.declared.Answer.{Answer}
use Rattle.reading.proofs.Numbers.{read_number, read_long}
use Rattle.table.specs.Table.{Operation, operations}
use Rattle.rules.specs.Kinds.{check as check_of}
use Rattle.sight.specs.Row.{place_in}
use Rattle.cells.proofs.Keeping.{place_kept}
use Rattle.rules.proofs.Ending.{check_number, check_passes, check_stops}
use Rattle.rules.proofs.First.{by_option}
use Rattle.checking.specs.Checking.{checked, unsound, checking}
use Rattle.checking.proofs.Stages.{at_table, at_reading, at_check}
use Rattle.checking.specs.contracts.check as check
use Rattle.checking.proofs.check.Kinds as kinds
use Rattle.checking.proofs.check.Reads as reads

-- an answer, and a list and a text buffer before and after, of a draft and a table; `r` is what reading with the same room gives
pub record Call (draft list text table : List ℕ) (r : Reading) (a : Answer) (list' text' : List ℕ) : Type 0 where
  -- after 20 and 1 nothing is written, and nothing is held
  pub untouched :
      (a.number ≡ 20) ⊎ (a.number ≡ 1) → (list' ≡ list) × (text' ≡ text) × (a.entities ≡ 0) × (a.text ≡ 0)
  -- but for 20 the buffers and the counts held are those of reading
  pub as_read :
      (a.number ≡ 20 → ⊥)
      → (list' ≡ r.list) × (text' ≡ r.text) × (a.entities ≡ r.answer.entities) × (a.text ≡ r.answer.text)
  -- 1 to 19 come from reading, and its answer stands
  pub by_reading : 0 < a.number → a.number ≤ 19 → a ≡ r.answer
  -- a refusal of 21 to 30 comes when reading is done, and stands at the place of the entity whose number is `steps`
  pub by_rule :
      21 ≤ a.number → (a.number ≤ 30) × (r.answer.number ≡ 0) × (a.steps < a.entities) × (a.place ≡ place_in list' a.steps)
  -- a check that passes tells as many steps as entities, and the byte after `;`
  pub passes :
      a.number ≡ 0 → (r.answer.number ≡ 0) × (a.steps ≡ a.entities) × (a.consumed ≡ r.answer.consumed) × (a.place ≡ 0)

abbrev Of : (draft list text table : List ℕ) → Reading → Type 0
Of draft list text table c = Call draft list text table (reading limits draft list text) c.answer c.list c.text

module _ (draft list text table : List ℕ) where
  abbrev here : Read
  here = read_with limits (room_of list text) draft

  of_table : Of draft list text table (unsound list text)
  unfolding unsound
  of_table =
      record {
        untouched = λ n. (refl, refl, refl, refl);
        as_read = λ n. absurd (n refl);
        by_reading = λ l h. absurd (omega arith);
        by_rule = λ h. absurd (omega arith);
        passes = λ z. absurd (omega arith);
      }

  of_reading : (here.number ≡ 0 → ⊥) → Of draft list text table (reading limits draft list text)
  unfolding reading answered rows texts sizes
  of_reading n =
      let most = read_number limits (room_of list text) draft in
      record {
        untouched = ⊎_elim
            (λ e. absurd (omega arith))
            (λ e. let none_read = read_long limits (room_of list text) draft e in rw none_read (refl, refl, refl, refl));
        as_read = λ d. (refl, refl, refl, refl);
        by_reading = λ l h. refl;
        by_rule = λ h. absurd (omega arith);
        passes = λ z. absurd (n z);
      }

  of_check :
      (os : List Operation) → here.number ≡ 0
      → Of draft list text table (checked (check_of limits os here.entities) (reading limits draft list text))
  unfolding checked reading answered
  of_check os z =
      let es = here.entities in
      let e = check_of limits os es in
      record {
        untouched = λ n. ⊎_elim
            (λ zero_number. absurd (⊎_elim (λ f. omega arith) (λ f. omega arith) n))
            (λ rule. absurd (⊎_elim (λ f. omega arith) (λ f. omega arith) n))
            (check_number limits os es);
        as_read = λ d. (refl, refl, refl, refl);
        by_reading = λ l h. absurd (⊎_elim (λ f. omega arith) (λ f. omega arith) (check_number limits os es));
        by_rule = λ h.
            let stop = check_stops limits os es (λ f. omega arith) in
            let most : e.number ≤ 30 = ⊎_elim (λ f. omega arith) (λ f. f.1) (check_number limits os es) in
            (most, z, stop.0, stop.1 ∙ sym (place_kept es _ e.steps stop.0));
        passes = λ f.
            let pass = check_passes limits os es f in
            (z, pass.1, rw (eq-eqb e.number 0 f) refl, pass.0);
      }

  of_definition : Of draft list text table (checking limits draft list text table)
  of_definition =
      by_option (operations limits table)
      (λ e. rw (at_table limits draft list text table e) of_table)
      (λ os e. either (eqb here.number 0)
      (λ t. rw (at_check limits draft list text table os e t) (of_check os (eqb-true here.number 0 t)))
      (λ t. rw (at_reading limits draft list text table os e t) (of_reading (eqb-false here.number 0 t))))

module _ (κs : Lfts 4) (given : ArgsD check.signature κs) (a : ResD check.signature κs) (x : AtExit (ended_of 4 kinds.ps kinds.r) κs) where
  pub call :
      reads.Post κs given a x
      → Call given.0.now given.1.0.now given.1.1.0.now given.1.1.1.0.now
      (reading limits given.0.now given.1.0.now given.1.1.0.now) a x.1.0.now x.1.1.0.now
  call p =
      rw (p.0, p.1.0, p.1.1) (of_definition given.0.now given.1.0.now given.1.1.0.now given.1.1.1.0.now)
