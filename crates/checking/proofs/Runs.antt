-- Demand 3, said of the call: if an answer and buffers meet the contract of `check` as the source has it and the number is 0, then every
-- run of what the buffers hold goes well. The contract equates them with the definition, which passes what its check passes.
use Prim.Native.Nat.{ℕ}
use mathlib.Core.Path.{◌≡◌, refl}
use mathlib.Core.Bool.{Bool, true}
use mathlib.Core.List.{List}
use mathlib.Core.Option.{some}
use native.Mathlib.Omega.{arith}
use lib.Dec.{eqb}
use lib.ListN.{length}
use contract.Lifetimes.{Lfts}
use borrow.Author.Tests.{eqb-true, eqb-false}
use borrow.Fn.World.{ArgsD, ResD}
use borrow.Fn.Kinds.{ended_of}
use denote.Triple.Clauses.{AtExit}
use Rattle.chars.specs.Limits.{limits}
use Rattle.chars.proofs.Cases.{either}
use Rattle.entities.specs.Entity.{Entity}
use Rattle.reading.specs.WellMade.{well_made}
use Rattle.reading.specs.Reading.{Read, reading, read_with, room_of, answered}
use Rattle.reading.specs.declared.Answer.{Answer}
use Rattle.reading.proofs.Closed.{closed}
use Rattle.table.specs.Table.{Operation, operations}
use Rattle.rules.specs.Kinds.{check as check_of}
use Rattle.rules.specs.Run.{Outside}
use Rattle.rules.specs.Well.{GoesWell}
use Rattle.rules.proofs.Ending.{check_passes}
use Rattle.rules.proofs.First.{by_option, table_apart}
use Rattle.rules.proofs.Running.{passes_well}
use Rattle.cells.specs.Kept.{entities_from}
use Rattle.cells.proofs.Keeping.{kept}
use Rattle.checking.specs.Checking.{checked, unsound, checking}
use Rattle.checking.proofs.Stages.{at_table, at_reading, at_check}
use Rattle.checking.specs.contracts.check as check
use Rattle.checking.proofs.check.Kinds as kinds
use Rattle.checking.proofs.check.Reads as reads

-- a draft that passed under a table, with the answer and what the buffers hold afterwards
pub record RunsWell (draft list text table : List ℕ) (a : Answer) (list' text' : List ℕ) : Type 0 where
  -- the table's lines
  pub lines : List Operation
  pub of_the_table : operations limits table ≡ some lines
  -- the entities that were read, and that the buffers hold: the last of them and no other is `|;`
  pub entities : List Entity
  pub as_read : (read_with limits (room_of list text) draft).entities ≡ entities
  pub as_held : entities_from list' text' 0 a.entities ≡ entities
  pub to_the_end : well_made limits entities ≡ true
  pub counted : length entities ≡ a.entities
  pub stepped : a.steps ≡ a.entities
  -- every run of them, whatever comes from outside
  pub runs : (bounded : Bool) (given : Outside) → GoesWell limits lines entities bounded given a.cells

module _ (draft list text table : List ℕ) where
  abbrev here : Read
  here = read_with limits (room_of list text) draft

  of_check :
      (os : List Operation) → operations limits table ≡ some os → here.number ≡ 0 → (check_of limits os here.entities).number ≡ 0
      → let c = checked (check_of limits os here.entities) (reading limits draft list text) in
      RunsWell draft list text table c.answer c.list c.text
  unfolding checked reading answered
  of_check os e r z =
      record {
        lines = os;
        of_the_table = e;
        entities = here.entities;
        as_read = refl;
        as_held = kept here.entities _ _;
        to_the_end = closed limits (room_of list text) draft r;
        counted = refl;
        stepped = (check_passes limits os here.entities z).1;
        runs = passes_well limits os here.entities (table_apart limits table os e) z;
      }

  pub of_definition :
      let c = checking limits draft list text table in
      c.answer.number ≡ 0 → RunsWell draft list text table c.answer c.list c.text
  unfolding unsound reading answered checked
  of_definition =
      by_option (operations limits table)
      (λ e. rw (at_table limits draft list text table e) (λ z. absurd (omega arith)))
      (λ os e. either (eqb here.number 0)
      (λ t. rw (at_check limits draft list text table os e t) (of_check os e (eqb-true here.number 0 t)))
      (λ t. rw (at_reading limits draft list text table os e t) (λ z. absurd (eqb-false here.number 0 t z))))

module _ (κs : Lfts 4) (given : ArgsD check.signature κs) (a : ResD check.signature κs) (x : AtExit (ended_of 4 kinds.ps kinds.r) κs) where
  pub runs_well :
      reads.Post κs given a x → a.number ≡ 0
      → RunsWell given.0.now given.1.0.now given.1.1.0.now given.1.1.1.0.now a x.1.0.now x.1.1.0.now
  runs_well p =
      rw (p.0, p.1.0, p.1.1) (of_definition given.0.now given.1.0.now given.1.1.0.now given.1.1.1.0.now)
