-- Checking: the call that judges the table, reads, and then checks what was read (document 01, "Order").
use Rattle.std.specs.Prelude.{ℕ, true, false, List, eqb, if◌then◌else◌}
use Rattle.std.proofs.Math.Option.{none, some}
use Rattle.chars.specs.Limits.{Limits}
use Rattle.entities.specs.Making.{Room}
use Rattle.reading.specs.Reading.{Read, Reading, read_with, room_of, answered}
use Rattle.reading.specs.declared.Answer.{Answer}
use Rattle.table.specs.Table.{Operation, operations}
use Rattle.rules.specs.Cells.{Ended}
use Rattle.rules.specs.Kinds.{check}

-- the answer of a check, from that of reading and how the check ended
abbrev pub told : Answer → Ended → Answer
told a ended =
    record {
      number = ended.number;
      place = ended.place;
      entities = a.entities;
      text = a.text;
      consumed = if eqb ended.number 0 then a.consumed else 0;
      steps = ended.steps;
      cells = ended.cells;
    }

-- The answer once reading is done: a refusal of reading stands; else the check's own, and the buffers hold the whole reading.
unfoldable pub checked : Ended → Reading → Reading
checked ended r = record { answer = told r.answer ended; list = r.list; text = r.text }

-- refusal 20: nothing is written
unfoldable pub unsound : (list text : List ℕ) → Reading
unsound list text =
    record {
      answer = record { number = 20; place = 0; entities = 0; text = 0; consumed = 0; steps = 0; cells = 0 };
      list = list;
      text = text;
    }

-- a draft that was read, and the check if it was read to its end
unfoldable pub completed : Limits → List Operation → (list text : List ℕ) → Read → Reading
completed L os list text r =
    let reading = answered list text r in
    elim (eqb r.number 0) [ true ↦ checked (check L os r.entities) reading | false ↦ reading ]

-- 20, then reading with so much room, then the check
unfoldable pub checked_with : Limits → Room → (draft list text table : List ℕ) → Reading
checked_with L room draft list text table =
    elim (operations L table) [
      | none ↦ unsound list text
      | some os ↦ completed L os list text (read_with L room draft)
    ]

-- the call
unfoldable pub checking : Limits → (draft list text table : List ℕ) → Reading
checking L draft list text table = checked_with L (room_of list text) draft list text table
