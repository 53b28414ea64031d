-- The check of a list of entities: the rules of cells over kinds alone (document 01, "Cells and operations" and "Order").
use Rattle.std.specs.Prelude.{ℕ, true, List}
use Rattle.chars.specs.Limits.{Limits}
use Rattle.entities.specs.Entity.{Entity}
use Rattle.table.specs.Table.{Operation}
use Rattle.rules.specs.Cells.{Amount, amount, none_by, Cell, Ended, through, empty}

-- the check keeps a kind for each cell; a count also serves as a number
pub data Checked : Type 0 where
  of : (kind : ℕ) → Checked
  count : ℕ → Checked

unfoldable pub kind_of : Checked → ℕ
kind_of (of kind) = kind
kind_of (count n) = 0

-- a count says how many cells an array has; a plain number does not (24)
unfoldable pub wanted_of : Checked → Amount
wanted_of (of kind) = none_by 24
wanted_of (count n) = amount n

-- A literal pushes its kind, an array a count, an operation the kinds it gives. In a name a count becomes a plain number.
unfoldable pub kinds : Cell Checked
kinds =
    record {
      kind = kind_of;
      literal = λ step kind. of kind;
      counted = count;
      kept = λ c. of (kind_of c);
      result = λ step place kind. of kind;
      wanted = wanted_of;
      bounded = true;
    }

-- the check of a list of entities with their text
unfoldable pub check : Limits → List Operation → List Entity → Ended
check L os es = through L kinds os 0 empty es
