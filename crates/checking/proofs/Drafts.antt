-- The table of the drafts marked (P) holds: antt computes the definitions on each draft and finds the answer that the table states.
use mathlib.Core.Path.{◌≡◌, refl}
use mathlib.Core.List.{[], map}
use Rattle.chars.specs.Limits.{limits}
use Rattle.chars.specs.Choice.{ascii}
use Rattle.chars.proofs.Computes.{computes as chars_compute}
use Rattle.tokens.proofs.Computes.{computes as tokens_compute}
use Rattle.entities.proofs.Computes.{computes as entities_compute}
use Rattle.reading.proofs.Computes.{computes as reading_computes}
use Rattle.reading.specs.Reading.{read_with}
use Rattle.checking.specs.Checking.{checked_with}
use Rattle.checking.specs.Drafts.{Case, cases, table, ample}
use Rattle.table.proofs.Computes.{computes as table_computes}
use Rattle.rules.proofs.Computes.{computes as rules_compute}
use Rattle.checking.proofs.Computes.{computes}

-- what the definitions give for a case's draft
abbrev found : Case → Case
found c =
    let draft = ascii c.draft in
    record {
      draft = c.draft;
      reads = read_with limits ample draft;
      checks = (checked_with limits ample draft [] [] table).answer;
    }

pub drafts_hold : map found cases ≡ cases
unfolding chars_compute tokens_compute entities_compute reading_computes table_computes rules_compute computes
drafts_hold = refl
