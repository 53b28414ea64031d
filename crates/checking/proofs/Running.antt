-- The table of runs holds, with 29 and 30 as rules and without: antt computes the definitions and finds what the table states. And the
-- theorem of demand 3 has an instance: a draft that passes.
use Prim.Native.Nat.{ℕ}
use mathlib.Core.Path.{◌≡◌, refl}
use mathlib.Core.Bool.{Bool, true, false}
use mathlib.Core.List.{List, [], map}
use mathlib.Core.Option.{none, some}
use lib.ListN.{length, replicate}
use Rattle.chars.specs.Limits.{limits}
use Rattle.chars.specs.Choice.{ascii}
use Rattle.chars.proofs.Computes.{computes as chars_compute}
use Rattle.tokens.proofs.Computes.{computes as tokens_compute}
use Rattle.entities.proofs.Computes.{computes as entities_compute}
use Rattle.reading.proofs.Computes.{computes as reading_computes}
use Rattle.reading.specs.Reading.{read_with}
use Rattle.table.specs.Table.{Operation, operations}
use Rattle.table.proofs.Computes.{computes as table_computes}
use Rattle.rules.specs.Kinds.{check}
use Rattle.rules.specs.Run.{run, states}
use Rattle.rules.proofs.Computes.{computes as rules_compute}
use Rattle.checking.specs.Checking.{checking}
use Rattle.checking.specs.Drafts.{table, ample}
use Rattle.checking.specs.Running.{Trial, standing, trials}
use Rattle.checking.proofs.Computes.{computes}
use Rattle.checking.proofs.Runs.{RunsWell, of_definition}

-- the lines of the table of the drafts marked (P)
unfoldable pub lines : List Operation
unfolding table_computes
lines = elim (operations limits table) [ none ↦ [] | some os ↦ os ]

-- what the definitions give for a trial's draft and literals
abbrev found : (bounded : Bool) → Trial → Trial
found bounded t =
    let es = (read_with limits ample (ascii t.draft)).entities in
    let given = standing t.literals in
    record {
      draft = t.draft;
      literals = t.literals;
      checks = check limits lines es;
      runs = run limits bounded given lines es;
      states = length (states limits bounded given lines es);
    }

pub trials_hold : (map (found false) trials ≡ trials) × (map (found true) trials ≡ trials)
unfolding chars_compute tokens_compute entities_compute reading_computes table_computes rules_compute computes lines
trials_hold = (refl, refl)

-- room for the 15 entities and ten bytes of text, each place filled
abbrev draft : List ℕ
draft = ascii "%w; [3, 11, 19] bind |;"

abbrev list : List ℕ
list = replicate 90 7

abbrev text : List ℕ
text = replicate 10 7

pub an_instance : let c = checking limits draft list text table in RunsWell draft list text table c.answer c.list c.text
unfolding chars_compute tokens_compute entities_compute reading_computes table_computes rules_compute computes
an_instance = of_definition draft list text table refl
