-- A kept list: the entities that stand in a list's numbers and a text buffer's bytes (docs/LAYOUT.md), and their check.
use Rattle.std.specs.Prelude.{ℕ, zero, suc, ◌+◌, ◌-◌, ◌*◌, ◌<◌, ◌≤◌, ◌≡◌, Bool, true, ◌&&◌, List, [], ◌∷◌, ltb, eqb, length, take, drop, Result, Ok, Err, if◌then◌else◌}
use Rattle.chars.specs.Limits.{Limits, limits}
use Rattle.chars.specs.Refusal.{number_of}
use Rattle.entities.specs.Entity.{Entity, kind_number}
use Rattle.entities.specs.Judging.{kind_of}
use Rattle.table.specs.Table.{Operation}
use Rattle.rules.specs.Cells.{Ended}
use Rattle.rules.specs.Kinds.{check}
use Rattle.sight.specs.Row.{kind_in, place_in, text_at_in, text_len_in, data_len_in, count_in, text_in}
use Rattle.cells.specs.declared.Passed.{Passed}
use Rattle.cells.specs.declared.Stopped.{Stopped}

-- the entity of a row, counted from 0; its data stands behind its text
unfoldable pub entity_at : (list text : List ℕ) → (entity : ℕ) → Entity
entity_at list text i =
    record {
      kind = kind_of (kind_in list i);
      place = place_in list i;
      text = text_in list text i;
      string = take (data_len_in list i) (drop (text_at_in list i + text_len_in list i) text);
      count = count_in list i;
    }

-- the `n` entities from a row on
unfoldable pub entities_from : (list text : List ℕ) → (entity n : ℕ) → List Entity
entities_from list text i zero = []
entities_from list text i (suc n) = entity_at list text i ∷ entities_from list text (suc i) n

-- the check of the first `n` entities of a kept list
unfoldable pub check_kept : Limits → List Operation → (list text : List ℕ) → (n : ℕ) → Ended
check_kept L os list text n = check L os (entities_from list text 0 n)

-- how a check ended, in the words of the definition
unfoldable pub ended_of : Result Passed Stopped → Ended
ended_of (Ok p) = record { number = 0; place = 0; steps = p.steps; cells = p.cells }
ended_of (Err s) = record { number = number_of s.refusal; place = s.place; steps = s.steps; cells = 0 }

-- with so many groups open, no group ends that is not open, and there are never over `most`
unfoldable pub grouped : (most depth : ℕ) → List Entity → Bool
grouped most d [] = true
grouped most d (e ∷ es) =
    let kind = kind_number e.kind in
    if eqb kind 6 then ltb d most && grouped most (suc d) es
    else if eqb kind 7 then ltb 0 d && grouped most (d - 1) es
    else grouped most d es

-- the rows stand in the list, their text in the text buffer, and groups are balanced
pub record Held (list text : List ℕ) (n : ℕ) : Type 0 where
  pub rows : n * 6 ≤ length list
  pub texts : (i : ℕ) → i < n → text_at_in list i + text_len_in list i ≤ length text
  pub groups : grouped limits.groups 0 (entities_from list text 0 n) ≡ true

-- what of that the check of one entity needs, with so many groups open
pub record Here (list text : List ℕ) (i depth : ℕ) : Type 0 where
  pub row : i * 6 + 6 ≤ length list
  pub inside : text_at_in list i + text_len_in list i ≤ length text
  pub begins : kind_in list i ≡ 6 → depth < 64
  pub ends : kind_in list i ≡ 7 → 0 < depth
