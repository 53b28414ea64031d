-- The stages of a check: the table, reading, and the check of what was read. Each is the definition where the stage before it is done.
use mathlib.Core.Path.{◌≡◌, refl, sym, ◌∙◌, ap}
use mathlib.Core.Bool.{true, false}
use mathlib.Core.List.{List}
use mathlib.Core.Option.{none, some}
use Prim.Native.Nat.{ℕ}
use lib.Dec.{eqb}
use Rattle.std.specs.Prelude.{if◌then◌else◌}
use Rattle.chars.specs.Limits.{Limits, limits}
use Rattle.chars.proofs.Cases.{either}
use Rattle.reading.specs.Reading.{read_with, room_of, answered, Reading, reading}
use Rattle.reading.specs.declared.Answer.{Answer}
use Rattle.reading.proofs.Closed.{closed}
use Rattle.table.specs.Table.{Operation, operations}
use Rattle.table.specs.Entered.{sound, operations_of}
use Rattle.table.proofs.Sound.{operations_sound, operations_unsound}
use Rattle.rules.specs.Kinds.{check as check_of}
use Rattle.cells.specs.Kept.{Held, check_kept}
use Rattle.cells.proofs.Keeping.{kept, held}
use Rattle.checking.specs.Checking.{told, checked, unsound, completed, checked_with, checking}

module _ (L : Limits) (draft list text table : List ℕ) where
  pub at_table : operations L table ≡ none → checking L draft list text table ≡ unsound list text
  unfolding checking checked_with
  at_table h = rw (h, checked_with)

  module _ (os : List Operation) (h : operations L table ≡ some os) where
    pub at_reading :
        eqb (read_with L (room_of list text) draft).number 0 ≡ false → checking L draft list text table ≡ reading L draft list text
    unfolding checking checked_with completed reading
    at_reading e = rw (h, checked_with, e, completed)

    pub at_check :
        eqb (read_with L (room_of list text) draft).number 0 ≡ true
        → checking L draft list text table
        ≡ checked (check_of L os (read_with L (room_of list text) draft).entities) (reading L draft list text)
    unfolding checking checked_with completed reading
    at_check e = rw (h, checked_with, e, completed)

-- what was read stands in the buffers that reading leaves, and its check is the check of the entities
module _ (draft list text : List ℕ) where
  abbrev r : Reading
  r = reading limits draft list text

  pub held_reading : (read_with limits (room_of list text) draft).number ≡ 0 → Held r.list r.text r.answer.entities
  unfolding reading answered
  held_reading z = held (read_with limits (room_of list text) draft).entities _ _ (closed limits (room_of list text) draft z)

  pub kept_reading :
      (os : List Operation)
      → check_kept limits os r.list r.text r.answer.entities
      ≡ check_of limits os (read_with limits (room_of list text) draft).entities
  unfolding reading answered check_kept
  kept_reading os = ap (check_of limits os) (kept (read_with limits (room_of list text) draft).entities _ _)

  pub number_read : r.answer.number ≡ (read_with limits (room_of list text) draft).number
  unfolding reading answered
  number_read = refl

-- The ways out of a check. `check` goes them, and so does the call for C, which reads by a call of its own.
abbrev Leaves : Reading → Answer → (list text : List ℕ) → Type 0
Leaves r a list text = (a ≡ r.answer) × ((list ≡ r.list) × (text ≡ r.text))

module _ (draft list text : List ℕ) {a : Answer} {list' text' : List ℕ} where
  pub without_table :
      (table : List ℕ) → sound limits table ≡ false → Leaves (unsound list text) a list' text'
      → Leaves (checking limits draft list text table) a list' text'
  without_table table bad left = rw (at_table limits draft list text table (operations_unsound limits table bad)) left

  module _ (left : Leaves (reading limits draft list text) a list' text') where
    abbrev number : a.number ≡ (read_with limits (room_of list text) draft).number
    number = ap (λ x. x.number) left.0 ∙ number_read draft list text

    pub held_behind : a.number ≡ 0 → Held list' text' a.entities
    held_behind z = rw (left.0, left.1.0, left.1.1) (held_reading draft list text (sym number ∙ z))

    pub behind_reading :
        (table : List ℕ) {r : Answer} → sound limits table ≡ true
        → r ≡ (if eqb a.number 0 then told a (check_kept limits (operations_of table) list' text' a.entities) else a)
        → Leaves (checking limits draft list text table) r list' text'
    unfolding checked
    behind_reading table good is =
        let os = operations_of table in
        let there = operations_sound limits table good in
        either (eqb a.number 0)
        (λ t. rw (at_check limits draft list text table os there (rw number at t))
        (is ∙ rw (t, left.0, left.1.0, left.1.1, kept_reading draft list text os), left.1))
        (λ t. rw (at_reading limits draft list text table os there (rw number at t)) (is ∙ rw (t, left.0), left.1))
