-- The check, computed with a reading in one walk over the draft (reading/proofs/Once.antt).
use mathlib.Core.Path.{◌≡◌}
use mathlib.Core.List.{List}
use mathlib.Core.Option.{none, some}
use Prim.Native.Nat.{ℕ}
use Rattle.chars.specs.Limits.{Limits}
use Rattle.entities.specs.Making.{Room}
use Rattle.reading.specs.Reading.{Reading, room_of}
use Rattle.reading.proofs.Once.{read_once, read_once_lem}
use Rattle.table.specs.Table.{operations}
use Rattle.rules.proofs.First.{by_option}
use Rattle.checking.specs.Checking.{unsound, completed, checked_with, checking}

unfoldable pub checked_once : Limits → Room → (draft list text table : List ℕ) → Reading
checked_once L room draft list text table =
    elim (operations L table) [
      | none ↦ unsound list text
      | some os ↦ completed L os list text (read_once L room draft)
    ]

-- the call, by it
unfoldable pub checking_once : Limits → (draft list text table : List ℕ) → Reading
checking_once L draft list text table = checked_once L (room_of list text) draft list text table

-- it is what the definition says
module _ (L : Limits) (draft list text table : List ℕ) where
  pub checked_once_lem : (room : Room) → checked_once L room draft list text table ≡ checked_with L room draft list text table
  unfolding checked_once checked_with
  checked_once_lem room =
      by_option (operations L table)
      (λ e. rw (e, checked_once, checked_with))
      (λ os e. rw (e, checked_once, checked_with, read_once_lem L room draft))

  pub checking_once_lem : checking_once L draft list text table ≡ checking L draft list text table
  unfolding checking_once checking
  checking_once_lem = checked_once_lem (room_of list text)

-- Naming `computes` on an `unfolding` line has all of this compute there.
unfoldable pub computes : Unit {0}
unfolding checked_once checking_once
computes = tt
