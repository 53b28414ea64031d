-- What is held lies within the lent list, whatever the draft: the list keeps its length, and what is held stands at its front.
use Prim.Native.Nat.{ℕ, ◌*◌, ◌≤◌}
use mathlib.Core.Path.{◌≡◌, ap}
use mathlib.Core.List.{List}
use native.Mathlib.Omega.{arith}
use lib.ListN.{length, drop, length-append, length-drop}
use Rattle.chars.specs.Limits.{Limits}
use Rattle.entities.specs.Entity.{rows}
use Rattle.entities.proofs.Listing.{rows_length}
use Rattle.reading.specs.Reading.{reading, read_with, answered, room_of}

pub within_list :
    (L : Limits) (draft list text : List ℕ) (entities : ℕ) (after : List ℕ) → entities ≡ (reading L draft list text).answer.entities
    → after ≡ (reading L draft list text).list → length after ≡ length list → 6 * entities ≤ length after
unfolding reading answered
within_list L draft list text entities after told held same =
    let es = (read_with L (room_of list text) draft).entities in
    omega (
      arith,
      told,
      same,
      ap length held,
      length-append (rows 0 es) (drop (6 * length es) list),
      rows_length 0 es,
      length-drop (6 * length es) list,
    )
