-- When a field is sound (specs/Table.antt, field_sound): it has no more entries than room, each below the bound, and zeros behind them.
use mathlib.Core.Path.{◌≡◌}
use mathlib.Core.Bool.{true, false, ◌&&◌, and-true, and-false}
use mathlib.Core.List.{List}
use Prim.Native.Nat.{ℕ, ◌+◌, ◌-◌, ◌<◌, ◌≤◌}
use lib.Dec.{leb}
use lib.ListN.{get_or, take, drop}
use borrow.Author.Tests.{leb-true, le-leb, lt-leb}
use Rattle.chars.proofs.Cases.{both}
use Rattle.table.specs.Table.{field, all_below, field_sound}

module _ (at room bound : ℕ) (row : List ℕ) where
  pub field_parts :
      field_sound at room bound row ≡ true
      → (get_or row at 0 ≤ room)
      × (all_below bound (field at row) ≡ true)
      × (all_below 1 (take (room - get_or row at 0) (drop (at + 1 + get_or row at 0) row)) ≡ true)
  unfolding field_sound
  field_parts t =
      let first = both _ _ t in
      let second = both _ _ first.0 in
      (leb-true (get_or row at 0) room second.0, second.1, first.1)

  pub field_many : room < get_or row at 0 → field_sound at room bound row ≡ false
  unfolding field_sound
  field_many h = rw (lt-leb (get_or row at 0) room h)

  pub field_dirty :
      all_below 1 (take (room - get_or row at 0) (drop (at + 1 + get_or row at 0) row)) ≡ false → field_sound at room bound row ≡ false
  unfolding field_sound
  field_dirty t = rw t (and-false (leb (get_or row at 0) room && all_below bound (field at row)))

  pub field_clean :
      get_or row at 0 ≤ room → all_below 1 (take (room - get_or row at 0) (drop (at + 1 + get_or row at 0) row)) ≡ true
      → field_sound at room bound row ≡ all_below bound (field at row)
  unfolding field_sound
  field_clean h t = rw (t, le-leb (get_or row at 0) room h) (and-true (all_below bound (field at row)))

  pub field_zeros :
      get_or row at 0 ≤ room → all_below bound (field at row) ≡ true
      → field_sound at room bound row ≡ all_below 1 (take (room - get_or row at 0) (drop (at + 1 + get_or row at 0) row))
  unfolding field_sound
  field_zeros h t = rw (t, le-leb (get_or row at 0) room h)
