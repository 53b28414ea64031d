-- What an operation of a sound table does, in the words of its row.
use mathlib.Core.Path.{◌≡◌}
use mathlib.Core.Bool.{true}
use mathlib.Core.List.{List, map}
use Prim.Native.Nat.{ℕ, suc, ◌<◌, ◌≤◌}
use native.Mathlib.Omega.{arith}
use lib.ListN.{length, get_or, drop, length-drop, length-take}
use lib.Seq.{length-take-le}
use Rattle.chars.specs.Limits.{limits}
use Rattle.chars.specs.declared.refusal.Refusal.{Refusal}
use Rattle.std.specs.Prelude.{Result, Ok, Err}
use Rattle.table.specs.Table.{item, field, operation_of}
use Rattle.table.specs.Entered.{sound, row_count, row_place, row_from, operation_at}
use Rattle.table.proofs.Sound.{sound_row}
use Rattle.table.proofs.Below.{each_below}
use Rattle.rules.specs.Cells.{leaves, take_items, given, operate}
use Rattle.rules.specs.Kinds.{kinds}
use Rattle.sight.specs.Arrays.{sight_of, state_of}
use Rattle.sight.specs.Stacks.{meant, ready, Agrees}
use Rattle.sight.specs.declared.Counts.{Counts}
use Rattle.sight.specs.declared.Stack.{Stack}
use Rattle.operations.specs.Taken.{left_of}

-- a row that is there, with at most eight items and at most eight kinds, which are below 16
pub record Row (row : List ℕ) : Type 0 where
  pub whole : length row ≡ 274
  pub few_items : get_or row 256 0 ≤ 8
  pub few_kinds : get_or row 265 0 ≤ 8
  pub short : length (field 265 row) ≤ 8
  pub low : (k : ℕ) → k < length (field 265 row) → get_or (field 265 row) k 0 < 16

module _ (table : List ℕ) (entry : ℕ) where
  pub row_known : sound limits table ≡ true → entry < row_count table → Row (row_from table (row_place table entry))
  unfolding field
  row_known passed known =
      let p = row_place table entry in
      let row = row_from table p in
      let all = sound_row limits table passed entry known in
      record {
        whole = length-take-le 274 (drop p table) (omega (arith, all.0, length-drop p table));
        few_items = all.1;
        few_kinds = all.2;
        short = omega (arith, all.2, length-take (get_or row 265 0) (drop 266 row));
        low = each_below 16 (field 265 row) all.3;
      }

  -- once its items are taken from the cells in sight
  module _
      (text cells bases index whats : List ℕ) (s : Counts) (step : ℕ) (r : Result ℕ Refusal)
      (taken :
      left_of cells s.base r
      ≡ take_items limits kinds (map item (field 256 (row_from table (row_place table entry)))) (sight_of cells s.base s.seen)) where
    in_row :
        operate limits kinds step (state_of text cells bases index whats s) (operation_at table (suc entry))
        ≡ given limits kinds step (state_of text cells bases index whats s) (field 265 (row_from table (row_place table entry)))
        (left_of cells s.base r)
    unfolding operate operation_at operation_of state_of
    in_row = rw taken

    pub refused :
        (k : Stack) (rule : Refusal) → r ≡ Err rule
        → Agrees (operate limits kinds step (state_of text cells bases index whats s) (operation_at table (suc entry))) text k (Err rule)
    unfolding given left_of meant ready
    refused k rule e = record { same = rw (in_row, e); on = tt }

    pub left :
        (n : ℕ) → r ≡ Ok n
        → operate limits kinds step (state_of text cells bases index whats s) (operation_at table (suc entry))
        ≡ given limits kinds step (state_of text cells bases index whats s) (field 265 (row_from table (row_place table entry)))
        (leaves (sight_of cells s.base n))
    unfolding left_of
    left n e = rw (in_row, e)
