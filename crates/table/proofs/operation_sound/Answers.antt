-- `table::operation_sound` meets its contract: each of the row's parts is judged where it stands. Assumes nothing.
use mathlib.Core.Path.{◌≡◌, sym, ◌∙◌}
use mathlib.Core.Bool.{true, false, ◌&&◌, and_assoc, and-true, and-false}
use native.Mathlib.Omega.{arith}
use lib.ListN.{get_or}
use lib.Dec.{ltb}
use borrow.Author.Tests.{lt-ltb, le-ltb}
use Rattle.chars.proofs.Cases.{both}
use Rattle.table.proofs.Rows.{row_of_bytes}
use Rattle.table.specs.Table.{field_sound}
use Rattle.table.proofs.operation_sound.Goals as goal
use Rattle.table.proofs.operation_sound.Goals.{then-entries_sound, else-entries_sound}

pub returns-then-n-eq0 : goal.returns-then-n-eq0
returns-then-n-eq0 c =
    let row = c.args.row.now in
    sym (row_of_bytes row (λ k. omega (arith, c.type_inv.row k)) ∙ rw (le-ltb 0 (get_or row 0 0) (omega arith)))

pub returns-then-entries_sound-2 : goal.returns-then-entries_sound-2
returns-then-entries_sound-2 c =
    let row = c.args.row.now in
    let fields : c.if-entries_sound.value ≡ field_sound 256 8 32 row && field_sound 265 8 16 row =
    elim c.if-entries_sound.branch [
      | then-entries_sound w ↦
          let takes : field_sound 256 8 32 row ≡ true = sym c.entries_sound.ensures ∙ w.if-entries_sound.true in
          rw takes (w.value-is ∙ w.entries_sound-then-entries_sound.ensures)
      | else-entries_sound w ↦
          let takes : field_sound 256 8 32 row ≡ false = sym c.entries_sound.ensures ∙ w.if-entries_sound.false in
          rw takes (w.value-is ∙ w.if-entries_sound.false)
    ] in
    let good : field_sound 256 8 32 row && field_sound 265 8 16 row ≡ true = sym fields ∙ c.if-entries_sound-2.true in
    let both_good = both (field_sound 256 8 32 row) (field_sound 265 8 16 row) good in
    let some : ltb 0 (get_or row 0 0) ≡ true = lt-ltb 0 (get_or row 0 0) (omega arith) in
    rw c.from-n.ensures at c.zeros.ensures
    ∙ sym (row_of_bytes row (λ k. omega (arith, c.type_inv.row k)) ∙ rw (some, both_good.0, both_good.1) (and-true _ ∙ and-true _))

pub returns-else-entries_sound-2 : goal.returns-else-entries_sound-2
returns-else-entries_sound-2 c =
    let row = c.args.row.now in
    let fields : c.if-entries_sound.value ≡ field_sound 256 8 32 row && field_sound 265 8 16 row =
    elim c.if-entries_sound.branch [
      | then-entries_sound w ↦
          let takes : field_sound 256 8 32 row ≡ true = sym c.entries_sound.ensures ∙ w.if-entries_sound.true in
          rw takes (w.value-is ∙ w.entries_sound-then-entries_sound.ensures)
      | else-entries_sound w ↦
          let takes : field_sound 256 8 32 row ≡ false = sym c.entries_sound.ensures ∙ w.if-entries_sound.false in
          rw takes (w.value-is ∙ w.if-entries_sound.false)
    ] in
    let bad : field_sound 256 8 32 row && field_sound 265 8 16 row ≡ false = sym fields ∙ c.if-entries_sound-2.false in
    c.if-entries_sound-2.false
    ∙ sym
    (row_of_bytes row (λ k. omega (arith, c.type_inv.row k))
    ∙ (and_assoc _ (field_sound 256 8 32 row) (field_sound 265 8 16 row) ∙ rw bad (and-false _)))
