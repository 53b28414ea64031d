-- `table::entries_sound` meets its contract: the number of the eight bytes has no more than n bytes if and only if those behind the first n
-- are zeros. Assumes nothing.
use mathlib.Core.Path.{◌≡◌, sym, ◌∙◌}
use mathlib.Core.Bool.{true}
use Prim.Native.Nat.{◌+◌, ◌-◌}
use native.Mathlib.Omega.{arith}
use lib.ListN.{get_or, take, drop}
use borrow.Author.Tests.{eq-eqb, ne_eqb}
use Rattle.table.specs.Table.{all_below, field}
use Rattle.table.proofs.Fields.{field_many, field_dirty, field_clean}
use Rattle.table.proofs.Eight.{behind_zeros, no_more_bytes}
use Rattle.table.proofs.entries_sound.Goals as goal
use Rattle.table.proofs.entries_sound.Goals.{else-n-lt8-via-then-n-lt8+else-eight-n-ne0, else-n-lt8-via-else-n-lt8}

pub returns-then-n-gt8 : goal.returns-then-n-gt8
returns-then-n-gt8 c =
    let a = c.args in
    sym (field_many a.at 8 a.bound a.row.now (omega arith))

pub returns-then-eight-n-ne0 : goal.returns-then-eight-n-ne0
returns-then-eight-n-ne0 c =
    let a = c.args in
    let n = get_or a.row.now a.at 0 in
    let r = c.eight in
    let high = behind_zeros a.row.now (a.at + 1) r.result r.ensures (omega arith) n (omega arith) in
    let more = ne_eqb _ 0 (λ z. c.if-eight-n-ne0.true (rw c.from-n.ensures z)) in
    sym (field_dirty a.at 8 a.bound a.row.now (high ∙ (no_more_bytes r.result n ∙ more)))

pub returns : goal.returns
unfolding all_below field
returns c =
    let a = c.args in
    let n = get_or a.row.now a.at 0 in
    let clean : all_below 1 (take (8 - n) (drop (a.at + 1 + n) a.row.now)) ≡ true =
    elim c.else-n-lt8.branch [
      | else-n-lt8-via-then-n-lt8+else-eight-n-ne0 w ↦
          let r = w.eight in
          behind_zeros a.row.now (a.at + 1) r.result r.ensures (omega arith) n (omega arith)
          ∙ (no_more_bytes r.result n ∙ eq-eqb _ 0 (rw c.from-n.ensures at w.if-eight-n-ne0.false))
      | else-n-lt8-via-else-n-lt8 w ↦ let none : 8 - n ≡ 0 = omega arith in rw none
    ] in
    let so_many : a.at + 1 + c.from-n.result - (a.at + 1) ≡ n = omega arith in
    rw so_many at c.all_below.ensures ∙ sym (field_clean a.at 8 a.bound a.row.now (omega arith) clean)
