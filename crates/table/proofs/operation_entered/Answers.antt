-- `table::operation_entered` meets its contract: the row's name is looked for among those entered, and if it is not found, it is entered
-- behind them. Assumes nothing.
use native.Mathlib.Omega.{arith}
use mathlib.Core.Path.{◌≡◌, sym, ◌∙◌, ap}
use mathlib.Core.Bool.{not, false≢true}
use mathlib.Core.List.{List}
use Prim.Native.Nat.{ℕ, ◌+◌, ◌-◌, ◌<◌}
use lib.ListN.{get_or, take, drop}
use Rattle.std.proofs.Common.{is_some}
use Rattle.names.specs.Index.{entered, found_of}
use Rattle.table.specs.Entered.{newly, row_from, Entered}
use Rattle.table.proofs.Rows.{row_entry, row_part}
use Rattle.table.proofs.Finding.{newly_by_index, no_entry}
use Rattle.table.proofs.Entering.{one_more}
use Rattle.table.proofs.operation_entered.Goals as goal
use Rattle.table.proofs.operation_entered.Goals.{After-find}

-- the row's bytes
row_is : (table : List ℕ) (at : ℕ) → take (at + 274 - at) (drop at table) ≡ row_from table at
row_is table at = let all : at + 274 - at ≡ 274 = omega arith in rw all

-- its name, of which the row has the length
name_is :
    (table : List ℕ) (at n : ℕ) → n < 256
    → take (1 + n - 1) (drop 1 (take (at + 274 - at) (drop at table))) ≡ take n (drop (at + 1) table)
name_is table at n h =
    let long : 1 + n - 1 ≡ n = omega arith in
    rw (row_is table at, long) (row_part table at 1 n (omega arith))

pub returns-then-not-operation_sound : goal.returns-then-not-operation_sound
unfolding newly
returns-then-not-operation_sound c =
    let e = rw row_is at (sym c.operation_sound.ensures ∙ c.if-not-operation_sound.true) in
    (sym (rw (← c.requires.3, e)), λ t. absurd (false≢true t))

-- what is known once the name was looked for
module _ (c : After-find) where
  length_is : c.from-n.result ≡ get_or c.args.table.now c.args.at 0
  length_is =
      let here : c.args.at + 0 ≡ c.args.at = omega arith in
      rw row_is at c.from-n.ensures ∙ (row_entry c.args.table.now c.args.at 0 (omega arith) ∙ rw here)

  short : c.from-n.result < 256
  short = omega (arith, length_is, c.type_inv.table c.args.at)

  by_find : newly c.args.table.now c.args.count ≡ not (is_some c.find.result)
  by_find =
      let a = c.args in
      newly_by_index a.table.now a.index.now a.count c.requires.0 a.at c.from-n.result (found_of c.find.result) c.requires.3
      length_is short (rw row_is at (sym c.operation_sound.ensures ∙ c.if-not-operation_sound.false))
      (rw (name_is a.table.now a.at c.from-n.result short) at c.find.ensures.0)
      ∙ sym (no_entry c.find.result)

  entered_too :
      Entered c.args.table.now (entered c.args.index.now c.args.count c.marked-m.result (c.args.at + 1) c.from-n.result)
      (c.args.count + 1)
  entered_too =
      let a = c.args in
      let m = c.marked-m in
      one_more a.table.now a.index.now a.count m.result a.at c.from-n.result c.requires.0 c.requires.1 c.requires.2
      c.requires.3 length_is short (rw (name_is a.table.now a.at c.from-n.result short) at m.ensures.0)

pub returns-then-is_some : goal.returns-then-is_some
returns-then-is_some c =
    let there = ap not (sym c.is_some.ensures ∙ c.if-is_some.true) in
    (sym (by_find (goal.at.returns-then-is_some c).After-find ∙ there), λ t. absurd (false≢true t))

pub returns : goal.returns
returns c =
    let none = ap not (sym c.is_some.ensures ∙ c.if-is_some.false) in
    (sym (by_find (goal.at.returns c).After-find ∙ none), λ t. rw c.enter.ensures (entered_too (goal.at.returns c).After-find))
