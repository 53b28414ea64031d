-- `table::judge` meets its contract. The invariant: the last `k` rows are entered, and they pass. Assumes nothing.
use mathlib.Core.Path.{◌≡◌, sym, ◌∙◌}
use mathlib.Core.Bool.{and-false, false≢true}
use native.Mathlib.Omega.{arith}
use native.Mathlib.Numerals.{add-one}
use borrow.Author.Tests.{eq-eqb, ne_eqb, le-leb, lt-leb}
use Rattle.chars.specs.Limits.{limits}
use Rattle.table.specs.Entered.{row_count}
use Rattle.table.proofs.Sound.{sound_tests}
use Rattle.table.proofs.Last.{pass_none, pass_next, pass_all, not_newly}
use Rattle.table.proofs.Entering.{none_entered}
use Rattle.table.proofs.judge.Goals as goal

pub returns-then-table-ne0 : goal.returns-then-table-ne0
returns-then-table-ne0 c =
    let t = c.args.table.now in
    (sym (sound_tests limits t ∙ rw (ne_eqb _ 0 c.if-table-ne0.true)), λ u. absurd (false≢true u))

pub returns-then-n-gt-OPERATIONS : goal.returns-then-n-gt-OPERATIONS
returns-then-n-gt-OPERATIONS c =
    let t = c.args.table.now in
    (sym (sound_tests limits t ∙ rw (lt-leb (row_count t) 256 (omega (arith, c.if-n-gt-OPERATIONS.true)), and-false)), λ u. absurd (false≢true u))

pub loop-k-init : goal.loop-k-init
loop-k-init c =
    let t = c.args.table.now in
    (none_entered t c.args.index.now c.requires.0 c.requires.1, pass_none t)

pub returns-then-not-operation_entered : goal.returns-then-not-operation_entered
returns-then-not-operation_entered c =
    let t = c.args.table.now in
    let k = c.loop-k.k in
    let r = c.operation_entered.ensures in
    let stops = not_newly t k (omega arith) (sym r.0 ∙ c.if-not-operation_entered.true) in
    (sym (sound_tests limits t ∙ rw (stops, and-false)), λ u. absurd (false≢true u))

pub loop-k-preserved : goal.loop-k-preserved
loop-k-preserved c =
    let t = c.args.table.now in
    let l = c.loop-k in
    let r = c.operation_entered.ensures in
    let good = c.if-not-operation_entered.false in
    (r.1 good, rw (add-one l.k) (pass_next t l.k (omega arith) ∙ rw (sym r.0 ∙ good) l.invariant.1))

pub returns : goal.returns
returns c =
    let t = c.args.table.now in
    let l = c.loop-k in
    let all : l.k ≡ row_count t = omega arith in
    let passes = sym (pass_all t) ∙ rw all at l.invariant.1 in (
      sym (sound_tests limits t ∙ rw (passes, eq-eqb _ 0 c.if-table-ne0.false, le-leb (row_count t) 256 c.if-n-gt-OPERATIONS.false)),
      λ u. rw all at l.invariant.0,
    )
