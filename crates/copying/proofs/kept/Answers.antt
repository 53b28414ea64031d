-- `copying::kept` meets its contract. The invariant: the part is the one lent, with as many bytes pasted in as turns were made, each with a
-- class above 0. Assumes nothing.
use mathlib.Core.Path.{refl}
use native.Mathlib.Omega.{arith}
use native.Mathlib.Numerals.{add-one}
use lib.ListN.{length-set}
use lib.Seq.{paste-zero, paste-suc}
use borrow.Author.Count.{below_more}
use Rattle.copying.proofs.kept.Goals as goal

pub loop-k-init : goal.loop-k-init
loop-k-init c =
    let a = c.args in
    (paste-zero a.out.now a.at a.bytes.now, refl, λ j h. absurd (omega arith))

pub loop-k-preserved : goal.loop-k-preserved
loop-k-preserved c =
    let a = c.args in
    let l = c.loop-k in (
      rw (l.invariant.0, add-one) (paste-suc a.out.now a.at a.bytes.now l.k 0 (omega arith) (omega arith)),
      simp length-set l.invariant.1,
      below_more _ _ l.invariant.2 (c.stays.ensures (c.if-not-stays.false)),
    )
