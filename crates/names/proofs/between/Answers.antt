-- `names::between` meets its contract. The invariant: what is stirred in from here on makes the number that the definition makes from the
-- start. The measure is what is left of the name. Assumes nothing.
use mathlib.Core.Path.{sym, ◌∙◌}
use native.Mathlib.Omega.{arith}
use Rattle.names.proofs.Numbers.{blocks_on, blocks_done}
use Rattle.names.proofs.between.Goals as goal

pub loop-i-preserved : goal.loop-i-preserved
loop-i-preserved c =
    let l = c.loop-i in
    let w = c.four_at in
    (omega arith, rw c.stirred-h.ensures (blocks_on c.args.name.now l.h w.result l.i (omega arith) (omega arith) w.ensures ∙ l.invariant.1))

pub returns : goal.returns
returns c =
    let l = c.loop-i in
    sym (blocks_done c.args.name.now l.h l.i (omega arith)) ∙ l.invariant.1
