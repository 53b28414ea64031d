-- `holding::copy::few` meets its contract: from four on, the last four go over a part whose first four agree with the bytes already, and
-- of fewer the first, the middle and the last are all. Assumes nothing.
use mathlib.Core.Path.{◌∙◌}
use native.Mathlib.Omega.{arith}
use Rattle.holding.proofs.Over.{last_over}
use Rattle.holding.proofs.copy.few.Goals as goal

pub returns-then-n-ge4 : goal.returns-then-n-ge4
returns-then-n-ge4 c =
    let a = c.args in
    c.over-then-n-ge4.ensures
    ∙ last_over a.bytes.now a.out.now c.over.new.out 4 4 c.over.ensures (omega arith) (omega arith) (omega arith)
