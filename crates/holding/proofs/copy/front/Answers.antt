-- `holding::copy::front` meets its contract: eight at the front, and the last eight over a part whose first eight are theirs. Assumes
-- nothing.
use mathlib.Core.Path.{◌∙◌}
use native.Mathlib.Omega.{arith}
use Rattle.holding.proofs.Over.{last_over}
use Rattle.holding.proofs.copy.front.Goals as goal

pub returns-then-n-le16 : goal.returns-then-n-le16
returns-then-n-le16 c =
    let a = c.args in
    c.over-then-n-le16.ensures
    ∙ last_over a.bytes.now a.out.now c.over.new.out 8 8 c.over.ensures (omega arith) (omega arith) (omega arith)
