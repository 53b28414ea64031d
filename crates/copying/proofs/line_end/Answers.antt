-- `copying::line_end` meets its contract: CR before LF is one LF, and an answer `false` says nothing. Assumes nothing.
use native.Mathlib.Omega.{arith}
use borrow.Author.Tests.{eqb-true}
use Rattle.copying.proofs.Pairs.{feed}
use Rattle.copying.proofs.line_end.Goals as goal

pub returns-then-draft-i-eq13 : goal.returns-then-draft-i-eq13
returns-then-draft-i-eq13 c e =
    let a = c.args in
    feed a.draft.now a.i (omega arith) c.if-draft-i-eq13.true (eqb-true _ _ e)
