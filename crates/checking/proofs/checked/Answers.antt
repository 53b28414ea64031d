-- `checking::checked` meets its contract: it asks in the definition's order. Assumes nothing.
use borrow.Author.Tests.{eq-eqb, ne_eqb}
use Rattle.checking.proofs.checked.Goals as goal

pub returns-then-a-ne0 : goal.returns-then-a-ne0
returns-then-a-ne0 c = rw (ne_eqb _ 0 c.if-a-ne0.true)

pub check_kept-ended-requires : goal.check_kept-ended-requires
check_kept-ended-requires c = c.requires c.if-a-ne0.false

pub returns : goal.returns
returns c = rw (eq-eqb _ 0 c.if-a-ne0.false, ← c.check_kept-ended.ensures) c.finished.ensures
