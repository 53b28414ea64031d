-- `tokens::opened` meets its contract: the quote opens a quoted string, and the curly a curly one. Assumes nothing.
use borrow.Author.Tests.{eq-eqb, ne_eqb}
use Rattle.tokens.specs.Tokens.{opens, follows}
use Rattle.tokens.proofs.opened.Goals as goal
use Rattle.tokens.proofs.opened.Goals.{then-open-eq34, else-open-eq34}

pub returns-clause-told : goal.returns-clause-told
unfolding opens follows
returns-clause-told c =
    let a = c.args in
    elim c.if-open-eq34.branch [
      | then-open-eq34 w ↦ rw (eq-eqb a.«open» 0x22 w.if-open-eq34.true) (rw w.sort-is at c.string.ensures.told)
      | else-open-eq34 w ↦ rw (ne_eqb a.«open» 0x22 w.if-open-eq34.false) (rw w.sort-is at c.string.ensures.told)
    ]
