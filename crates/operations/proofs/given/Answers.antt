-- `operations::given` meets its contract: too many cells are 29, and else the row's kinds are laid above the cells left in sight.
-- Assumes nothing.
use native.Mathlib.Omega.{arith}
use Rattle.operations.proofs.Giving.{not_given, all_given}
use Rattle.operations.proofs.given.Goals as goal

pub returns-then-top-given-gt-CELLS-clause-answer : goal.returns-then-top-given-gt-CELLS-clause-answer
returns-then-top-given-gt-CELLS-clause-answer c step text st =
    let a = c.args in
    let k = a.stack.now in
    not_given text k.cells k.bases k.index k.whats k.counts a.left step a.given.now st.1 k (omega (arith, c.if-top-given-gt-CELLS.true))

pub returns-clause-answer : goal.returns-clause-answer
returns-clause-answer c step text st =
    let a = c.args in
    let k = a.stack.now in
    rw (c.with_seen-stack.ensures, c.give.ensures)
    (all_given text k.cells k.bases k.index k.whats k.counts a.left step a.given.now st.1 st.0 c.requires.3
    (omega (arith, c.if-top-given-gt-CELLS.false)))
