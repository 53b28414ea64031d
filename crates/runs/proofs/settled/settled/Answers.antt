-- `runs::settled::settled` meets its contract: the tests of the code are those of the definition. Assumes nothing.
use mathlib.Core.Path.{refl}
use borrow.Author.Tests.{ne_eqb}
use Rattle.runs.specs.Bytes.{settled}
use Rattle.runs.proofs.settled.settled.Goals as goal

pub returns-then-b-ne13 : goal.returns-then-b-ne13
unfolding settled
returns-then-b-ne13 c = simp (ne_eqb c.args.b 0x0D c.if-b-ne13.true)

pub returns-else-b-ne13 : goal.returns-else-b-ne13
unfolding settled
returns-else-b-ne13 c = rw c.if-b-ne13.false refl
