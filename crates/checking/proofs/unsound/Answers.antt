-- `checking::unsound` meets its contract: the number of an unsound table is 20. Assumes nothing.
use Rattle.checking.proofs.unsound.Goals as goal

pub returns-clause-value : goal.returns-clause-value
returns-clause-value c = rw c.number.ensures
