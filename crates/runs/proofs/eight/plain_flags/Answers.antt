-- `runs::eight::plain_flags` meets its contract: either sort of string data has flags of its own. Assumes nothing.
use Rattle.runs.proofs.eight.plain_flags.Goals as goal

pub returns-then-curly : goal.returns-then-curly
returns-then-curly c = rw c.if-curly.true c.curly_flags.ensures

pub returns : goal.returns
returns c = rw c.if-curly.false c.quoted_flags.ensures
