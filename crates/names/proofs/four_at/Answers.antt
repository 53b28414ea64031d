-- `names::four_at` meets its contract: a number is that of its own bytes. Assumes nothing.
use Rattle.names.proofs.Numbers.{four_number}
use Rattle.names.proofs.four_at.Goals as goal

pub returns : goal.returns
returns c = four_number _ _ c.four.ensures.0 c.four.ensures.1
