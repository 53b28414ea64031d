-- `names::stirred` meets its contract: it computes what the definition says, and no step leaves 64 bits. Assumes nothing.
use borrow.Author.Rules.{rules}
use Rattle.names.specs.Marks.{stir}
use Rattle.names.proofs.stirred.Goals as goal

pub returns : goal.returns
unfolding stir
returns c = search rules
