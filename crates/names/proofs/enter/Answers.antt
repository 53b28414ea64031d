-- `names::enter` meets its contract: its six stores are those of the definition, in their order. Assumes nothing.
use borrow.Author.Rules.{rules}
use Rattle.names.specs.Index.{entered}
use Rattle.names.proofs.enter.Goals as goal

pub returns : goal.returns
unfolding entered
returns c = search rules
