-- `runs::eight::past_plain` meets its contract: its flags are those of bytes that string data is mostly made of. Assumes nothing.
use borrow.Author.Rules.{rules}
use Rattle.runs.specs.Bytes.{plain}
use Rattle.runs.proofs.eight.past_plain.Goals as goal

pub returns : goal.returns
returns c = (c.past_eights.ensures (plain c.args.curly) (λ w r h e. search rules)).0
