-- `runs::eight::past_remark` meets its contract: its flags are those of bytes that comments are mostly made of. Assumes nothing.
use Rattle.runs.specs.Bytes.{remark}
use Rattle.runs.proofs.eight.past_remark.Goals as goal

pub returns : goal.returns
returns c = (c.past_eights.ensures remark (λ w r h e. e)).0
