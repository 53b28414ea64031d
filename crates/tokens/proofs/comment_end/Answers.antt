-- `tokens::comment_end` meets its contract: past the draft's last byte the stream is its end, where a comment ends too. Assumes nothing.
use native.Mathlib.Omega.{arith}
use lib.ListN.{length}
use Rattle.chars.proofs.Streams.{at_end}
use Rattle.tokens.specs.Runs.{past_comment}
use Rattle.tokens.proofs.comment_end.Goals as goal

pub returns-then-draft-at : goal.returns-then-draft-at
unfolding past_comment
returns-then-draft-at c =
    let draft = c.args.draft.now in
    let at = c.args.at in
    (rw (at_end draft (length draft) (omega arith), at_end draft at c.if-draft-at.true), omega arith, λ h. h)
