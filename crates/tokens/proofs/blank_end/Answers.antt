-- `tokens::blank_end` meets its contract: past the draft's last byte the stream is its end, which no blank precedes. Assumes nothing.
use native.Mathlib.Omega.{arith}
use lib.ListN.{length}
use Rattle.chars.proofs.Streams.{at_end}
use Rattle.tokens.specs.Runs.{past_blanks}
use Rattle.tokens.proofs.blank_end.Goals as goal

pub returns-then-draft-at : goal.returns-then-draft-at
unfolding past_blanks
returns-then-draft-at c =
    let draft = c.args.draft.now in
    let at = c.args.at in
    (rw (at_end draft (length draft) (omega arith), at_end draft at c.if-draft-at.true), omega arith)
