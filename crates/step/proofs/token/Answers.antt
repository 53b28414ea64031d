-- The test of the draft's length is the definition's own.
use Rattle.std.proofs.Common.{◌∙◌, ap, arith, length}
use borrow.Author.Tests.{lt-ltb, le-ltb}
use Rattle.chars.specs.Limits.{limits}
use Rattle.tokens.specs.Step.{stepped}
use Rattle.tokens.specs.Tokens.{token_at}
use Rattle.step.proofs.token.Goals as goal

pub returns-then-draft-gt-DRAFT-clause-told : goal.returns-then-draft-gt-DRAFT-clause-told
unfolding stepped
returns-then-draft-gt-DRAFT-clause-told c = rw (c.at.ensures, lt-ltb 16384 (length c.args.draft.now) (omega arith))

pub returns-clause-told : goal.returns-clause-told
unfolding stepped
returns-clause-told c =
    rw (le-ltb 16384 (length c.args.draft.now) (omega arith))
    (c.token_at.ensures.told ∙ ap (token_at limits _) c.reached.ensures)
