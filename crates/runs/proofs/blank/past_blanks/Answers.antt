-- `runs::blank::past_blanks` meets its contract: what the definition counts are the bytes that were passed. Assumes nothing.
use native.Mathlib.Omega.{arith}
use Rattle.tokens.specs.Sorts.{white}
use Rattle.runs.proofs.Blanks.{no_blanks, blanks_passed}
use Rattle.runs.proofs.blank.past_blanks.Goals as goal

pub returns-then-draft-at : goal.returns-then-draft-at
returns-then-draft-at c = omega (arith, no_blanks c.args.draft.now c.args.at (omega arith))

pub returns : goal.returns
returns c =
    let p = c.past_bytes.ensures white (λ b r h e. e) in
    blanks_passed c.args.draft.now c.args.at c.past_bytes.result p.0 p.2
