-- `runs::settled::past_settled` meets its contract: what is passed one by one stands behind what is passed by eights. Assumes nothing.
use Rattle.runs.specs.Bytes.{settled}
use Rattle.runs.proofs.Flags.{both_passed}
use Rattle.runs.proofs.settled.past_settled.Goals as goal

pub past_bytes-requires-clause-within : goal.past_bytes-requires-clause-within
past_bytes-requires-clause-within c = ((c.past_eights.ensures settled (λ w r h e. e)).1, c.requires.1)

pub returns : goal.returns
returns c =
    let first = c.past_eights.ensures settled (λ w r h e. e) in
    let then = c.past_bytes.ensures settled (λ b r h e. e) in
    (both_passed settled c.args.draft.now c.args.at c.past_eights.result c.past_bytes.result first.0 then.0, then.1, then.2)
