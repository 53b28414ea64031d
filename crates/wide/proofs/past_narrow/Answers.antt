-- `wide::past_narrow` meets its contract: characters behind characters, none of which loses a byte. Assumes nothing.
use Rattle.wide.proofs.Widths.{wides_on}
use Rattle.wide.proofs.past_narrow.Goals as goal

pub returns : goal.returns
returns c =
    let first = rw (c.past.ensures.stays (λ d i told e. e.1)) at c.past.ensures.reach.0 in
    let then = rw (c.past-2.ensures.stays (λ d i told e. e.1)) at c.past-2.ensures.reach.0 in
    (wides_on first then, c.past-2.ensures.reach.1)
