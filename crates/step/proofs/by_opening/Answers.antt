-- It tells the token that `step` gives for the draft opened at the place, and the place at which `step` leaves it.
use Rattle.std.proofs.Common.{◌∙◌, ap}
use Rattle.chars.specs.Limits.{limits}
use Rattle.tokens.specs.Step.{stepped}
use Rattle.tokens.specs.Told.{told_token}
use Rattle.step.specs.Answer.{answered, answer_of}
use Rattle.step.specs.declared.Opened.{Opened}
use Rattle.step.proofs.by_opening.Goals as goal

pub returns : goal.returns
unfolding answer_of
returns c =
    let place = c.args.place in
    let t = c.step-t in
    let lent = ap (λ (o : Opened). o.draft) c.new-opened.ensures in
    c.told.ensures t.ensures.plain
    ∙ (ap (λ next. answered next (told_token t.result)) t.ensures.told.2
    ∙ (ap (answer_of place) t.ensures.told.0 ∙ ap (λ draft. answer_of place (stepped limits draft.now place)) lent))
