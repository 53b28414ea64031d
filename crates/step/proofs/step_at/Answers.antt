-- It tells the token that `token` finds, with the place reached behind it.
use Rattle.std.proofs.Common.{◌∙◌, ap}
use Rattle.tokens.specs.Told.{told_token}
use Rattle.step.specs.Answer.{answered, answer_of}
use Rattle.step.proofs.Stepping.{told_onward}
use Rattle.step.proofs.step_at.Goals as goal

pub returns : goal.returns
unfolding answer_of
returns c =
    let t = c.token-t in
    let behind = told_onward c.args.place c.onward.result t.result c.onward.ensures in
    c.told.ensures t.ensures.plain
    ∙ (ap (λ next. answered next (told_token t.result)) behind ∙ ap (answer_of _) t.ensures.told)
