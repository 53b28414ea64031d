-- `naming::get` meets its contract: what the entity's text names is fetched. Assumes nothing.
use mathlib.Core.Path.{◌∙◌, ap}
use Rattle.names.specs.Index.{key_of, position}
use Rattle.sight.specs.Row.{text_by}
use Rattle.naming.proofs.get.Goals as goal

pub returns-clause-answer : goal.returns-clause-answer
returns-clause-answer c g =
    let k = c.args.stack.now in
    let t = c.args.text.now in
    let there = c.find-found.ensures.0 ∙ ap (λ name. position (key_of t k.index) name k.counts.names) c.text_of-name.ensures in
    c.fetch.ensures.answer t (text_by c.args.row t) (c.requires.1, g) there
