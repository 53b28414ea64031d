-- `naming::fix` meets its contract: with no cell in sight nothing is taken, and else the name that the entity's text is is defined.
-- Assumes nothing.
use mathlib.Core.Path.{refl, ◌∙◌, ap}
use Rattle.names.specs.Index.{key_of, position}
use Rattle.names.specs.Marks.{mark_of}
use Rattle.rules.specs.Cells.{define}
use Rattle.sight.specs.Row.{text_by}
use Rattle.sight.specs.Arrays.{sight_of}
use Rattle.sight.specs.Stacks.{meant, ready}
use Rattle.naming.proofs.fix.Goals as goal

pub returns-then-stack-eq0-clause-answer : goal.returns-then-stack-eq0-clause-answer
unfolding define sight_of meant ready
returns-then-stack-eq0-clause-answer c g =
    let k = c.args.stack.now in
    let nothing = ap (sight_of k.cells k.counts.base) c.if-stack-eq0.true in
    record { same = rw nothing; on = tt }

pub returns-clause-answer : goal.returns-clause-answer
returns-clause-answer c g =
    let k = c.args.stack.now in
    let t = c.args.text.now in
    let name = c.text_of-name.ensures in
    let mark = c.marked-m.ensures.0 ∙ ap mark_of name in
    let there = c.find-found.ensures.0 ∙ ap (λ name. position (key_of t k.index) name k.counts.names) name in
    c.define.ensures.answer t (text_by c.args.row t) (c.requires.1, g) c.requires.0 refl mark there
