-- `entities::metacommands::metacommand_begins` meets its contract: one entity, and the metacommand is open. Assumes nothing.
use Rattle.holding.specs.Kind.{kind_code}
use Rattle.entities.proofs.Rules.{command_begins}
use Rattle.entities.proofs.metacommands.metacommand_begins.Goals as goal

pub returns : goal.returns
unfolding kind_code
returns c =
    let a = c.args in
    let p = c.requires in
    command_begins a.s a.list.now a.groups.now a.place p.2 p.0 c.one.ensures
