-- `entities::open::top` meets its contract: the last of those that are open, or none. Assumes nothing.
use mathlib.Core.Path.{◌∙◌}
use native.Mathlib.Omega.{arith}
use Rattle.entities.proofs.OpenGroups.{last_open}
use Rattle.entities.proofs.open.top.Goals as goal

pub returns : goal.returns
returns c =
    let a = c.args in
    c.copied.ensures ∙ (c.last.ensures.value ∙ last_open a.groups.now a.depth (omega arith))
