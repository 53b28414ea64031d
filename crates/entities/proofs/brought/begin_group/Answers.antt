-- `entities::brought::begin_group` meets its contract: the group is pushed, and its six numbers are its row. Assumes nothing.
use mathlib.Core.Path.{refl}
use Rattle.entities.proofs.Rows.{group_row}
use Rattle.entities.proofs.brought.begin_group.Goals as goal

pub returns : goal.returns
returns c =
    let a = c.args in (
      refl,
      group_row a.list.now a.s.entities a.s.text a.place c.bare-row.result c.write.new.list c.write.ensures c.bare-row.ensures,
      c.push.ensures,
    )
