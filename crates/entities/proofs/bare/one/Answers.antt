-- `entities::bare::one` meets its contract: where the entity fits, what is written is its row. Assumes nothing.
use mathlib.Core.Path.{refl}
use native.Mathlib.Omega.{arith}
use Rattle.entities.specs.Stepping.{room}
use Rattle.entities.proofs.Rows.{one_row}
use Rattle.entities.proofs.bare.one.Goals as goal

pub returns : goal.returns
returns c =
    let a = c.args in
    room (omega (arith, c.requires.0, c.if-list-s-lt6.false))
    (one_row a.list.now a.s.entities a.s.text a.place c.bare-row.result c.write.new.list c.write.ensures a.kind 0 c.bare-row.ensures)
    refl
