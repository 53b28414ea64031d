-- `entities::bare::two` meets its contract: where both entities fit, what is written one behind the other are their rows. Assumes nothing.
use mathlib.Core.Path.{refl}
use native.Mathlib.Omega.{arith}
use Rattle.entities.specs.Stepping.{room}
use Rattle.entities.proofs.Rows.{two_rows}
use Rattle.entities.proofs.bare.two.Goals as goal

pub returns : goal.returns
returns c =
    let a = c.args in
    let held = c.requires.0 in
    let enough = c.if-list-s-lt12.false in
    room (omega (arith, held, enough))
    (two_rows a.list.now a.s.entities a.s.text a.place c.bare-end.result c.write.new.list c.write.ensures a.kind a.count
    c.bare-end.ensures _ (rw (c.bare-end.ensures, c.code.ensures)) c.write-2.new.list (omega (arith, enough, held)) c.write-2.ensures)
    refl
