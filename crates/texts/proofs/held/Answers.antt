-- `texts::held` meets its contract: what there is no room for is not written, and else its row is. Assumes nothing.
use mathlib.Core.Path.{refl}
use native.Mathlib.Omega.{arith}
use Rattle.std.proofs.lemmas.Result.{err_from_is_err_and}
use Rattle.texts.specs.Held.{none, some}
use Rattle.texts.proofs.Roomed.{room_found}
use Rattle.texts.proofs.held.Goals as goal

pub returns-in_err-inner : goal.returns-in_err-inner
returns-in_err-inner c =
    let out = err_from_is_err_and c.from_residual.result c.from_residual.ensures.1 in
    none _ c.in_err-inner.ensures (rw out.2 at out.1)

pub overflow_mul-inner : goal.overflow_mul-inner
overflow_mul-inner c =
    let a = c.args in
    let f =
    room_found a.s a.list.now a.text.now a.groups.now a.row.place _ _ c.room.new.list c.room.new.groups c.in_ok-inner.ensures in
    omega (arith, f.held, f.room, c.requires.3.held, c.well_formed.0)

pub write-requires : goal.write-requires
write-requires c =
    let a = c.args in
    let f =
    room_found a.s a.list.now a.text.now a.groups.now a.row.place _ _ c.room.new.list c.room.new.groups c.in_ok-inner.ensures in
    omega (arith, f.held, f.room, c.room.auto, c.requires.3.held)

pub returns : goal.returns
returns c = some c.in_ok-inner.inner c.room.new.list c.in_ok-inner.ensures c.write.ensures refl
