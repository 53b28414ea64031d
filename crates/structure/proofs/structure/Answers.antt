-- `structure::structure` meets its contract: what refuses the token before it is ruled refuses it, and what its rules make of it behind the
-- group that it brought is told of the state before. Assumes nothing.
use native.Mathlib.Omega.{arith}
use Rattle.std.proofs.lemmas.Result.{err_from_is_err_and}
use Rattle.structure.proofs.Leading.{led_stopped, led_steady, led_told}
use Rattle.structure.proofs.structure.Goals as goal

pub returns-in_err-inner : goal.returns-in_err-inner
returns-in_err-inner c =
    let a = c.args in
    let p = err_from_is_err_and c.from_residual.result c.from_residual.ensures.1 in
    rw (p.1, p.2)
    (led_stopped a.c c.ranges.c.fits c.requires.0 a.place a.s a.list.now a.groups.now _ c.led.new.list c.led.new.groups
    c.in_err-inner.ensures)

pub ruled-requires : goal.ruled-requires
ruled-requires c =
    let a = c.args in
    let p = c.requires in
    let so =
    led_steady a.c c.ranges.c.fits p.0 a.place a.s a.list.now a.groups.now _ c.led.new.list c.led.new.groups c.in_ok-inner.ensures
    (omega (arith, c.led.auto)) p.1 p.3 in
    (p.0, so.0, p.2, so.1)

pub returns : goal.returns
returns c =
    let a = c.args in
    led_told a.c c.ranges.c.fits c.requires.0 a.place a.s a.list.now a.groups.now c.ruled.result c.ruled.new.list
    c.ruled.new.groups _ c.led.new.list c.led.new.groups c.in_ok-inner.ensures c.ruled.ensures
