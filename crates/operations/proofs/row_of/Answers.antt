-- `operations::row_of` meets its contract: the entry has the place behind the row's first byte. Assumes nothing.
use mathlib.Core.Path.{◌≡◌}
use Prim.Native.Nat.{◌+◌, ◌-◌, ◌*◌}
use native.Mathlib.Omega.{arith}
use lib.ListN.{get_or}
use Rattle.table.specs.Entered.{row_place}
use Rattle.operations.proofs.row_of.Goals as goal

pub returns : goal.returns
returns c =
    let a = c.args in
    let at = get_or a.operations.now (512 + a.entry * 5) 0 - 1 in
    let here : at ≡ row_place a.table.now a.entry = omega (arith, c.requires.0.places a.entry c.requires.1) in
    let all : at + 274 - at ≡ 274 = omega arith in
    rw (all, here)
