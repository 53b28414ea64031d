-- `operations::entries` meets its contract: the field's entries are as many as its first byte says. Assumes nothing.
use mathlib.Core.Path.{◌≡◌}
use Prim.Native.Nat.{◌+◌, ◌-◌}
use native.Mathlib.Omega.{arith}
use lib.ListN.{get_or}
use Rattle.table.specs.Table.{field}
use Rattle.operations.proofs.entries.Goals as goal

pub returns : goal.returns
unfolding field
returns c =
    let a = c.args in
    let many : a.at + 1 + c.from-n.result - (a.at + 1) ≡ get_or a.row.now a.at 0 = omega arith in
    rw many
