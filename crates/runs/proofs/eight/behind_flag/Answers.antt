-- `runs::eight::behind_flag` meets its contract, by the law of a number and the one before it. Assumes nothing.
use Prim.Native.Nat.{◌-◌}
use native.Mathlib.Omega.{arith}
use lib.Bits.{and_le_r}
use Rattle.runs.proofs.Flags.{but_first}
use Rattle.runs.proofs.eight.behind_flag.Goals as goal

pub returns : goal.returns
returns c =
    let n = c.args.flags in
    (omega (arith, and_le_r n (n - 1)), but_first 8 n)
