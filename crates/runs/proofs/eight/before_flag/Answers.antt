-- `runs::eight::before_flag` meets its contract: eight bits that are 0 are a byte that is. Assumes nothing.
use Prim.Native.Nat.{◌/◌}
use native.Mathlib.Omega.{arith}
use lib.Count.{count_trailing_zeros, trailing_le}
use Rattle.runs.proofs.Flags.{trailing_bytes, first_byte}
use Rattle.runs.proofs.eight.before_flag.Goals as goal

pub returns : goal.returns
returns c =
    let n = c.args.flags in
    let t = trailing_le 64 n in
    (omega (arith, t), trailing_bytes 64 n (count_trailing_zeros 64 n / 8) (omega arith), first_byte n c.ranges.flags.fits)
