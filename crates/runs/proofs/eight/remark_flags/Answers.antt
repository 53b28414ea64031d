-- `runs::eight::remark_flags` meets its contract: of a byte below 80 hex, 60 more has the highest bit from 20 on. Assumes nothing.
use mathlib.Core.Path.{refl}
use Prim.Native.Nat.{ℕ, ◌+◌, ◌^◌, ◌<◌}
use native.Mathlib.Omega.{arith}
use lib.Bits.{bit_and, bit_or, bit_xor}
use lib.Dec.{eqb}
use borrow.Author.Tests.{eq-eqb}
use Rattle.tokens.specs.Runs.{bytes_of}
use Rattle.tokens.proofs.Table.{implied}
use Rattle.runs.specs.Bytes.{remark}
use Rattle.runs.proofs.Bytewise.{Made, itself, always, raised, made_fits, made_flags, made_and, made_or, made_xor}
use Rattle.runs.proofs.eight.remark_flags.Goals as goal

-- what is made of a byte
abbrev made : ℕ → ℕ
made b = bit_and (bit_or b (bit_xor (bit_and b 0x7F + 0x60) 0x80)) 0x80

module _ (w : ℕ) (h : w < 2 ^ 64) where
  flags :
      Made w made
      (bit_and (bit_or w (bit_xor (bit_and w 0x7F7F7F7F7F7F7F7F + 0x6060606060606060) 0x8080808080808080)) 0x8080808080808080)
  unfolding bytes_of
  flags =
      let high = always w 0x80 (omega arith) in
      made_and (made_or (itself w h) (made_xor (raised w h 0x60 (omega arith)) high)) high

pub overflow_add-low : goal.overflow_add-low
overflow_add-low c = record { fits = made_fits (raised c.args.w c.ranges.w.fits 0x60 (omega arith)) }

pub returns : goal.returns
unfolding remark
returns c =
    made_flags (flags c.args.w c.ranges.w.fits) remark
    (λ b l e. implied (λ k. eqb (made k) 0) remark 256 refl b l (eq-eqb (made b) 0 e))
