-- `runs::settled::change_flags` meets its contract. What differs from a byte below 80 hex by some bit has the highest bit with 7F more; of
-- CR the highest bit is clear besides, and of ED it is set. Assumes nothing.
use mathlib.Core.Path.{refl}
use Prim.Native.Nat.{ℕ, ◌+◌, ◌^◌, ◌<◌}
use native.Mathlib.Omega.{arith}
use lib.Bits.{bit_and, bit_or, bit_xor}
use lib.Dec.{eqb}
use borrow.Author.Tests.{eq-eqb}
use Rattle.tokens.specs.Runs.{bytes_of}
use Rattle.tokens.proofs.Table.{implied}
use Rattle.runs.specs.Bytes.{settled}
use Rattle.runs.proofs.Bytewise.{Made, itself, always, turned, made_fits, made_flags, made_and, made_or, made_xor}
use Rattle.runs.proofs.settled.change_flags.Goals as goal

-- what is made of a byte
abbrev made : ℕ → ℕ
made b =
    let x = bit_and b 0x7F in
    bit_and (bit_xor (bit_and (bit_or (bit_xor x 0x0D + 0x7F) b) (bit_or (bit_xor x 0x6D + 0x7F) (bit_xor b 0x80))) 0x80) 0x80

module _ (w : ℕ) (h : w < 2 ^ 64) where
  flags :
      Made w made
      (bit_and
      (bit_xor
      (bit_and
      (bit_or (bit_xor (bit_and w 0x7F7F7F7F7F7F7F7F) 0x0D0D0D0D0D0D0D0D + 0x7F7F7F7F7F7F7F7F) w)
      (bit_or (bit_xor (bit_and w 0x7F7F7F7F7F7F7F7F) 0x6D6D6D6D6D6D6D6D + 0x7F7F7F7F7F7F7F7F) (bit_xor w 0x8080808080808080)))
      0x8080808080808080)
      0x8080808080808080)
  unfolding bytes_of
  flags =
      let top = always w 0x80 (omega arith) in
      let line = turned w h 0x0D 0x7F (omega arith) (omega arith) in
      let pair = turned w h 0x6D 0x7F (omega arith) (omega arith) in
      made_and (made_xor (made_and (made_or line (itself w h)) (made_or pair (made_xor (itself w h) top))) top) top

pub overflow_add-line : goal.overflow_add-line
overflow_add-line c = record { fits = made_fits (turned c.args.w c.ranges.w.fits 0x0D 0x7F (omega arith) (omega arith)) }

pub overflow_add-pair : goal.overflow_add-pair
overflow_add-pair c = record { fits = made_fits (turned c.args.w c.ranges.w.fits 0x6D 0x7F (omega arith) (omega arith)) }

pub returns : goal.returns
unfolding settled
returns c =
    made_flags (flags c.args.w c.ranges.w.fits) settled
    (λ b l e. implied (λ k. eqb (made k) 0) settled 256 refl b l (eq-eqb (made b) 0 e))
