-- `runs::eight::curly_flags` meets its contract. Of a byte below 80 hex: 60 more has the highest bit from 20 on, and 5 more above `z`; and
-- what differs from backslash by some bit has it with 7F more. Assumes nothing.
use mathlib.Core.Path.{refl}
use mathlib.Core.Bool.{true}
use Prim.Native.Nat.{ℕ, ◌+◌, ◌^◌, ◌<◌}
use native.Mathlib.Omega.{arith}
use lib.Bits.{bit_and, bit_or, bit_xor}
use lib.Dec.{eqb}
use borrow.Author.Tests.{eq-eqb}
use Rattle.tokens.specs.Runs.{bytes_of}
use Rattle.tokens.proofs.Table.{implied}
use Rattle.runs.specs.Bytes.{plain}
use Rattle.runs.proofs.Bytewise.{Made, itself, always, raised, turned, made_fits, made_flags, made_and, made_or, made_xor}
use Rattle.runs.proofs.eight.curly_flags.Goals as goal

-- what is made of a byte
abbrev made : ℕ → ℕ
made b =
    let x = bit_and b 0x7F in
    bit_and (bit_or (bit_or b (x + 0x05)) (bit_xor (bit_and (x + 0x60) (bit_xor x 0x5C + 0x7F)) 0x80)) 0x80

module _ (w : ℕ) (h : w < 2 ^ 64) where
  flags :
      Made w made
      (bit_and
      (bit_or
      (bit_or w (bit_and w 0x7F7F7F7F7F7F7F7F + 0x0505050505050505))
      (bit_xor
      (bit_and
      (bit_and w 0x7F7F7F7F7F7F7F7F + 0x6060606060606060)
      (bit_xor (bit_and w 0x7F7F7F7F7F7F7F7F) 0x5C5C5C5C5C5C5C5C + 0x7F7F7F7F7F7F7F7F))
      0x8080808080808080))
      0x8080808080808080)
  unfolding bytes_of
  flags =
      let top = always w 0x80 (omega arith) in
      let low = raised w h 0x60 (omega arith) in
      let high = raised w h 0x05 (omega arith) in
      let escape = turned w h 0x5C 0x7F (omega arith) (omega arith) in
      made_and (made_or (made_or (itself w h) high) (made_xor (made_and low escape) top)) top

pub overflow_add-low : goal.overflow_add-low
overflow_add-low c = record { fits = made_fits (raised c.args.w c.ranges.w.fits 0x60 (omega arith)) }

pub overflow_add-high : goal.overflow_add-high
overflow_add-high c = record { fits = made_fits (raised c.args.w c.ranges.w.fits 0x05 (omega arith)) }

pub overflow_add-escape : goal.overflow_add-escape
overflow_add-escape c = record { fits = made_fits (turned c.args.w c.ranges.w.fits 0x5C 0x7F (omega arith) (omega arith)) }

pub returns : goal.returns
unfolding plain
returns c =
    made_flags (flags c.args.w c.ranges.w.fits) (plain true)
    (λ b l e. implied (λ k. eqb (made k) 0) (plain true) 256 refl b l (eq-eqb (made b) 0 e))
