-- `runs::eight::word_flags` meets its contract: what the code makes of one byte is 0 only where the byte goes on with a word, as antt
-- computes at every byte, and no sum of two bytes reaches 256. Assumes nothing.
use mathlib.Core.Path.{refl}
use Prim.Native.Nat.{ℕ, ◌+◌, ◌^◌, ◌<◌}
use native.Mathlib.Omega.{arith}
use lib.Bits.{bit_and, bit_or, bit_xor, and_le_r}
use lib.Dec.{eqb}
use borrow.Author.Tests.{eq-eqb}
use Rattle.tokens.specs.Sorts.{visible, exclusive, inclusive}
use Rattle.tokens.proofs.Table.{implied}
use Rattle.runs.specs.Bytes.{ends_of, goes_on}
use Rattle.runs.proofs.Bytewise.{Made, itself, repeated, seven, raised, masked, made_fits, made_flags, made_and, made_or, made_xor, made_sum}
use Rattle.runs.proofs.eight.word_flags.Goals as goal

-- what is made of a byte
abbrev made : ℕ → ℕ
made b =
    let x = bit_and b 0x7F in
    let low = bit_and x 0x73 + 0x5F in
    let next = bit_and (x + 0x04) 0xFA + 0x56 in
    let high = bit_and (x + 0x02) 0x9D + 0x63 in
    bit_and (bit_or (bit_or b high) (bit_xor (bit_and low next) 0x80)) 0x80

module _ (w : ℕ) (h : w < 2 ^ 64) where
  low : Made w (λ b. bit_and (bit_and b 0x7F) 0x73 + 0x5F) (bit_and (bit_and w 0x7F7F7F7F7F7F7F7F) 0x7373737373737373 + 0x5F5F5F5F5F5F5F5F)
  low =
      made_sum (made_and (seven w h) (repeated w 0x73 (omega arith))) (repeated w 0x5F (omega arith))
      (λ b i. omega (arith, and_le_r (bit_and b 0x7F) 0x73))

  next : Made w (λ b. bit_and (bit_and b 0x7F + 0x04) 0xFA + 0x56) (bit_and (bit_and w 0x7F7F7F7F7F7F7F7F + 0x0404040404040404) 0xFAFAFAFAFAFAFAFA + 0x5656565656565656)
  next = masked w h 0x04 0xFA 0x56 (omega arith) (omega arith)

  high : Made w (λ b. bit_and (bit_and b 0x7F + 0x02) 0x9D + 0x63) (bit_and (bit_and w 0x7F7F7F7F7F7F7F7F + 0x0202020202020202) 0x9D9D9D9D9D9D9D9D + 0x6363636363636363)
  high = masked w h 0x02 0x9D 0x63 (omega arith) (omega arith)

pub overflow_add-low : goal.overflow_add-low
overflow_add-low c = record { fits = made_fits (low c.args.w c.ranges.w.fits) }

pub overflow_add-next : goal.overflow_add-next
overflow_add-next c = record { fits = made_fits (raised c.args.w c.ranges.w.fits 0x04 (omega arith)) }

pub overflow_add-next-2 : goal.overflow_add-next-2
overflow_add-next-2 c = record { fits = made_fits (next c.args.w c.ranges.w.fits) }

pub overflow_add-high : goal.overflow_add-high
overflow_add-high c = record { fits = made_fits (raised c.args.w c.ranges.w.fits 0x02 (omega arith)) }

pub overflow_add-high-2 : goal.overflow_add-high-2
overflow_add-high-2 c = record { fits = made_fits (high c.args.w c.ranges.w.fits) }

pub returns : goal.returns
unfolding goes_on ends_of visible exclusive inclusive
returns c =
    let w = c.args.w in
    let h = c.ranges.w.fits in
    let top = repeated w 0x80 (omega arith) in
    made_flags (made_and (made_or (made_or (itself w h) (high w h)) (made_xor (made_and (low w h) (next w h)) top)) top) goes_on
    (λ b l e. implied (λ k. eqb (made k) 0) goes_on 256 refl b l (eq-eqb (made b) 0 e))
