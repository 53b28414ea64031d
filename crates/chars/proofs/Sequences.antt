-- The continuation bytes of a sequence, one byte of a draft at a time. Each law opens the definition at the byte at `i`, which is the
-- head of what is left of the draft there.
use mathlib.Core.Path.{◌≡◌, refl, ◌∙◌, sym, ap}
use mathlib.Core.List.{List, ◌∷◌}
use Prim.Native.Nat.{ℕ, zero, suc, ◌+◌, ◌-◌, ◌*◌, ◌^◌, ◌<◌, ◌≤◌}
use native.Mathlib.Nat.{not-suc-le-zero, mul-le-mul_right, mul_assoc, pow-succ', one-le-pow, le-mul_of_pos_right}
use native.Mathlib.Numerals.{add-one}
use native.Mathlib.Omega.{arith}
use lib.ListN.{length, get_or, drop, drop_of_length-le}
use lib.Seq.{drop-cons}
use borrow.Author.Tests.{le-leb, lt-leb, le-ltb, lt-ltb}
use Rattle.chars.specs.Character.{continued, sequence, lowest, highest}
use Rattle.chars.specs.Character.{Sequence}
use Rattle.chars.specs.Character.{Whole, Malformed}

-- no more are wanted
pub done : (n low high v : ℕ) (bytes : List ℕ) (place : ℕ) → n ≡ 0 → continued n low high v bytes place ≡ Whole v place
unfolding continued
done n low high v bytes place e = rw e

module _ (draft : List ℕ) (i : ℕ) where
  -- none is left where one is wanted
  pub out : (n low high v : ℕ) → length draft ≤ i → 0 < n → continued n low high v (drop i draft) i ≡ Malformed i
  unfolding continued
  out zero low high v h p = absurd (not-suc-le-zero p)
  out (suc n) low high v h p = rw (drop_of_length-le draft h)

  -- the byte is below the range
  pub below :
      (n low high v : ℕ) → i < length draft → 0 < n → get_or draft i 0 < low
      → continued n low high v (drop i draft) i ≡ Malformed i
  unfolding continued
  below zero low high v h p l = absurd (not-suc-le-zero p)
  below (suc n) low high v h p l = rw (drop-cons draft i 0 h) (simp (lt-leb low (get_or draft i 0) l))

  -- the byte is above the range
  pub above :
      (n low high v : ℕ) → i < length draft → 0 < n → low ≤ get_or draft i 0 → high < get_or draft i 0
      → continued n low high v (drop i draft) i ≡ Malformed i
  unfolding continued
  above zero low high v h p l g = absurd (not-suc-le-zero p)
  above (suc n) low high v h p l g =
      rw (drop-cons draft i 0 h) (simp (le-leb low (get_or draft i 0) l, lt-leb (get_or draft i 0) high g))

  -- the byte is in the range
  pub onward :
      (n low high v : ℕ) → i < length draft → 0 < n → low ≤ get_or draft i 0 → get_or draft i 0 ≤ high
      → continued n low high v (drop i draft) i
      ≡ continued (n - 1) 0x80 0xBF (v * 64 + (get_or draft i 0 - 0x80)) (drop (i + 1) draft) (i + 1)
  unfolding continued
  onward zero low high v h p l g = absurd (not-suc-le-zero p)
  onward (suc n) low high v h p l g =
      let less : suc n - 1 ≡ n = omega arith in
      rw (less, add-one, drop-cons draft i 0 h) (simp (le-leb low (get_or draft i 0) l, le-leb (get_or draft i 0) high g))

-- no byte is left
pub nothing : (draft : List ℕ) (at : ℕ) → length draft ≤ at → sequence (drop at draft) at ≡ Malformed at
unfolding sequence
nothing draft at h = rw (drop_of_length-le draft h)

-- The sequence that begins with `b`, by the range of `b`.
module _ (b : ℕ) (bytes : List ℕ) (place : ℕ) where
  -- what stands behind the first byte
  abbrev pub following : (n base : ℕ) → Sequence
  following n base = continued n (lowest b) (highest b) (b - base) bytes (suc place)

  pub begins_two : 0xC2 ≤ b → b < 0xE0 → sequence (b ∷ bytes) place ≡ following 1 0xC0
  unfolding sequence
  begins_two g l = simp (le-ltb b 0x80 (omega arith), le-ltb b 0xC2 g, lt-ltb b 0xE0 l)

  pub begins_three : 0xE0 ≤ b → b < 0xF0 → sequence (b ∷ bytes) place ≡ following 2 0xE0
  unfolding sequence
  begins_three g l = simp (le-ltb b 0x80 (omega arith), le-ltb b 0xC2 (omega arith), le-ltb b 0xE0 g, lt-ltb b 0xF0 l)

  pub begins_four : 0xF0 ≤ b → b ≤ 0xF4 → sequence (b ∷ bytes) place ≡ following 3 0xF0
  unfolding sequence
  begins_four g l =
      simp (
        le-ltb b 0x80 (omega arith),
        le-ltb b 0xC2 (omega arith),
        le-ltb b 0xE0 (omega arith),
        le-ltb b 0xF0 g,
        lt-ltb b 0xF5 (omega arith),
      )

-- The sequence at `at`, by the range of its first byte.
module _ (draft : List ℕ) (at : ℕ) (h : at < length draft) where
  pub single : get_or draft at 0 < 0x80 → sequence (drop at draft) at ≡ Whole (get_or draft at 0) (at + 1)
  unfolding sequence
  single l = rw (drop-cons draft at 0 h, add-one) (simp (lt-ltb (get_or draft at 0) 0x80 l))

  pub stray : 0x80 ≤ get_or draft at 0 → get_or draft at 0 < 0xC2 → sequence (drop at draft) at ≡ Malformed at
  unfolding sequence
  stray g l = rw (drop-cons draft at 0 h) (simp (le-ltb (get_or draft at 0) 0x80 g, lt-ltb (get_or draft at 0) 0xC2 l))

  pub none : 0xF4 < get_or draft at 0 → sequence (drop at draft) at ≡ Malformed at
  unfolding sequence
  none g =
      rw (drop-cons draft at 0 h)
      (simp (
        le-ltb (get_or draft at 0) 0x80 (omega arith),
        le-ltb (get_or draft at 0) 0xC2 (omega arith),
        le-ltb (get_or draft at 0) 0xE0 (omega arith),
        le-ltb (get_or draft at 0) 0xF0 (omega arith),
        le-ltb (get_or draft at 0) 0xF5 g,
      ))

  -- what stands behind the first byte
  abbrev rest : (n base : ℕ) → Sequence
  rest n base =
      continued n (lowest (get_or draft at 0)) (highest (get_or draft at 0)) (get_or draft at 0 - base) (drop (at + 1) draft) (at + 1)

  -- the same, with what was asked of the first byte
  pub rest_is :
      (n base low high number : ℕ) → low ≡ lowest (get_or draft at 0) → high ≡ highest (get_or draft at 0) → number ≡ get_or draft at 0 - base
      → continued n low high number (drop (at + 1) draft) (at + 1) ≡ rest n base
  rest_is n base low high number l g e = rw (l, g, e) refl

  pub two : 0xC2 ≤ get_or draft at 0 → get_or draft at 0 < 0xE0 → sequence (drop at draft) at ≡ rest 1 0xC0
  two g l = rw (drop-cons draft at 0 h, add-one) (begins_two (get_or draft at 0) (drop (suc at) draft) at g l)

  pub three : 0xE0 ≤ get_or draft at 0 → get_or draft at 0 < 0xF0 → sequence (drop at draft) at ≡ rest 2 0xE0
  three g l = rw (drop-cons draft at 0 h, add-one) (begins_three (get_or draft at 0) (drop (suc at) draft) at g l)

  pub four : 0xF0 ≤ get_or draft at 0 → get_or draft at 0 ≤ 0xF4 → sequence (drop at draft) at ≡ rest 3 0xF0
  four g l = rw (drop-cons draft at 0 h, add-one) (begins_four (get_or draft at 0) (drop (suc at) draft) at g l)

-- what is in hand leaves room for the bits that are still to come
pub room : (v b n : ℕ) → b < 64 → 0 < n → (v + 1) * 64 ^ n ≤ 2 ^ 21 → (v * 64 + b + 1) * 64 ^ (n - 1) ≤ 2 ^ 21
room v b zero h p r = absurd (not-suc-le-zero p)
room v b (suc n) h p r =
    let less : suc n - 1 ≡ n = omega arith in
    let more : (v * 64 + b + 1) * 64 ^ n ≤ (v + 1) * 64 * 64 ^ n = mul-le-mul_right (64 ^ n) (omega arith) in
    let same : (v + 1) * 64 * 64 ^ n ≡ (v + 1) * 64 ^ suc n =
    mul_assoc (v + 1) 64 (64 ^ n) ∙ ap (λ p. (v + 1) * p) (sym (pow-succ' 64 n)) in
    rw less (omega arith)

-- and so it is small
pub small : (v n : ℕ) → (v + 1) * 64 ^ n ≤ 2 ^ 21 → v < 2 ^ 21
small v n r =
    let more : v + 1 ≤ (v + 1) * 64 ^ n = le-mul_of_pos_right (v + 1) (one-le-pow n 64 (omega arith)) in omega arith

-- at most three are wanted
pub few : (v n : ℕ) → (v + 1) * 64 ^ n ≤ 2 ^ 21 → n ≤ 3
few v zero r = omega arith
few v (suc zero) r = omega arith
few v (suc (suc zero)) r = omega arith
few v (suc (suc (suc zero))) r = omega arith
few v (suc (suc (suc (suc n)))) r =
    let least : 1 ≤ 64 ^ n = one-le-pow n 64 (omega arith) in
    let one = pow-succ' 64 n in
    let two = pow-succ' 64 (suc n) in
    let three = pow-succ' 64 (suc (suc n)) in
    let four = pow-succ' 64 (suc (suc (suc n))) in
    let most : 1 * 64 ^ suc (suc (suc (suc n))) ≤ (v + 1) * 64 ^ suc (suc (suc (suc n))) = mul-le-mul_right _ (omega arith) in
    absurd (omega arith)

-- a sequence by its first byte
pub ruleset sequences = (nothing, single, stray, none, two, three, four)

-- its continuation bytes, and room for them
pub ruleset continuing = (done, out, below, above, onward, room, small, few)
