-- A whole sequence has just the bytes that its number is re-encoded in: each continuation byte adds six bits, which division by 64 takes
-- off again. So re-encoding changes no byte of a character that was not joined from CR LF or from two surrogates, which are longer.
use mathlib.Core.Path.{◌≡◌, refl, ◌∙◌, ap}
use mathlib.Core.Bool.{true}
use mathlib.Core.List.{List, [], ◌∷◌}
use Prim.Native.Nat.{ℕ, zero, suc, ◌+◌, ◌-◌, ◌*◌, ◌/◌, ◌%◌, ◌<◌, ◌≤◌}
use native.Mathlib.Omega.{arith}
use lib.Dec.{ltb, eqb}
use lib.ListN.{length, get_or, take, drop}
use borrow.Author.Tests.{ltb-true, ltb-false}
use Rattle.chars.specs.Choice.{within}
use Rattle.chars.specs.Character.{continued, sequence, lowest, highest, encoded}
use Rattle.chars.specs.Character.{high, low, paired, judged, carriage, character}
use Rattle.chars.specs.Character.{Sequence}
use Rattle.chars.specs.Character.{Whole, Malformed}
use Rattle.chars.specs.Character.{Clean}
use Rattle.chars.proofs.Cases.{by_test}
use Rattle.chars.proofs.Sequences.{following}
use Rattle.chars.proofs.Extent.{malformed, within_true, lowest_least, highest_most, so_many, sequence_sound, three_bytes}
use Rattle.chars.proofs.Extent.{encoded_one, encoded_two, encoded_three, encoded_four, by_range, encoded_size}
use Rattle.chars.proofs.Characters.{refused, ended}

-- a number without its last `n` times six bits, and the bytes of those bits
abbrev lead : (n number : ℕ) → ℕ
lead zero number = number
lead (suc n) number = lead n number / 64

abbrev tails : (n number : ℕ) → List ℕ
tails zero number = []
tails (suc n) number = (0x80 + lead n number % 64) ∷ tails n number

parts :
    (n low high v : ℕ) (bytes : List ℕ) (place number after : ℕ) → 0x80 ≤ low → high ≤ 0xBF
    → continued n low high v bytes place ≡ Whole number after → (v ≡ lead n number) × (take n bytes ≡ tails n number)
unfolding continued
parts zero low high v bytes place number after g h e = (cc, refl)
parts (suc n) low high v [] place number after g h e = malformed e
parts (suc n) low high v (b ∷ bytes) place number after g h e =
    by_test (within low high b)
    (λ t e.
    let r = within_true low high b t in
    let p = parts n 0x80 0xBF (v * 64 + (b - 0x80)) bytes (suc place) number after (omega arith) (omega arith) e in
    let is : b ≡ 0x80 + lead n number % 64 = omega arith in
    (omega arith, cc p.1))
    (λ t e. malformed e)
    e

-- the range of a number by the bytes that it takes
ranged :
    (n : ℕ)
    → (length (encoded n) ≡ 2 → (0x80 ≤ n) × (n < 0x800))
    × (length (encoded n) ≡ 3 → (0x800 ≤ n) × (n < 0x10000))
    × (length (encoded n) ≡ 4 → 0x10000 ≤ n)
ranged n =
    by_range n
    (λ l. omega (arith, ap length (encoded_one n l)))
    (λ g l. omega (arith, ap length (encoded_two n g l)))
    (λ g l. omega (arith, ap length (encoded_three n g l)))
    (λ g. omega (arith, ap length (encoded_four n g)))

-- A sequence of two, three or four bytes.
module _ (b : ℕ) (bytes : List ℕ) (place number after : ℕ) (whole : sequence (b ∷ bytes) place ≡ Whole number after) where
  several :
      (n base : ℕ) → following b bytes place n base ≡ Whole number after
      → (b - base ≡ lead n number) × (take (after - place) (b ∷ bytes) ≡ b ∷ tails n number) × (length (encoded number) ≡ suc n)
  several n base e =
      let m = so_many b bytes place number after n base e in
      let k : after - place ≡ suc n = omega arith in
      let p = parts n (lowest b) (highest b) (b - base) bytes (suc place) number after (lowest_least b) (highest_most b) e in
      (p.0, rw k (ap (λ c. b ∷ c) p.1), omega (arith, (sequence_sound (b ∷ bytes) place number after whole).so_many))

  two : 0xC0 ≤ b → following b bytes place 1 0xC0 ≡ Whole number after → take (after - place) (b ∷ bytes) ≡ encoded number
  two g e =
      let s = several 1 0xC0 e in
      let r = (ranged number).0 s.2 in
      let first : b ≡ 0xC0 + number / 64 = omega (arith, s.0) in
      s.1 ∙ rw (encoded_two number r.0 r.1, first)

  three : 0xE0 ≤ b → following b bytes place 2 0xE0 ≡ Whole number after → take (after - place) (b ∷ bytes) ≡ encoded number
  three g e =
      let s = several 2 0xE0 e in
      let r = (ranged number).1 s.2 in
      let first : b ≡ 0xE0 + number / 4096 = omega (arith, s.0) in
      s.1 ∙ rw (encoded_three number r.0 r.1, first)

  four : 0xF0 ≤ b → following b bytes place 3 0xF0 ≡ Whole number after → take (after - place) (b ∷ bytes) ≡ encoded number
  four g e =
      let s = several 3 0xF0 e in
      let first : b ≡ 0xF0 + number / 262144 = omega (arith, s.0) in
      let second : number / 64 / 64 ≡ number / 4096 = omega arith in
      s.1 ∙ rw (encoded_four number ((ranged number).2 s.2), first, second)

pub sequence_kept :
    (bytes : List ℕ) (place number after : ℕ) → sequence bytes place ≡ Whole number after → take (after - place) bytes ≡ encoded number
unfolding sequence
sequence_kept [] place number after e = malformed e
sequence_kept (b ∷ bytes) place number after e =
    by_test (ltb b 0x80)
    (λ t e.
    let p : b ≡ number = cc in
    let q : suc place ≡ after = cc in
    let k : after - place ≡ 1 = omega arith in
    rw (k, encoded_one number (omega (arith, ltb-true b 0x80 t)), p))
    (λ t e2. by_test (ltb b 0xC2)
    (λ u e. malformed e)
    (λ u e2. by_test (ltb b 0xE0)
    (λ w e2. two b bytes place number after e (omega (arith, ltb-false b 0xC2 u)) e2)
    (λ w e2. by_test (ltb b 0xF0)
    (λ x e2. three b bytes place number after e (ltb-false b 0xE0 w) e2)
    (λ x e2. by_test (ltb b 0xF5)
    (λ y e2. four b bytes place number after e (ltb-false b 0xF0 x) e2)
    (λ y e. malformed e)
    e2) e2) e2) e2) e

-- A character that takes as many bytes as it is re-encoded in.
module _ (bytes : List ℕ) (place number after : ℕ) (size : after ≡ place + length (encoded number)) where
  -- two surrogates take six
  joined :
      (v a : ℕ) (s : Sequence) → sequence bytes place ≡ Whole v a → high v ≡ true → sequence (drop (a - place) bytes) a ≡ s
      → paired place v s ≡ Clean number after → ⊥
  unfolding paired
  joined v a (Malformed bad) p t q e = refused e
  joined v a (Whole w c) p t q e =
      by_test (low w)
      (λ l e.
      let to : c ≡ after = cc in
      let r = within_true 0xD800 0xDBFF v t in
      let k = within_true 0xDC00 0xDFFF w l in
      let first = three_bytes bytes place v a p (omega arith) (omega arith) in
      let second = three_bytes (drop (a - place) bytes) a w c q (omega arith) (omega arith) in
      omega (arith, encoded_size number))
      (λ l e. refused e)
      e

  plainly :
      (s : Sequence) → sequence bytes place ≡ s → judged place s bytes ≡ Clean number after
      → take (after - place) bytes ≡ encoded number
  unfolding judged
  plainly (Malformed bad) p e = refused e
  plainly (Whole v a) p e =
      by_test (high v)
      (λ t e. absurd (joined v a (sequence (drop (a - place) bytes) a) p t refl e))
      (λ t e. by_test (low v)
      (λ l e. refused e)
      (λ l e. let same : Whole v a ≡ Whole number after = cc in sequence_kept bytes place number after (p ∙ same))
      e)
      e

pub kept :
    (bytes : List ℕ) (place number after : ℕ) → character bytes place ≡ Clean number after
    → after ≡ place + length (encoded number) → take (after - place) bytes ≡ encoded number
unfolding character carriage
kept [] place number after e size = ended e
kept (b ∷ bytes) place number after e size =
    by_test (eqb b 0)
    (λ t e. refused e)
    (λ t e. by_test (eqb b 0x0D)
    (λ r e. by_test (eqb (get_or bytes 0 0) 0x0A)
    (λ f e.
    let p : 0x0A ≡ number = cc in
    let q : place + 2 ≡ after = cc in
    absurd (omega (arith, ap length (encoded_one number (omega arith)))))
    (λ f e. refused e)
    e)
    (λ r e. plainly (b ∷ bytes) place number after size (sequence (b ∷ bytes) place) refl e)
    e)
    e
