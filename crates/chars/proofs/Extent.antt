-- How far a sequence reaches, and which numbers it can have: just as many bytes as its number takes when it is re-encoded, since overlong
-- forms are shut out, and never past the draft. Each continuation byte adds six bits to what is in hand.
use mathlib.Core.Path.{◌≡◌, refl, sym, ◌∙◌, ap}
use mathlib.Core.Bool.{true}
use mathlib.Core.List.{List, [], ◌∷◌}
use Prim.Native.Nat.{ℕ, zero, min, suc, ◌+◌, ◌-◌, ◌*◌, ◌^◌, ◌/◌, ◌%◌, ◌<◌, ◌≤◌}
use native.Mathlib.Nat.{mul-le-mul_right, mul_assoc, pow-succ'}
use native.Mathlib.Omega.{arith}
use lib.Dec.{leb, ltb, eqb}
use lib.ListN.{length, get_or, drop}
use lib.Seq.{drop-drop}
use borrow.Author.Tests.{le-leb, lt-leb, leb-true, ltb-true, ltb-false, eqb-true, eqb-false, lt-ltb, le-ltb, ne_eqb}
use Rattle.chars.specs.Choice.{within}
use Rattle.chars.specs.Character.{continued, sequence, lowest, highest, encoded, nearest}
use Rattle.chars.specs.Character.{Whole, Malformed}
use Rattle.chars.proofs.Sequences.{following}
use Rattle.chars.proofs.Cases.{by_test, both, either, by_bound}

-- a malformed sequence is no whole one
pub malformed : {P : Type 0} {bad number after : ℕ} → Malformed bad ≡ Whole number after → P
malformed e = absurd (let z : ◌≡◌ {A = ℕ} 0 1 = cc in omega arith)

-- what is known of a byte in its range
pub within_true : (low high n : ℕ) → within low high n ≡ true → (low ≤ n) × (n ≤ high)
within_true low high n t =
    let two = both (leb low n) (leb n high) t in (leb-true low n two.0, leb-true n high two.1)

-- and the other way
pub inside : (low high n : ℕ) → low ≤ n → n ≤ high → within low high n ≡ true
inside low high n g h = simp (le-leb low n g, le-leb n high h)

-- the first of some continuation bytes, and those behind it
record First (n low high v : ℕ) (bytes : List ℕ) (place number after : ℕ) : Type 0 where
  byte : ℕ
  behind : List ℕ
  are : bytes ≡ byte ∷ behind
  from : low ≤ byte
  to : byte ≤ high
  rest : continued n 0x80 0xBF (v * 64 + (byte - 0x80)) behind (suc place) ≡ Whole number after

first :
    (n low high v : ℕ) (bytes : List ℕ) (place number after : ℕ) → continued (suc n) low high v bytes place ≡ Whole number after
    → First n low high v bytes place number after
unfolding continued
first n low high v [] place number after e = malformed e
first n low high v (b ∷ bytes) place number after e =
    by_test (within low high b)
    (λ t e.
    let r = within_true low high b t in
    record { byte = b; behind = bytes; are = refl; from = r.0; to = r.1; rest = e })
    (λ t e. malformed e)
    e

-- a whole sequence has as many as are wanted
counted :
    (n low high v : ℕ) (bytes : List ℕ) (place number after : ℕ) → continued n low high v bytes place ≡ Whole number after
    → after ≡ place + n
unfolding continued
counted zero low high v bytes place number after e = let q : place ≡ after = cc in omega arith
counted (suc n) low high v bytes place number after e =
    let f = first n low high v bytes place number after e in
    omega (arith, counted n 0x80 0xBF (v * 64 + (f.byte - 0x80)) f.behind (suc place) number after f.rest)

-- six bits for each of `n` continuation bytes
record Spread (n v : ℕ) (bytes : List ℕ) (place number after : ℕ) : Type 0 where
  least : v * 64 ^ n ≤ number
  most : number < (v + 1) * 64 ^ n
  there : after ≤ place + length bytes

-- 64 times `a` at `n` bytes is `a` at one more
shifted : (a n : ℕ) → a * 64 * 64 ^ n ≡ a * 64 ^ suc n
shifted a n = mul_assoc a 64 (64 ^ n) ∙ ap (λ p. a * p) (sym (pow-succ' 64 n))

spread :
    (n v : ℕ) (bytes : List ℕ) (place number after : ℕ) → continued n 0x80 0xBF v bytes place ≡ Whole number after
    → Spread n v bytes place number after
unfolding continued
spread zero v bytes place number after e =
    let p : v ≡ number = cc in
    let q : place ≡ after = cc in
    record { least = omega arith; most = omega arith; there = omega arith }
spread (suc n) v bytes place number after e =
    let f = first n 0x80 0xBF v bytes place number after e in
    let w = v * 64 + (f.byte - 0x80) in
    let r = spread n w f.behind (suc place) number after f.rest in
    let low : v * 64 * 64 ^ n ≤ w * 64 ^ n = mul-le-mul_right (64 ^ n) (omega arith) in
    let high : (w + 1) * 64 ^ n ≤ (v + 1) * 64 * 64 ^ n = mul-le-mul_right (64 ^ n) (omega (arith, f.to)) in
    record {
      least = omega (arith, shifted v n, r.least);
      most = omega (arith, shifted (v + 1) n, r.most);
      there = omega (arith, r.there, ap length f.are);
    }

-- the bytes that a number is re-encoded in
pub encoded_one : (n : ℕ) → n < 0x80 → encoded n ≡ n ∷ []
unfolding encoded
encoded_one n h = simp (lt-ltb n 0x80 h)

pub encoded_two : (n : ℕ) → 0x80 ≤ n → n < 0x800 → encoded n ≡ (0xC0 + n / 64) ∷ (0x80 + n % 64) ∷ []
unfolding encoded
encoded_two n g h = simp (le-ltb n 0x80 g, lt-ltb n 0x800 h)

pub encoded_three :
    (n : ℕ) → 0x800 ≤ n → n < 0x10000 → encoded n ≡ (0xE0 + n / 4096) ∷ (0x80 + n / 64 % 64) ∷ (0x80 + n % 64) ∷ []
unfolding encoded
encoded_three n g h = simp (le-ltb n 0x80 (omega arith), le-ltb n 0x800 g, lt-ltb n 0x10000 h)

pub encoded_four :
    (n : ℕ) → 0x10000 ≤ n
    → encoded n ≡ (0xF0 + n / 262144) ∷ (0x80 + n / 4096 % 64) ∷ (0x80 + n / 64 % 64) ∷ (0x80 + n % 64) ∷ []
unfolding encoded
encoded_four n g = simp (le-ltb n 0x80 (omega arith), le-ltb n 0x800 (omega arith), le-ltb n 0x10000 g)

pub ruleset by_length = (encoded_one, encoded_two, encoded_three, encoded_four)

-- a number is in the range of one, two, three or four bytes
pub by_range {κ} :
    {P : Type κ} (n : ℕ) → (n < 0x80 → P) → (0x80 ≤ n → n < 0x800 → P) → (0x800 ≤ n → n < 0x10000 → P) → (0x10000 ≤ n → P) → P
by_range n one two three four =
    by_bound n 0x80 one (λ g. by_bound n 0x800 (two g) (λ g. by_bound n 0x10000 (three g) four))

pub encoded_size : (n : ℕ) → (1 ≤ length (encoded n)) × (length (encoded n) ≤ 4)
encoded_size n =
    by_range n
    (λ l. rw (encoded_one n l) (omega arith))
    (λ g l. rw (encoded_two n g l) (omega arith))
    (λ g l. rw (encoded_three n g l) (omega arith))
    (λ g. rw (encoded_four n g) (omega arith))

-- a number that is re-encoded as itself, or as the last one
pub nearest_own : (n : ℕ) → n < 0x110000 → nearest n ≡ n
unfolding nearest
nearest_own n h = rw (le-leb n 0x10FFFF (omega arith))

pub nearest_last : (n : ℕ) → 0x110000 ≤ n → nearest n ≡ 0x10FFFF
unfolding nearest
nearest_last n g = rw (lt-leb n 0x10FFFF (omega arith))

-- so it is the lesser of the two
pub nearest_least : (n : ℕ) → nearest n ≡ min n 0x10FFFF
nearest_least n = by_bound n 0x110000 (λ l. nearest_own n l ∙ omega arith) (λ g. nearest_last n g ∙ omega arith)

-- either way it takes as many bytes
pub nearest_length : (n : ℕ) → length (encoded (nearest n)) ≡ length (encoded n)
nearest_length n =
    by_bound n 0x110000
    (λ l. rw (nearest_own n l))
    (λ g. rw (nearest_last n g, encoded_four 0x10FFFF (omega arith), encoded_four n (omega arith)))

-- The range of the second byte, with the bits that the first byte gives: E0 and F0 leave no overlong form, F4 nothing above 10FFFF.
pub lowest_least : (b : ℕ) → 0x80 ≤ lowest b
unfolding lowest
lowest_least b =
    either (eqb b 0xE0)
    (λ t. rw t (omega arith))
    (λ t. rw t (either (eqb b 0xF0) (λ u. rw u (omega arith)) (λ u. rw u (omega arith))))

pub highest_most : (b : ℕ) → highest b ≤ 0xBF
unfolding highest
highest_most b = either (eqb b 0xF4) (λ t. rw t (omega arith)) (λ t. rw t (omega arith))

lowest_three : (b : ℕ) → 0xE0 ≤ b → b < 0xF0 → 0xA0 ≤ lowest b + (b - 0xE0) * 64
lowest_three b g h =
    either (eqb b 0xE0)
    (λ t. unfold lowest in rw t (omega arith))
    (λ t. omega (arith, eqb-false b 0xE0 t, lowest_least b))

lowest_four : (b : ℕ) → 0xF0 ≤ b → 0x90 ≤ lowest b + (b - 0xF0) * 64
lowest_four b g =
    either (eqb b 0xF0)
    (λ t. unfold lowest in rw (ne_eqb b 0xE0 (λ e. omega arith), t) (omega arith))
    (λ t. omega (arith, eqb-false b 0xF0 t, lowest_least b))

highest_four : (b : ℕ) → b ≤ 0xF4 → highest b + (b - 0xF0) * 64 ≤ 0x8F + 4 * 64
highest_four b h =
    either (eqb b 0xF4)
    (λ t. unfold highest in rw t (omega (arith, eqb-true b 0xF4 t)))
    (λ t. omega (arith, eqb-false b 0xF4 t, highest_most b))

-- a whole sequence: its number is in Unicode's range, and it has the bytes that the number is re-encoded in, all of them there
pub record Sound (bytes : List ℕ) (place number after : ℕ) : Type 0 where
  pub small : number < 0x110000
  pub so_many : after ≡ place + length (encoded number)
  pub there : after ≤ place + length bytes
  -- a number of US-ASCII is its own byte
  pub lone : number < 0x80 → get_or bytes 0 0 ≡ number

module _ (b : ℕ) (bytes : List ℕ) (place number after : ℕ) where
  pub so_many : (n base : ℕ) → following b bytes place n base ≡ Whole number after → after ≡ suc place + n
  so_many n base e = counted n (lowest b) (highest b) (b - base) bytes (suc place) number after e

  two : 0xC2 ≤ b → b < 0xE0 → following b bytes place 1 0xC0 ≡ Whole number after → Sound (b ∷ bytes) place number after
  two g h e =
      let f = first 0 (lowest b) (highest b) (b - 0xC0) bytes (suc place) number after e in
      let r = spread 0 ((b - 0xC0) * 64 + (f.byte - 0x80)) f.behind (suc (suc place)) number after f.rest in
      let l = lowest_least b in
      let m = highest_most b in
      let at_least : 0x80 ≤ number = omega (arith, r.least, f.from) in
      let at_most : number < 0x800 = omega (arith, r.most, f.to) in
      record {
        small = omega arith;
        so_many = omega (arith, so_many 1 0xC0 e, ap length (encoded_two number at_least at_most));
        there = omega (arith, r.there, ap length f.are);
        lone = λ h. absurd (omega arith);
      }

  three : 0xE0 ≤ b → b < 0xF0 → following b bytes place 2 0xE0 ≡ Whole number after → Sound (b ∷ bytes) place number after
  three g h e =
      let f = first 1 (lowest b) (highest b) (b - 0xE0) bytes (suc place) number after e in
      let r = spread 1 ((b - 0xE0) * 64 + (f.byte - 0x80)) f.behind (suc (suc place)) number after f.rest in
      let l = lowest_three b g h in
      let k = lowest_least b in
      let m = highest_most b in
      let at_least : 0x800 ≤ number = omega (arith, r.least, f.from) in
      let at_most : number < 0x10000 = omega (arith, r.most, f.to) in
      record {
        small = omega arith;
        so_many = omega (arith, so_many 2 0xE0 e, ap length (encoded_three number at_least at_most));
        there = omega (arith, r.there, ap length f.are);
        lone = λ h. absurd (omega arith);
      }

  four : 0xF0 ≤ b → b ≤ 0xF4 → following b bytes place 3 0xF0 ≡ Whole number after → Sound (b ∷ bytes) place number after
  four g h e =
      let f = first 2 (lowest b) (highest b) (b - 0xF0) bytes (suc place) number after e in
      let r = spread 2 ((b - 0xF0) * 64 + (f.byte - 0x80)) f.behind (suc (suc place)) number after f.rest in
      let l = lowest_four b g in
      let k = lowest_least b in
      let m = highest_four b h in
      let at_least : 0x10000 ≤ number = omega (arith, r.least, f.from) in
      let at_most : number < 0x110000 = omega (arith, r.most, f.to) in
      record {
        small = at_most;
        so_many = omega (arith, so_many 3 0xF0 e, ap length (encoded_four number at_least));
        there = omega (arith, r.there, ap length f.are);
        lone = λ h. absurd (omega arith);
      }

pub sequence_sound :
    (bytes : List ℕ) (place number after : ℕ) → sequence bytes place ≡ Whole number after → Sound bytes place number after
unfolding sequence
sequence_sound [] place number after e = malformed e
sequence_sound (b ∷ bytes) place number after e =
    by_test (ltb b 0x80)
    (λ t e.
    let p : b ≡ number = cc in
    let q : suc place ≡ after = cc in
    let l = ltb-true b 0x80 t in
    record {
      small = omega arith;
      so_many = omega (arith, ap length (encoded_one number (omega arith)));
      there = omega arith;
      lone = λ h. p;
    })
    (λ t e. by_test (ltb b 0xC2)
    (λ t e. malformed e)
    (λ t2 e. by_test (ltb b 0xE0)
    (λ t3 e. two b bytes place number after (ltb-false b 0xC2 t2) (ltb-true b 0xE0 t3) e)
    (λ t3 e. by_test (ltb b 0xF0)
    (λ t4 e. three b bytes place number after (ltb-false b 0xE0 t3) (ltb-true b 0xF0 t4) e)
    (λ t4 e. by_test (ltb b 0xF5)
    (λ t5 e. four b bytes place number after (ltb-false b 0xF0 t4) (omega (arith, ltb-true b 0xF5 t5)) e)
    (λ t5 e. malformed e)
    e) e) e) e) e

-- a surrogate has three bytes
pub three_bytes :
    (bytes : List ℕ) (place number after : ℕ) → sequence bytes place ≡ Whole number after → 0xD800 ≤ number → number ≤ 0xDFFF
    → after ≡ place + 3
three_bytes bytes place number after e g h =
    let s = sequence_sound bytes place number after e in
    omega (arith, ap length (encoded_three number (omega arith) (omega arith)))

-- what is left of a draft behind a whole sequence
pub behind :
    (draft : List ℕ) (at number after : ℕ) → sequence (drop at draft) at ≡ Whole number after
    → drop (after - at) (drop at draft) ≡ drop after draft
behind draft at number after e =
    let s = sequence_sound (drop at draft) at number after e in
    let on : at + (after - at) ≡ after = omega arith in
    drop-drop (after - at) at draft ∙ ap (λ k. drop k draft) on
