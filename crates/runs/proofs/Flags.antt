-- Why the first flag tells how many bytes pass a test. The zeros below the lowest bit of a number that is set are bytes of 0, eight by
-- eight; and where the flags of eight bytes are 0, the bytes pass the test. Of a number and the one before it the bytes above the lowest
-- that is not 0 are the same, and the zeros below it are 0 in one of them, so `and` of both changes that byte alone. Assumes nothing.
use mathlib.Core.Path.{◌≡◌, refl, sym, ◌∙◌, ap, ap₂}
use mathlib.Core.Bool.{Bool, true}
use mathlib.Core.List.{List}
use Prim.Native.Nat.{ℕ, zero, suc, ◌+◌, ◌-◌, ◌*◌, ◌/◌, ◌%◌, ◌^◌, ◌<◌, ◌≤◌}
use native.Mathlib.Omega.{arith}
use native.Mathlib.Nat.{mod-one, mod-lt, div-add-mod', suc-mul}
use native.Mathlib.Numerals.{add-one}
use lib.Pow.{mod-pow-add}
use lib.Arith.{digits_div}
use lib.Bits.{bit_and, and_block, and_lt, and_self}
use lib.Count.{under, count_trailing_zeros, trailing_le}
use lib.ListN.{length, get_or, take, drop}
use lib.Seq.{get_or-take, get_or-drop}
use Rattle.chars.proofs.Cases.{by_bound}
use Rattle.tokens.specs.Runs.{bytes_of}
use Rattle.runs.specs.Bytes.{Flags, Looked, Passed}

doubled :
    (d t n j : ℕ) → n % 2 ≡ d → suc j ≤ under d t → (j ≤ t → n / 2 % 2 ^ j ≡ 0) → n % 2 ^ suc j ≡ 0
doubled zero t n j e h so =
    let l : j ≤ t = omega arith in
    rw (← add-one j) (omega (arith, mod-pow-add n j 1, so l))
doubled (suc d) t n j e h so = absurd (omega arith)

-- as many bits of a number as it has trailing zeros
trailing_bits : (j k n : ℕ) → j ≤ count_trailing_zeros k n → n % 2 ^ j ≡ 0
unfolding count_trailing_zeros
trailing_bits zero k n h = mod-one n
trailing_bits (suc j) zero n h = absurd (omega arith)
trailing_bits (suc j) (suc k) n h =
    doubled (n % 2) (count_trailing_zeros k (n / 2)) n j refl h (λ l. trailing_bits j k (n / 2) l)

zero_bytes : (m r n : ℕ) → n % 2 ^ (r * 8) ≡ 0 → (i : ℕ) → i < r → get_or (bytes_of m n) i 0 ≡ 0
unfolding bytes_of
zero_bytes zero r n e i l = refl
zero_bytes (suc m) zero n e i l = absurd (omega arith)
zero_bytes (suc m) (suc r) n e zero l =
    let whole = rw (suc-mul r 8) at e in
    omega (arith, mod-pow-add n (r * 8) 8)
zero_bytes (suc m) (suc r) n e (suc i) l =
    let whole = rw (suc-mul r 8) at e in
    zero_bytes m r (n / 256) (omega (arith, mod-pow-add n (r * 8) 8)) i (omega arith)

of_zero : (m i : ℕ) → get_or (bytes_of m 0) i 0 ≡ 0
unfolding bytes_of
of_zero zero i = refl
of_zero (suc m) zero = refl
of_zero (suc m) (suc i) = of_zero m i

-- as many bytes of a number as it has trailing zeros, eight to a byte
pub trailing_bytes : (k n r : ℕ) → r * 8 ≤ count_trailing_zeros k n → (i : ℕ) → i < r → get_or (bytes_of 8 n) i 0 ≡ 0
trailing_bytes k n r h = zero_bytes 8 r n (trailing_bits (r * 8) k n h)

-- as many bits as are 0 are trailing zeros
bits_trailing : (j k n : ℕ) → j ≤ k → n % 2 ^ j ≡ 0 → j ≤ count_trailing_zeros k n
unfolding count_trailing_zeros
bits_trailing zero k n l e = omega arith
bits_trailing (suc j) zero n l e = absurd (omega arith)
bits_trailing (suc j) (suc k) n l e =
    let whole = rw (← add-one j) at e in
    let split = mod-pow-add n j 1 in
    let even : n % 2 ≡ 0 = omega arith in
    rw even (omega (arith, bits_trailing j k (n / 2) (omega arith) (omega arith)))

-- bytes of 0 are bits of 0
bytes_zero : (m r n : ℕ) → r ≤ m → ((i : ℕ) → i < r → get_or (bytes_of m n) i 0 ≡ 0) → n % 2 ^ (r * 8) ≡ 0
unfolding bytes_of
bytes_zero m zero n l each = mod-one n
bytes_zero zero (suc r) n l each = absurd (omega arith)
bytes_zero (suc m) (suc r) n l each =
    rw (suc-mul r 8)
    (omega (
      arith,
      mod-pow-add n (r * 8) 8,
      each 0 (omega arith),
      bytes_zero m r (n / 256) (omega arith) (λ i k. each (suc i) (omega arith)),
    ))

-- the byte behind them is not 0, unless the number is
pub first_byte :
    (n : ℕ) → n < 2 ^ 64 → (n ≡ 0 → ⊥)
    → (count_trailing_zeros 64 n / 8 < 8) × (get_or (bytes_of 8 n) (count_trailing_zeros 64 n / 8) 0 ≡ 0 → ⊥)
first_byte n h some =
    let t = trailing_le 64 n in
    let low = trailing_bits (count_trailing_zeros 64 n) 64 n (omega arith) in
    let less : count_trailing_zeros 64 n < 64 =
    by_bound (count_trailing_zeros 64 n) 64 (λ l. l)
    (λ g. let all : count_trailing_zeros 64 n ≡ 64 = omega arith in absurd (some (omega (arith, rw all at low)))) in
    let r = count_trailing_zeros 64 n / 8 in (
      omega arith,
      λ e.
          let more =
          bits_trailing (suc r * 8) 64 n (omega arith)
          (bytes_zero 8 (suc r) n (omega arith)
          (λ i l.
          by_bound i r (trailing_bytes 64 n r (omega arith) i)
          (λ g. let same : r ≡ i = omega arith in rw same at e))) in
          omega arith,
    )

-- of a number and the one before it the bytes are those of the number, but for the first that is not 0
pub but_first :
    (m n k i : ℕ) → ((j : ℕ) → j < k → get_or (bytes_of m n) j 0 ≡ 0) → (get_or (bytes_of m n) k 0 ≡ 0 → ⊥) → (i ≡ k → ⊥)
    → get_or (bytes_of m (bit_and n (n - 1))) i 0 ≡ 0 → get_or (bytes_of m n) i 0 ≡ 0
unfolding bytes_of
but_first zero n k i none some other e = refl
but_first (suc m) n zero zero none some other e = absurd (other refl)
but_first (suc m) n zero (suc i) none some other e =
    let q = n / 256 in
    let b = n % 256 in
    let h : b < 256 = mod-lt n (omega arith) in
    let low : 1 ≤ b = by_bound 0 b (λ l. l) (λ g. absurd (some (omega arith))) in
    let now : n ≡ q * 256 + b = sym (div-add-mod' n 256) in
    let last : n - 1 ≡ q * 256 + (b - 1) = omega arith in
    let both = ap₂ bit_and now last ∙ and_block 8 q q b (b - 1) h (omega arith) in
    let small = and_lt 8 b (b - 1) h (omega arith) in
    let rest = ap (λ x. x / 256) both ∙ (digits_div (bit_and q q) small ∙ and_self q) in
    rw rest at e
but_first (suc m) n (suc k) zero none some other e = none 0 (omega arith)
but_first (suc m) n (suc k) (suc i) none some other e =
    let q = n / 256 in
    let first : n % 256 ≡ 0 = none 0 (omega arith) in
    let high : 1 ≤ q =
    by_bound 0 q (λ l. l) (λ g. let none_left : q ≡ 0 = omega arith in absurd (some (rw none_left (of_zero m k)))) in
    let now : n ≡ q * 256 + 0 = omega (arith, div-add-mod' n 256) in
    let last : n - 1 ≡ (q - 1) * 256 + 255 = omega (arith, div-add-mod' n 256) in
    let both = ap₂ bit_and now last ∙ and_block 8 q (q - 1) 0 255 (omega arith) (omega arith) in
    let rest = ap (λ x. x / 256) both ∙ digits_div (bit_and q (q - 1)) (and_lt 8 0 255 (omega arith) (omega arith)) in
    but_first m q k i (λ j l. none (suc j) (omega arith)) some (λ same. other (ap suc same)) (rw rest at e)

pub none_passed : (test : ℕ → Bool) (draft : List ℕ) (at : ℕ) → at ≤ length draft → Passed test draft at at
none_passed test draft at h = record { on = omega arith; there = h; each = λ i g l. absurd (omega arith) }

-- one byte more
pub one_passed :
    (test : ℕ → Bool) (draft : List ℕ) (at i : ℕ) → Passed test draft at i → i < length draft → test (get_or draft i 0) ≡ true
    → Passed test draft at (i + 1)
one_passed test draft at i p h t =
    record {
      on = omega (arith, p.on);
      there = omega arith;
      each =
          λ j g k.
          by_bound j i (p.each j g) (λ m. let same : i ≡ j = omega arith in rw same at t);
    }

-- what is passed behind what has been passed
pub both_passed :
    (test : ℕ → Bool) (draft : List ℕ) (at i r : ℕ) → Passed test draft at i → Passed test draft i r → Passed test draft at r
both_passed test draft at i r p q =
    record {
      on = omega (arith, p.on, q.on);
      there = q.there;
      each = λ j g k. by_bound j i (p.each j g) (λ m. q.each j m k);
    }

-- flags of eight bytes of a draft
pub looked :
    (test : ℕ → Bool) (draft : List ℕ) (at w flags : ℕ) → bytes_of 8 w ≡ take 8 (drop at draft) → Flags test w flags
    → Looked test draft at flags
looked test draft at w flags e f j l none =
    let s = ap (λ bytes. get_or bytes j 0) e ∙ (get_or-take 8 (drop at draft) j 0 l ∙ get_or-drop at draft j 0) in
    rw s at (f j l none)

-- behind what has been passed, the first `n` of eight bytes, where no flag stands
pub looked_passed :
    (test : ℕ → Bool) (draft : List ℕ) (at i flags n : ℕ) → Passed test draft at i → i + 8 ≤ length draft
    → Looked test draft i flags → n ≤ 8 → ((j : ℕ) → j < n → get_or (bytes_of 8 flags) j 0 ≡ 0) → Passed test draft at (i + n)
looked_passed test draft at i flags n p h f l none =
    let o = p.on in
    record {
      on = omega arith;
      there = omega arith;
      each =
          λ j g k.
          by_bound j i (p.each j g)
          (λ m.
          let same : i + (j - i) ≡ j = omega arith in
          rw same at (f (j - i) (omega arith) (none (j - i) (omega arith))));
    }

pub more_passed :
    (test : ℕ → Bool) (draft : List ℕ) (at i w flags n : ℕ) → Passed test draft at i → i + 8 ≤ length draft
    → bytes_of 8 w ≡ take 8 (drop i draft) → Flags test w flags → n ≤ 8 → ((j : ℕ) → j < n → get_or (bytes_of 8 flags) j 0 ≡ 0)
    → Passed test draft at (i + n)
more_passed test draft at i w flags n p h e f = looked_passed test draft at i flags n p h (looked test draft i w flags e f)

-- where there is no flag at all
pub no_flag : (flags : ℕ) → flags ≡ 0 → (j : ℕ) → j < 8 → get_or (bytes_of 8 flags) j 0 ≡ 0
no_flag flags e j l = rw e (of_zero 8 j)
