-- Bytes as one number (specs/Marks.antt): a number is that of its own bytes, the numbers of a name's mark are those of its bytes where it
-- stands, and the bytes between are stirred in four at a time.
use mathlib.Core.Path.{◌≡◌, refl, sym}
use mathlib.Core.List.{List, [], ◌∷◌}
use Prim.Native.Nat.{ℕ, zero, suc, ◌+◌, ◌-◌, ◌*◌, ◌/◌, ◌^◌, ◌<◌, ◌≤◌}
use native.Mathlib.Nat.{pow-suc}
use native.Mathlib.Omega.{arith}
use lib.Arith.{lt-one}
use lib.ListN.{length, get_or, take, drop, length-drop}
use lib.Seq.{take_all, drop-drop, length-take-le}
use borrow.Author.Tests.{lt-ltb, le-ltb, ne_eqb}
use Rattle.tokens.specs.Runs.{bytes_of}
use Rattle.names.specs.Marks.{number_of, few_of, first_of, last_of, stir, blocks}

-- a number is that of its bytes
number_of_bytes : (n w : ℕ) → w < 256 ^ n → number_of (bytes_of n w) ≡ w
unfolding bytes_of number_of
number_of_bytes zero w h = sym (lt-one h)
number_of_bytes (suc n) w h =
    let l = rw (pow-suc 256 n) at h in
    omega (arith, number_of_bytes n (w / 256) (omega arith))

pub four_number : (w : ℕ) (l : List ℕ) → bytes_of 4 w ≡ l → w < 0x100000000 → w ≡ number_of l
four_number w l e h = rw (← e) (sym (number_of_bytes 4 w h))

-- the length of a name that stands at `at`
pub length_name : (s : List ℕ) (at n : ℕ) → at + n ≤ length s → length (take n (drop at s)) ≡ n
length_name s at n h = length-take-le n (drop at s) (rw length-drop (omega arith))

-- four bytes more are stirred in, if others follow
pub blocks_more : (h : ℕ) (l : List ℕ) → 4 < length l → blocks h l ≡ blocks (stir h (number_of (take 4 l))) (drop 4 l)
unfolding blocks
blocks_more h (a ∷ b ∷ c ∷ d ∷ e ∷ l) g = refl
blocks_more h (a ∷ b ∷ c ∷ d ∷ []) g = absurd (omega arith)
blocks_more h (a ∷ b ∷ c ∷ []) g = absurd (omega arith)
blocks_more h (a ∷ b ∷ []) g = absurd (omega arith)
blocks_more h (a ∷ []) g = absurd (omega arith)
blocks_more h [] g = absurd (omega arith)

pub blocks_none : (h : ℕ) (l : List ℕ) → length l ≤ 4 → blocks h l ≡ h
unfolding blocks
blocks_none h (a ∷ b ∷ c ∷ d ∷ e ∷ l) g = absurd (omega arith)
blocks_none h (a ∷ b ∷ c ∷ d ∷ []) g = refl
blocks_none h (a ∷ b ∷ c ∷ []) g = refl
blocks_none h (a ∷ b ∷ []) g = refl
blocks_none h (a ∷ []) g = refl
blocks_none h [] g = refl

-- a name, and its numbers
module _ (name : List ℕ) where
  pub few_bytes :
      (length name ≡ 0 → ⊥)
      → few_of name ≡ get_or name 0 0 + get_or name (length name / 2) 0 * 0x100 + get_or name (length name - 1) 0 * 0x10000
  unfolding few_of
  few_bytes h = rw (ne_eqb (length name) 0 h)

  pub first_short : length name < 4 → first_of name ≡ few_of name
  unfolding first_of
  first_short h = rw (lt-ltb (length name) 4 h)

  pub first_long : 4 ≤ length name → first_of name ≡ number_of (take 4 name)
  unfolding first_of
  first_long h = rw (le-ltb (length name) 4 h)

  pub last_short : length name < 4 → last_of name ≡ 0
  unfolding last_of
  last_short h = rw (lt-ltb (length name) 4 h)

  pub last_long : 4 ≤ length name → last_of name ≡ number_of (take 4 (drop (length name - 4) name))
  unfolding last_of
  last_long h =
      let all = length-drop (length name - 4) name in
      let whole = take_all 4 (drop (length name - 4) name) (omega arith) in
      rw (le-ltb (length name) 4 h, whole)

  pub blocks_on :
      (h w i : ℕ) → 4 ≤ i → i < length name → w ≡ number_of (take 4 (drop (i - 4) name))
      → blocks (stir h w) (drop (i + 4 - 4) name) ≡ blocks h (drop (i - 4) name)
  blocks_on h w i g l e =
      let next : i + 4 - 4 ≡ i - 4 + 4 = omega arith in
      let long : 4 < length (drop (i - 4) name) = rw length-drop (omega arith) in
      rw (next, ← drop-drop 4 (i - 4) name, e) (sym (blocks_more h (drop (i - 4) name) long))

  pub blocks_done : (h i : ℕ) → length name ≤ i → blocks h (drop (i - 4) name) ≡ h
  blocks_done h i l = blocks_none h (drop (i - 4) name) (rw length-drop (omega arith))
