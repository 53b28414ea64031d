-- Up to eight bytes are told apart by their number and the two numbers of their mark (specs/Marks.antt): of fewer than four bytes the
-- first, the middle and the last are all, and four to eight are the first four and the last four.
use mathlib.Core.Path.{◌≡◌, refl, sym, ◌∙◌, ap, ap₂}
use mathlib.Core.List.{List, [], ◌∷◌}
use Prim.Native.Nat.{ℕ, suc, ◌+◌, ◌-◌, ◌*◌, ◌/◌, ◌<◌, ◌≤◌}
use native.Mathlib.Omega.{arith}
use lib.ListN.{length, get_or, take, drop, length-take, length-drop}
use lib.Seq.{get_or-take, get_or-drop, ext_get_or}
use borrow.Author.Tests.{lt-ltb, le-ltb, ne_eqb}
use Rattle.chars.proofs.Cases.{by_bound}
use Rattle.names.specs.Marks.{number_of, few_of, first_of, last_of}

-- a list of bytes
abbrev pub Bytes : List ℕ → Type 0
Bytes xs = (i : ℕ) → i < length xs → get_or xs i 0 < 256

-- the lowest byte of a number, and the others
byte_apart : (a b q r : ℕ) → a < 256 → b < 256 → a + 256 * q ≡ b + 256 * r → (a ≡ b) × (q ≡ r)
byte_apart a b q r g h e = (omega arith, omega arith)

numbers_apart :
    (xs ys : List ℕ) → Bytes xs → Bytes ys → length xs ≡ length ys → number_of xs ≡ number_of ys → xs ≡ ys
unfolding number_of
numbers_apart [] [] b c l e = refl
numbers_apart [] (y ∷ ys) b c l e = absurd (omega arith)
numbers_apart (x ∷ xs) [] b c l e = absurd (omega arith)
numbers_apart (x ∷ xs) (y ∷ ys) b c l e =
    let p = byte_apart x y (number_of xs) (number_of ys) (b 0 (omega arith)) (c 0 (omega arith)) e in
    ap₂ ◌∷◌ p.0 (numbers_apart xs ys (λ i h. b (suc i) (omega arith)) (λ i h. c (suc i) (omega arith)) (omega arith) p.1)

pub take_bytes : (k : ℕ) (xs : List ℕ) → Bytes xs → Bytes (take k xs)
take_bytes k xs b i h =
    let l = length-take k xs in
    rw (get_or-take k xs i 0 (omega arith)) (b i (omega arith))

pub drop_bytes : (k : ℕ) (xs : List ℕ) → Bytes xs → Bytes (drop k xs)
drop_bytes k xs b i h =
    let l = length-drop k xs in
    rw (get_or-drop k xs i 0) (b (k + i) (omega arith))

-- four to eight bytes are the first four and the last four
covered :
    (n : ℕ) (xs ys : List ℕ) → 4 ≤ n → n ≤ 8 → take 4 xs ≡ take 4 ys → drop (n - 4) xs ≡ drop (n - 4) ys
    → (i : ℕ) → i < n → get_or xs i 0 ≡ get_or ys i 0
covered n xs ys l m first last i h =
    by_bound i 4 (λ g. sym (get_or-take 4 xs i 0 g) ∙ (ap (λ l. get_or l i 0) first ∙ get_or-take 4 ys i 0 g))
    (λ g.
    let k = i - (n - 4) in
    let z : n - 4 + k ≡ i = omega arith in
    rw (← z) (sym (get_or-drop (n - 4) xs k 0) ∙ (ap (λ l. get_or l k 0) last ∙ get_or-drop (n - 4) ys k 0)))

module _ (n : ℕ) (xs ys : List ℕ) (of-xs : length xs ≡ n) (of-ys : length ys ≡ n) (b : Bytes xs) (c : Bytes ys) where
  few_apart : n < 4 → few_of xs ≡ few_of ys → (i : ℕ) → i < n → get_or xs i 0 ≡ get_or ys i 0
  unfolding few_of
  few_apart l e i h =
      let sums = rw (of-xs, of-ys, ne_eqb n 0 (λ z. omega arith)) at e in
      let low =
      byte_apart (get_or xs 0 0) (get_or ys 0 0) (get_or xs (n / 2) 0 + 256 * get_or xs (n - 1) 0) (get_or ys (n / 2) 0 + 256 * get_or ys (n - 1) 0)
      (b 0 (omega arith)) (c 0 (omega arith)) (omega arith) in
      let high =
      byte_apart (get_or xs (n / 2) 0) (get_or ys (n / 2) 0) (get_or xs (n - 1) 0) (get_or ys (n - 1) 0)
      (b (n / 2) (omega arith)) (c (n / 2) (omega arith)) low.1 in
      by_bound i 1 (λ g. let z : i ≡ 0 = omega arith in rw z low.0)
      (λ g.
      by_bound i (n - 1) (λ k. let z : i ≡ n / 2 = omega arith in rw z high.0) (λ k. let z : i ≡ n - 1 = omega arith in rw z high.1))

  four_apart :
      4 ≤ n → n ≤ 8 → number_of (take 4 xs) ≡ number_of (take 4 ys) → number_of (drop (n - 4) xs) ≡ number_of (drop (n - 4) ys)
      → (i : ℕ) → i < n → get_or xs i 0 ≡ get_or ys i 0
  four_apart l m e f =
      covered n xs ys l m
      (numbers_apart (take 4 xs) (take 4 ys) (take_bytes 4 xs b) (take_bytes 4 ys c) (omega (arith, length-take 4 xs, length-take 4 ys)) e)
      (numbers_apart (drop (n - 4) xs) (drop (n - 4) ys) (drop_bytes (n - 4) xs b) (drop_bytes (n - 4) ys c)
      (omega (arith, length-drop (n - 4) xs, length-drop (n - 4) ys)) f)

  pub told_apart : n ≤ 8 → first_of xs ≡ first_of ys → last_of xs ≡ last_of ys → xs ≡ ys
  unfolding first_of last_of
  told_apart m e f =
      ext_get_or 0 xs ys (of-xs ∙ sym of-ys)
      (λ i h.
      by_bound n 4
      (λ l. few_apart l (rw (of-xs, of-ys, lt-ltb n 4 l) at e) i (omega arith))
      (λ l.
      four_apart l m (rw (of-xs, of-ys, le-ltb n 4 l) at e) (rw (of-xs, of-ys, le-ltb n 4 l) at f) i (omega arith)))
