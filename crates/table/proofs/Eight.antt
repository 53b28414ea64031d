-- Of eight bytes those behind the first `n` are zeros if and only if their number has no more than `n` bytes; and bytes are zeros if and
-- only if their bits together are 0.
use mathlib.Core.Path.{◌≡◌, refl, sym, ◌∙◌}
use mathlib.Core.Bool.{◌&&◌, and_assoc, and-true}
use mathlib.Core.List.{List, [], ◌∷◌}
use Prim.Native.Nat.{ℕ, zero, suc, ◌+◌, ◌-◌, ◌*◌, ◌/◌, ◌%◌, ◌^◌, ◌<◌, ◌≤◌}
use native.Mathlib.Omega.{arith}
use native.Mathlib.Nat.{pow-suc, div-eq_of_lt, lt-div-mul-add}
use Rattle.std.proofs.lemmas.Nat.{pow-add, pow_pos}
use lib.Bits.{bit_or, or_add_and, and_le_l, and_le_r}
use lib.Dec.{ltb, eqb}
use lib.ListN.{take, drop}
use lib.Seq.{drop-drop}
use borrow.Author.Tests.{lt-ltb, le-ltb, eq-eqb, ne_eqb, eqb-true}
use Rattle.chars.proofs.Cases.{either, by_bound}
use Rattle.std.specs.List.{fold}
use Rattle.tokens.specs.Runs.{bytes_of}
use Rattle.table.specs.Table.{all_below}
use Rattle.table.proofs.Rows.{drop_take}

-- two tests of numbers that pass together
same_test : (a b c d : ℕ) → (a < b → c < d) → (c < d → a < b) → ltb a b ≡ ltb c d
same_test a b c d to from =
    by_bound c d
    (λ l. lt-ltb a b (from l) ∙ sym (lt-ltb c d l))
    (λ g. le-ltb a b (by_bound a b (λ l. absurd (omega (arith, to l))) (λ k. k)) ∙ sym (le-ltb c d g))

below_one : (w : ℕ) → ltb w 1 ≡ eqb w 0
below_one w =
    by_bound w 1 (λ l. lt-ltb w 1 l ∙ sym (eq-eqb w 0 (omega arith))) (λ g. le-ltb w 1 g ∙ sym (ne_eqb w 0 (λ e. omega arith)))

high_zeros : (m n w : ℕ) → m ≤ n → w < 256 ^ n → all_below 1 (drop m (bytes_of n w)) ≡ ltb w (256 ^ m)
unfolding all_below bytes_of
high_zeros zero zero w h l = sym (lt-ltb w 1 l)
high_zeros zero (suc n) w h l =
    let k = rw (pow-suc 256 n) at l in
    rw (high_zeros zero n (w / 256) (omega arith) (omega arith))
    (by_bound (w % 256) 1
    (λ t. rw (lt-ltb (w % 256) 1 t) (same_test (w / 256) 1 w 1 (λ u. omega arith) (λ u. omega arith)))
    (λ t. rw (le-ltb (w % 256) 1 t) (sym (le-ltb w 1 (omega arith)))))
high_zeros (suc m) zero w h l = absurd (omega arith)
high_zeros (suc m) (suc n) w h l =
    let k = rw (pow-suc 256 n) at l in
    high_zeros m n (w / 256) (omega arith) (omega arith)
    ∙ same_test (w / 256) (256 ^ m) w (256 ^ suc m) (λ t. omega arith) (λ t. omega arith)

-- two numbers are both 0 if and only if their bits together are
or_zero : (x y : ℕ) → (eqb x 0 && eqb y 0) ≡ eqb (bit_or x y) 0
or_zero x y =
    let sum = or_add_and x y in
    let left = and_le_l x y in
    let right = and_le_r x y in
    by_bound (bit_or x y) 1
    (λ h. rw (eq-eqb x 0 (omega arith), eq-eqb y 0 (omega arith), eq-eqb (bit_or x y) 0 (omega arith)))
    (λ h. rw (ne_eqb (bit_or x y) 0 (λ e. omega arith)) (either (eqb x 0)
    (λ t. rw (t, ne_eqb y 0 (λ e. omega (arith, eqb-true x 0 t))))
    (λ t. rw t)))

bytes_pow : (n : ℕ) → 2 ^ (8 * n) ≡ 256 ^ n
bytes_pow zero = refl
bytes_pow (suc n) =
    let more : 8 * suc n ≡ 8 * n + 8 = omega arith in
    rw (more, pow-add 2 (8 * n) 8, bytes_pow n, pow-suc 256 n)

-- a number has no more than `n` bytes if and only if none is left without these
pub no_more_bytes : (w n : ℕ) → ltb w (256 ^ n) ≡ eqb (w / 2 ^ (8 * n)) 0
no_more_bytes w n =
    let some = pow_pos (8 * n) in
    let below : w < w / 2 ^ (8 * n) * 2 ^ (8 * n) + 2 ^ (8 * n) = lt-div-mul-add some in
    by_bound w (2 ^ (8 * n))
    (λ l. rw (← bytes_pow n, lt-ltb w (2 ^ (8 * n)) l, div-eq_of_lt l))
    (λ g.
    rw (← bytes_pow n, le-ltb w (2 ^ (8 * n)) g)
    (sym (ne_eqb (w / 2 ^ (8 * n)) 0 (λ z. let low = rw z at below in omega arith))))

module _ (s : List ℕ) (at w : ℕ) (e : bytes_of 8 w ≡ take 8 (drop at s)) (small : w < 2 ^ 64) where
  -- the number of eight bytes, and those behind the first `n`
  pub behind_zeros : (n : ℕ) → n ≤ 8 → all_below 1 (take (8 - n) (drop (at + n) s)) ≡ ltb w (256 ^ n)
  behind_zeros n h =
      let whole : n + (8 - n) ≡ 8 = omega arith in
      rw (← drop-drop n at s, ← drop_take n (8 - n) (drop at s), whole, ← e) (high_zeros n 8 w h small)

-- the bits of all bytes together are 0 if and only if each byte is
joined_zeros : (a : ℕ) (s : List ℕ) → eqb (fold bit_or a s) 0 ≡ eqb a 0 && all_below 1 s
unfolding all_below
joined_zeros a [] = sym (and-true (eqb a 0))
joined_zeros a (x ∷ s) =
    rw (joined_zeros (bit_or a x) s, ← or_zero a x, below_one x) (and_assoc (eqb a 0) (eqb x 0) (all_below 1 s))

pub all_zeros : (s : List ℕ) → eqb (fold bit_or 0 s) 0 ≡ all_below 1 s
all_zeros s = joined_zeros 0 s
