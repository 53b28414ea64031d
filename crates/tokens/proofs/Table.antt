-- A fact about every byte: antt computes one test over all of them, and these laws turn the test into the fact at each.
use mathlib.Core.Path.{◌≡◌, ◌∙◌, ap}
use mathlib.Core.Bool.{Bool, true, false, not, ◌&&◌, ◌||◌, false≢true}
use Prim.Native.Nat.{ℕ, zero, suc, ◌<◌}
use native.Mathlib.Omega.{arith}
use lib.Dec.{eqb}
use borrow.Author.Tests.{eqb-true, eqb-false}
use Rattle.chars.proofs.Cases.{both, either}

-- the test passes at every number below `n`
abbrev pub below : (ℕ → Bool) → ℕ → Bool
below f zero = true
below f (suc n) = f n && below f n

pub holds : (f : ℕ → Bool) (n : ℕ) → below f n ≡ true → (k : ℕ) → k < n → f k ≡ true
holds f zero t k h = absurd (omega arith)
holds f (suc n) t k h =
    let two = both (f n) (below f n) t in
    either (eqb k n)
    (λ e. ap f (eqb-true k n e) ∙ two.0)
    (λ e. holds f n two.1 k (omega (arith, eqb-false k n e)))

-- if the first of two tests is passed, so is the second
abbrev pub if_then : Bool → Bool → Bool
if_then s t = not s || t

pub so : (s t : Bool) → if_then s t ≡ true → s ≡ true → t ≡ true
so true t e p = e
so false t e p = absurd (false≢true p)

-- where the first is passed by a number below `n`, so is the second
pub implied :
    (s t : ℕ → Bool) (n : ℕ) → below (λ k. if_then (s k) (t k)) n ≡ true → (k : ℕ) → k < n → s k ≡ true → t k ≡ true
implied s t n c k h p = so (s k) (t k) (holds (λ j. if_then (s j) (t j)) n c k h) p

-- a function has one value at every byte that passes a test
pub constant :
    (f : ℕ → ℕ) (v : ℕ) (s : ℕ → Bool) → below (λ k. if_then (s k) (eqb v (f k))) 256 ≡ true → (b : ℕ) → b < 256 → s b ≡ true → v ≡ f b
constant f v s t b h p = eqb-true v (f b) (implied s (λ k. eqb v (f k)) 256 t b h p)
