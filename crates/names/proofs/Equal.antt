-- Comparing two lists entry by entry passes if and only if they are the same list.
use mathlib.Core.Path.{◌≡◌, refl, ap₂}
use mathlib.Core.Bool.{true, false, false≢true}
use mathlib.Core.List.{List, [], ◌∷◌}
use Prim.Native.Nat.{ℕ}
use lib.Dec.{eqb}
use borrow.Author.Tests.{eq-eqb, eqb-true}
use Rattle.std.specs.Prelude.{nat_eq}
use Rattle.std.specs.Cmp.Lexicographic.{pointwise}
use Rattle.chars.specs.Choice.{same}
use Rattle.chars.proofs.Cases.{both, either}

-- a list compared with itself
pub same_self : (xs : List ℕ) → same xs xs ≡ true
same_self [] = refl
same_self (x ∷ xs) = rw (eq-eqb x x refl, same_self xs)

pub equal_same : (xs ys : List ℕ) → xs ≡ ys → same xs ys ≡ true
equal_same xs ys e = rw e (same_self ys)

pub same_equal : (xs ys : List ℕ) → same xs ys ≡ true → xs ≡ ys
same_equal [] [] e = refl
same_equal [] (y ∷ ys) e = absurd (false≢true e)
same_equal (x ∷ xs) [] e = absurd (false≢true e)
same_equal (x ∷ xs) (y ∷ ys) e =
    let t = both (eqb x y) (same xs ys) e in ap₂ ◌∷◌ (eqb-true x y t.0) (same_equal xs ys t.1)

-- lists that are not equal
pub unequal_same : (xs ys : List ℕ) → (xs ≡ ys → ⊥) → same xs ys ≡ false
unequal_same xs ys h = either (same xs ys) (λ t. absurd (h (same_equal xs ys t))) (λ t. t)

-- the library's comparison of slices
pub compared : (xs ys : List ℕ) → pointwise nat_eq xs ys ≡ same xs ys
compared [] [] = refl
compared [] (y ∷ ys) = refl
compared (x ∷ xs) [] = refl
compared (x ∷ xs) (y ∷ ys) = rw (compared xs ys)
