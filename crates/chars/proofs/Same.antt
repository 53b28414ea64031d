-- Comparing two lists entry by entry: it doesn't matter which of them comes first, and lists of different lengths differ.
use mathlib.Core.Path.{◌≡◌, refl, sym, ◌∙◌}
use mathlib.Core.Bool.{false, and-false}
use mathlib.Core.List.{List, [], ◌∷◌}
use Prim.Native.Nat.{ℕ, ◌<◌}
use native.Mathlib.Omega.{arith}
use lib.Dec.{eqb}
use lib.ListN.{length}
use borrow.Author.Tests.{eq-eqb, ne_eqb, eqb-true, eqb-false}
use Rattle.std.specs.Cmp.Lexicographic.{pointwise}
use Rattle.chars.specs.Choice.{same}
use Rattle.chars.proofs.Cases.{either}

pub shorter : (xs ys : List ℕ) → length xs < length ys → same xs ys ≡ false
shorter [] [] h = absurd (omega arith)
shorter [] (y ∷ ys) h = refl
shorter (x ∷ xs) [] h = refl
shorter (x ∷ xs) (y ∷ ys) h = rw (shorter xs ys (omega arith)) (and-false (eqb x y))

turned : (m n : ℕ) → eqb m n ≡ eqb n m
turned m n =
    either (eqb m n)
    (λ t. t ∙ sym (eq-eqb n m (sym (eqb-true m n t))))
    (λ t. t ∙ sym (ne_eqb n m (λ e. eqb-false m n t (sym e))))

-- the library's comparison is the same
pub pairwise : (xs ys : List ℕ) → pointwise eqb xs ys ≡ same ys xs
pairwise [] [] = refl
pairwise [] (y ∷ ys) = refl
pairwise (x ∷ xs) [] = refl
pairwise (x ∷ xs) (y ∷ ys) = rw (turned x y, pairwise xs ys)
