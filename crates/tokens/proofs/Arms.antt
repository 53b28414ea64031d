-- A `match` on a byte whose arms list the bytes that pass a test, an arm for each test: in an arm its test is passed, and in `_` none is.
use mathlib.Core.Path.{◌≡◌, refl, sym, ◌∙◌, ap}
use mathlib.Core.Bool.{Bool, true, false, ◌||◌, or-true, false≢true}
use mathlib.Core.List.{List, [], ◌∷◌}
use Prim.Native.Nat.{ℕ, zero, suc, ◌+◌, ◌<◌, ◌≤◌}
use native.Mathlib.Omega.{arith}
use lib.Dec.{eqb}
use mir.Val.{has_key}
use types.Run.{OneOf, hit, miss}
use borrow.Author.Tests.{eqb-true, eqb-false}
use Rattle.chars.proofs.Cases.{either}

abbrev keep : Bool → ℕ → List ℕ → List ℕ
keep true k ks = k ∷ ks
keep false k ks = ks

-- the numbers that pass, of `n` from `first` on
abbrev pub passing : (ℕ → Bool) → (first n : ℕ) → List ℕ
passing f first zero = []
passing f first (suc n) = keep (f first) first (passing f (suc first) n)

-- each of them passes
passes : (f : ℕ → Bool) (first n b : ℕ) → has_key (passing f first n) b ≡ true → f b ≡ true
passes f first zero b h = absurd (false≢true h)
passes f first (suc n) b h =
    either (f first)
    (λ t. either (eqb first b)
    (λ e. ap f (sym (eqb-true first b e)) ∙ t)
    (λ e. passes f (suc first) n b (rw (t, e) at h)))
    (λ t. passes f (suc first) n b (rw t at h))

-- each that passes is one of them
found : (f : ℕ → Bool) (first n b : ℕ) → f b ≡ true → first ≤ b → b < first + n → has_key (passing f first n) b ≡ true
found f first zero b t g h = absurd (omega arith)
found f first (suc n) b t g h =
    either (eqb first b)
    (λ e. rw (ap f (eqb-true first b e) ∙ t, e))
    (λ e.
    let later = found f (suc first) n b t (omega (arith, eqb-false first b e)) (omega arith) in
    either (f first) (λ u. rw (u, later) (or-true (eqb first b))) (λ u. rw u later))

pub in_arm : (f : ℕ → Bool) (n b : ℕ) → OneOf (passing f 0 n) b → f b ≡ true
in_arm f n b h =
    let ks = passing f 0 n in
    either (has_key ks b) (passes f 0 n b) (λ t. absurd (miss ks b (rw t tt) h))

not_in_arm : (f : ℕ → Bool) (n b : ℕ) → (OneOf (passing f 0 n) b → ⊥) → b < n → f b ≡ false
not_in_arm f n b none h =
    either (f b)
    (λ t. absurd (none (hit (passing f 0 n) b (rw (found f 0 n b t (omega arith) (omega arith)) tt))))
    (λ t. t)

-- what `_` knows, behind an arm for each test
abbrev pub Rest : List (ℕ → Bool) → (n b : ℕ) → Type 0
Rest [] n b = Unit {0}
Rest (f ∷ fs) n b = Rest fs n b × (OneOf (passing f 0 n) b → ⊥)

abbrev pub any : List (ℕ → Bool) → ℕ → Bool
any [] b = false
any (f ∷ fs) b = f b || any fs b

pub in_rest : (fs : List (ℕ → Bool)) (n b : ℕ) → Rest fs n b → b < n → any fs b ≡ false
in_rest [] n b rest h = refl
in_rest (f ∷ fs) n b rest h = rw (not_in_arm f n b rest.1 h) (in_rest fs n b rest.0 h)
