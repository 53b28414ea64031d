-- How a fact about a choice is shown: once for the test that passes, and once for the test that fails.
use mathlib.Core.Path.{◌≡◌, refl}
use mathlib.Core.Bool.{Bool, true, false, cond, ◌&&◌, false≢true}
use Prim.Native.Nat.{ℕ, ◌<◌, ◌≤◌}
use lib.Dec.{ltb}
use borrow.Author.Tests.{ltb-true, ltb-false}

-- a choice that is `z`: either way tells its test, and that its side is `z`
pub by_test {ℓ κ} :
    {A : Type ℓ} {P : Type κ} (t : Bool) {x y z : A}
    → (t ≡ true → x ≡ z → P) → (t ≡ false → y ≡ z → P) → cond t x y ≡ z → P
by_test true yes_way no_way e = yes_way refl e
by_test false yes_way no_way e = no_way refl e

-- two tests that pass together pass each
pub both : (s t : Bool) → (s && t) ≡ true → (s ≡ true) × (t ≡ true)
both true t e = (refl, e)
both false t e = absurd (false≢true e)

-- a test passes or fails
pub either {κ} : {P : Type κ} (t : Bool) → (t ≡ true → P) → (t ≡ false → P) → P
either true yes_way no_way = yes_way refl
either false yes_way no_way = no_way refl

-- a number is below a bound or not
pub by_bound {κ} : {P : Type κ} (n bound : ℕ) → (n < bound → P) → (bound ≤ n → P) → P
by_bound n bound below above =
    either (ltb n bound) (λ t. below (ltb-true n bound t)) (λ t. above (ltb-false n bound t))
