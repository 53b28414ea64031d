-- The open groups as a list: what is stored past them changes nothing, what is stored right behind them is one more, and the innermost is
-- the last of the array's open numbers.
use mathlib.Core.Path.{◌≡◌, refl, sym, ◌∙◌, ap, subst}
use mathlib.Core.List.{List, [], ◌∷◌}
use Prim.Native.Nat.{ℕ, zero, suc, ◌+◌, ◌-◌, ◌<◌, ◌≤◌}
use native.Mathlib.Omega.{arith}
use native.Mathlib.Numerals.{add-one}
use lib.ListN.{length, get_or, set, take}
use lib.Seq.{length-take-le, get_or-set_same, get_or-set_other}
use Rattle.std.proofs.lemmas.List.{get_or-take}
use Rattle.std.proofs.lemmas.Option.{slice_get-get_or}
use Rattle.std.specs.Prelude.{Option, Some, None, slice_get}
use Rattle.entities.specs.Stepping.{open_groups, below}

pub so_many : (a : List ℕ) (k : ℕ) → length (open_groups a k) ≡ k
unfolding open_groups
so_many a zero = refl
so_many a (suc k) = ap suc (so_many a k)

pub innermost : (a : List ℕ) (k : ℕ) → (k ≡ 0 → ⊥) → get_or (open_groups a k) 0 0 ≡ get_or a (k - 1) 0
unfolding open_groups
innermost a zero h = absurd (h refl)
innermost a (suc k) h = let less : suc k - 1 ≡ k = omega arith in rw less

pub none_open : (a : List ℕ) (k : ℕ) → k ≡ 0 → open_groups a k ≡ []
unfolding open_groups
none_open a k e = rw e

pub past : (a : List ℕ) (i v k : ℕ) → k ≤ i → open_groups (set a i v) k ≡ open_groups a k
unfolding open_groups
past a i v zero h = refl
past a i v (suc k) h = rw (get_or-set_other a i k v 0 (λ e. omega arith), past a i v k (omega arith))

pub pushed : (a : List ℕ) (i v : ℕ) → i < length a → open_groups (set a i v) (i + 1) ≡ v ∷ open_groups a i
unfolding open_groups
pushed a i v h = rw (add-one, get_or-set_same a i v 0 h, past a i v i (omega arith))

-- the innermost, where one is open
module _ (a : List ℕ) where
  pub none_top : (k : ℕ) → None ≡ slice_get (open_groups a k) 0 → k ≡ 0
  unfolding open_groups
  none_top zero e = refl
  none_top (suc k) e = absurd (cc)

  pub some_top : (k n : ℕ) → Some n ≡ slice_get (open_groups a k) 0 → (k ≡ 0 → ⊥) × (n ≡ get_or (open_groups a k) 0 0)
  unfolding open_groups
  some_top zero n e = absurd (cc)
  some_top (suc k) n e = (λ z. omega arith, cc)

-- of it there is one
pub same_top : {o : Option ℕ} {m n : ℕ} → Some m ≡ o → Some n ≡ o → m ≡ n
same_top d e = cc

-- it is the last of them
pub last_open :
    (a : List ℕ) (k : ℕ) → k ≤ length a → slice_get (take k a) (length (take k a) - 1) ≡ slice_get (open_groups a k) 0
unfolding open_groups
last_open a zero h = refl
last_open a (suc k) h =
    let long : length (take (suc k) a) - 1 ≡ k = omega (arith, length-take-le (suc k) a h) in
    rw long
    (slice_get-get_or (take (suc k) a) k 0 (omega (arith, length-take-le (suc k) a h))
    ∙ ap Some (get_or-take (suc k) a k 0 (omega arith)))

-- those that are open are the innermost and the others
pub topped : (a : List ℕ) (k : ℕ) → (k ≡ 0 → ⊥) → open_groups a k ≡ get_or a (k - 1) 0 ∷ open_groups a (k - 1)
unfolding open_groups
topped a zero h = absurd (h refl)
topped a (suc k) h = let less : suc k - 1 ≡ k = omega arith in rw less

-- another number for the innermost
pub renumbered :
    (a : List ℕ) (k v : ℕ) → (k ≡ 0 → ⊥) → k - 1 < length a → open_groups (set a (k - 1) v) k ≡ v ∷ open_groups a (k - 1)
unfolding open_groups
renumbered a zero v h l = absurd (h refl)
renumbered a (suc k) v h l =
    let less : suc k - 1 ≡ k = omega arith in
    subst (λ j. open_groups (set a j v) (suc k) ≡ v ∷ open_groups a j) (sym less)
    (rw (get_or-set_same a k v 0 (omega arith), past a k v k (omega arith)))

-- numbers at most `m` are at most anything above it
pub higher : (groups : List ℕ) (m n : ℕ) → m ≤ n → below groups m → below groups n
unfolding below
higher [] m n h b = tt
higher (g ∷ groups) m n h b = (omega (arith, b.0), higher groups m n h b.1)

pub below_top : (groups : List ℕ) (m : ℕ) → below groups m → get_or groups 0 0 ≤ m
unfolding below
below_top [] m b = omega arith
below_top (g ∷ groups) m b = b.0
