-- What is found among the first entries (specs/Index.antt, position and latest), and that a look at one bucket is enough: a name in another
-- bucket is another name.
use mathlib.Core.Path.{◌≡◌, refl, sym, ap}
use mathlib.Core.Bool.{true, false}
use mathlib.Core.List.{List}
use Prim.Native.Nat.{ℕ, zero, suc, ◌<◌, ◌≤◌}
use native.Mathlib.Omega.{arith}
use lib.Dec.{eqb}
use borrow.Author.Tests.{eqb-true, eqb-false}
use Rattle.chars.specs.Choice.{same}
use Rattle.chars.proofs.Cases.{by_test, by_bound, either}
use Rattle.names.specs.Marks.{bucket_of}
use Rattle.names.specs.Index.{position, latest}
use Rattle.names.proofs.Equal.{same_equal}

-- what holds of each number below `n`, and of `n`, holds of each below `suc n`
below_next : {P : ℕ → Type 0} (n : ℕ) → ((j : ℕ) → j < n → P j) → P n → (j : ℕ) → j < suc n → P j
below_next {P} n h p j l = by_bound j n (h j) (λ g. let e : j ≡ n = omega arith in rw e p)

module _ (key : ℕ → List ℕ) (name : List ℕ) where
  -- no entry has the name
  pub position_none : (n : ℕ) → position key name n ≡ 0 → (j : ℕ) → j < n → same name (key j) ≡ false
  unfolding position
  position_none zero e j h = absurd (omega arith)
  position_none (suc n) e j h =
      by_test (same name (key n)) (λ t z. absurd (omega arith)) (λ t z. below_next n (position_none n z) t j h) e

  pub none_position : (n : ℕ) → ((j : ℕ) → j < n → same name (key j) ≡ false) → position key name n ≡ 0
  unfolding position
  none_position zero h = refl
  none_position (suc n) h = rw (h n (omega arith)) (none_position n (λ j l. h j (omega arith)))

  -- the entry that is found has the name
  pub position_found : (n j : ℕ) → position key name n ≡ suc j → (j < n) × (same name (key j) ≡ true)
  unfolding position
  position_found zero j e = absurd (omega arith)
  position_found (suc n) j e =
      by_test (same name (key n))
      (λ t z. let i : j ≡ n = omega arith in (omega arith, rw i t))
      (λ t z. let f = position_found n j z in (omega arith, f.1))
      e

  pub position_most : (n : ℕ) → position key name n ≤ n
  unfolding position
  position_most zero = omega arith
  position_most (suc n) =
      either (same name (key n)) (λ t. rw t (omega arith)) (λ t. rw t (omega (arith, position_most n)))

module _ (key key' : ℕ → List ℕ) where
  -- entries that have the same names
  pub position_agrees :
      (name : List ℕ) (n : ℕ) → ((j : ℕ) → j < n → key j ≡ key' j) → position key name n ≡ position key' name n
  unfolding position
  position_agrees name zero h = refl
  position_agrees name (suc n) h =
      rw (h n (omega arith), position_agrees name n (λ j l. h j (omega arith)))

  pub latest_agrees : (b n : ℕ) → ((j : ℕ) → j < n → key j ≡ key' j) → latest key b n ≡ latest key' b n
  unfolding latest
  latest_agrees b zero h = refl
  latest_agrees b (suc n) h = rw (h n (omega arith), latest_agrees b n (λ j l. h j (omega arith)))

module _ (key : ℕ → List ℕ) (b : ℕ) where
  pub latest_most : (n : ℕ) → latest key b n ≤ n
  unfolding latest
  latest_most zero = omega arith
  latest_most (suc n) =
      either (eqb (bucket_of (key n)) b) (λ t. rw t (omega arith)) (λ t. rw t (omega (arith, latest_most n)))

  -- the entry is in the bucket
  pub latest_found : (n j : ℕ) → latest key b n ≡ suc j → bucket_of (key j) ≡ b
  unfolding latest
  latest_found zero j e = absurd (omega arith)
  latest_found (suc n) j e =
      by_test (eqb (bucket_of (key n)) b)
      (λ t z. let i : j ≡ n = omega arith in rw i (eqb-true (bucket_of (key n)) b t))
      (λ t z. latest_found n j z)
      e

-- a name is found among the entries up to the last one in its bucket
pub position_latest :
    (key : ℕ → List ℕ) (name : List ℕ) (n : ℕ) → position key name n ≡ position key name (latest key (bucket_of name) n)
unfolding position latest
position_latest key name zero = refl
position_latest key name (suc n) =
    either (eqb (bucket_of (key n)) (bucket_of name))
    (λ t. rw t)
    (λ t.
    rw t
    (either (same name (key n))
    (λ s. absurd (eqb-false (bucket_of (key n)) (bucket_of name) t (sym (ap bucket_of (same_equal name (key n) s)))))
    (λ s. rw s (position_latest key name n))))
