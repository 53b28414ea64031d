-- Whether every byte of a part is below a bound (specs/Table.antt, all_below), byte by byte.
use mathlib.Core.Path.{◌≡◌, refl}
use mathlib.Core.Bool.{Bool, true}
use mathlib.Core.List.{List, [], ◌∷◌}
use Prim.Native.Nat.{ℕ, zero, suc, ◌-◌, ◌<◌}
use native.Mathlib.Omega.{arith}
use lib.Dec.{ltb}
use lib.ListN.{length, get_or, take, drop}
use borrow.Author.Tests.{lt-ltb, ltb-true}
use Rattle.std.specs.List.{list_all}
use Rattle.chars.proofs.Cases.{both}
use Rattle.table.specs.Table.{all_below}

-- every byte from `i` up to `end` is below the bound
abbrev pub part_below : (bound : ℕ) (s : List ℕ) (i end : ℕ) → Bool
part_below bound s i end = all_below bound (take (end - i) (drop i s))

module _ (bound : ℕ) where
  -- the test of each in turn
  pub list_below : (ns : List ℕ) → list_all (λ n. ltb n bound) ns ≡ all_below bound ns
  unfolding all_below
  list_below [] = refl
  list_below (n ∷ ns) = rw (list_below ns)

  pub each_below : (ns : List ℕ) → all_below bound ns ≡ true → (k : ℕ) → k < length ns → get_or ns k 0 < bound
  unfolding all_below
  each_below [] t k h = absurd (omega arith)
  each_below (n ∷ ns) t zero h = ltb-true n bound (both (ltb n bound) (all_below bound ns) t).0
  each_below (n ∷ ns) t (suc k) h = each_below ns (both (ltb n bound) (all_below bound ns) t).1 k (omega arith)

  pub all_each : (ns : List ℕ) → ((k : ℕ) → k < length ns → get_or ns k 0 < bound) → all_below bound ns ≡ true
  unfolding all_below
  all_each [] h = refl
  all_each (n ∷ ns) h =
      rw (lt-ltb n bound (h 0 (omega arith))) (all_each ns (λ k l. h (suc k) (omega arith)))
