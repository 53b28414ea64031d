-- Whitespace that stands first, counted byte by byte: the count goes on behind each of its bytes.
use mathlib.Core.Path.{◌≡◌}
use mathlib.Core.Bool.{true, false}
use mathlib.Core.List.{List}
use Prim.Native.Nat.{ℕ, zero, suc, ◌+◌, ◌-◌, ◌<◌, ◌≤◌}
use native.Mathlib.Omega.{arith}
use native.Mathlib.Numerals.{add-one}
use lib.ListN.{length, get_or, drop, drop_of_length-le}
use lib.Seq.{drop-cons}
use Rattle.tokens.specs.Sorts.{white}
use Rattle.chars.proofs.Cases.{by_bound}
use Rattle.runs.specs.Bytes.{blanks, Passed}

module _ (draft : List ℕ) (at : ℕ) where
  -- whitespace stands here
  pub blank_first :
      at < length draft → white (get_or draft at 0) ≡ true → blanks (drop at draft) ≡ blanks (drop (at + 1) draft) + 1
  unfolding blanks
  blank_first h e = rw (drop-cons draft at 0 h, add-one at, add-one (blanks (drop (suc at) draft)), e)

  -- or something else, or nothing
  pub none_first : at < length draft → white (get_or draft at 0) ≡ false → blanks (drop at draft) ≡ 0
  unfolding blanks
  none_first h e = rw (drop-cons draft at 0 h, e)

  pub no_blanks : length draft ≤ at → blanks (drop at draft) ≡ 0
  unfolding blanks
  no_blanks h = rw (drop_of_length-le draft {i = at} h)

-- as many as are passed one by one, up to where something else stands or nothing
counted :
    (draft : List ℕ) (n at : ℕ) → at + n ≤ length draft
    → ((i : ℕ) → at ≤ i → i < at + n → white (get_or draft i 0) ≡ true)
    → (at + n < length draft → white (get_or draft (at + n) 0) ≡ false) → blanks (drop at draft) ≡ n
counted draft zero at h each stop =
    let same : at + 0 ≡ at = omega arith in
    by_bound at (length draft) (λ l. none_first draft at l (rw same at (stop (omega arith)))) (no_blanks draft at)
counted draft (suc n) at h each stop =
    let same : at + 1 + n ≡ at + suc n = omega arith in
    let behind = counted draft n (at + 1) (omega arith) (λ i l g. each i (omega arith) (omega arith)) (rw same stop) in
    omega (arith, blank_first draft at (omega arith) (each at (omega arith) (omega arith)), behind)

-- what is passed is counted
pub blanks_passed :
    (draft : List ℕ) (at r : ℕ) → Passed white draft at r → (r < length draft → white (get_or draft r 0) ≡ false)
    → r ≡ at + blanks (drop at draft)
blanks_passed draft at r p stop =
    let same : at + (r - at) ≡ r = omega (arith, p.on) in
    omega (arith, p.on, counted draft (r - at) at (omega (arith, p.there)) (rw same p.each) (rw same stop))
