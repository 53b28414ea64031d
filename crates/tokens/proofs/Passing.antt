-- A run of bytes whose class is in a range, one byte at a time. Whatever each such byte leaves as it is, the whole run leaves as it is, and
-- where a run ends early it ends at a byte of another class.
use mathlib.Core.Path.{◌≡◌, refl, ◌∙◌, ap}
use mathlib.Core.Bool.{true, false}
use mathlib.Core.List.{List}
use Prim.Native.Nat.{ℕ, zero, suc, ◌+◌, ◌-◌, ◌<◌, ◌≤◌}
use native.Mathlib.Omega.{arith}
use native.Mathlib.Numerals.{add-one}
use native.Mathlib.Nat.{add-zero, add-suc, suc-add}
use lib.ListN.{length, get_or, drop}
use lib.Seq.{drop-cons}
use borrow.Author.Tests.{le-leb, lt-leb}
use Rattle.chars.specs.Choice.{within}
use Rattle.chars.proofs.Cases.{either}
use Rattle.chars.proofs.Extent.{within_true}
use Rattle.tokens.specs.Runs.{class_of, run}

-- the class of a draft's byte
abbrev pub class_at : List ℕ → ℕ → ℕ
class_at draft i = class_of (get_or draft i 0)

-- what each of `n` places in a row leaves as it is
pub stepwise :
    {A : Type 0} (F : ℕ → A) (n i : ℕ) → ((j : ℕ) → i ≤ j → j < i + n → F j ≡ F (j + 1)) → F i ≡ F (i + n)
stepwise F zero i step = rw (add-zero i)
stepwise F (suc n) i step =
    let on : i + 1 + n ≡ i + suc n = omega arith in
    step i (omega arith) (omega arith)
    ∙ (stepwise F n (i + 1) (λ j g l. step j (omega arith) (omega arith)) ∙ ap F on)

module _ (low high : ℕ) (draft : List ℕ) where
  pub inside :
      (k i : ℕ) → i < length draft → within low high (class_at draft i) ≡ true
      → run low high (suc k) (drop i draft) ≡ suc (run low high k (drop (suc i) draft))
  unfolding run
  inside k i h t = rw (drop-cons draft i 0 h, t)

  pub outside :
      (k i : ℕ) → i < length draft → within low high (class_at draft i) ≡ false → run low high k (drop i draft) ≡ 0
  unfolding run
  outside zero i h t = refl
  outside (suc k) i h t = rw (drop-cons draft i 0 h, t)

  -- what each byte of the run leaves as it is
  pub carried :
      {A : Type 0} (F : ℕ → A) (k at : ℕ) → at + k ≤ length draft
      → ((i : ℕ) → at ≤ i → i < at + k → low ≤ class_at draft i → class_at draft i ≤ high → F i ≡ F (i + 1))
      → F at ≡ F (at + run low high k (drop at draft))
  unfolding run
  carried F zero at h step = rw (add-zero at)
  carried F (suc k) at h step =
      either (within low high (class_at draft at))
      (λ t.
      let r = within_true low high (class_at draft at) t in
      let rest = carried F k (suc at) (omega arith) (λ i g l a b. step i (omega arith) (omega arith) a b) in
      step at (omega arith) (omega arith) r.0 r.1
      ∙ rw (add-one, inside k at (omega arith) t, add-suc, ← suc-add) rest)
      (λ t. rw (outside (suc k) at (omega arith) t, add-zero))

  -- how far it goes, and what ends it before it has gone so far
  pub most : (k at : ℕ) → at + k ≤ length draft → run low high k (drop at draft) ≤ k
  unfolding run
  most zero at h = omega arith
  most (suc k) at h =
      either (within low high (class_at draft at))
      (λ t. rw (inside k at (omega arith) t) (omega (arith, most k (suc at) (omega arith))))
      (λ t. rw (outside (suc k) at (omega arith) t) (omega arith))

  pub ends :
      (k at : ℕ) → at + k ≤ length draft → run low high k (drop at draft) < k
      → within low high (class_at draft (at + run low high k (drop at draft))) ≡ false
  unfolding run
  ends zero at h l = absurd (omega arith)
  ends (suc k) at h l =
      either (within low high (class_at draft at))
      (λ t.
      let more = inside k at (omega arith) t in
      rw (more, add-suc, ← suc-add) (ends k (suc at) (omega arith) (omega arith)))
      (λ t. rw (outside (suc k) at (omega arith) t, add-zero) t)

  -- the same as a loop goes: up to `end`
  pub onward :
      (i end : ℕ) → i < end → end ≤ length draft → low ≤ class_at draft i → class_at draft i ≤ high
      → (i + 1) + run low high (end - (i + 1)) (drop (i + 1) draft) ≡ i + run low high (end - i) (drop i draft)
  onward i end l h a b =
      let less : end - i ≡ suc (end - suc i) = omega arith in
      let t : within low high (class_at draft i) ≡ true = simp (le-leb low (class_at draft i) a, le-leb (class_at draft i) high b) in
      rw (less, add-one, inside (end - suc i) i (omega arith) t, add-suc, suc-add)

  pub halted :
      (i end : ℕ) → i < length draft → within low high (class_at draft i) ≡ false → i ≡ i + run low high (end - i) (drop i draft)
  halted i end h t = rw (outside (end - i) i h t, add-zero)

  pub halted_below :
      (i end : ℕ) → i < length draft → class_at draft i < low → i ≡ i + run low high (end - i) (drop i draft)
  halted_below i end h a = halted i end h (simp (lt-leb low (class_at draft i) a))

  pub halted_above :
      (i end : ℕ) → i < length draft → low ≤ class_at draft i → high < class_at draft i
      → i ≡ i + run low high (end - i) (drop i draft)
  halted_above i end h a b = halted i end h (simp (le-leb low (class_at draft i) a, lt-leb (class_at draft i) high b))

  pub finished : (i end : ℕ) → end ≤ i → i ≡ i + run low high (end - i) (drop i draft)
  unfolding run
  finished i end h = let none : end - i ≡ 0 = omega arith in rw (none, add-zero)

pub ruleset running = (onward, halted_below, halted_above, finished)
