-- A comment as a loop passes over it: what stands behind it is the same from each place that the loop reaches. No character but LF ends it.
use mathlib.Core.Path.{◌≡◌, refl, sym, ◌∙◌}
use mathlib.Core.List.{List}
use Prim.Native.Nat.{ℕ, zero, suc, ◌+◌, ◌-◌, ◌<◌, ◌≤◌}
use native.Mathlib.Omega.{arith}
use lib.ListN.{length, get_or}
use Rattle.chars.specs.Character.{character_at}
use Rattle.chars.specs.Stream.{stream_at}
use Rattle.chars.specs.Character.{Clean}
use Rattle.chars.proofs.Extent.{within_true}
use Rattle.chars.proofs.Streams.{plain}
use Rattle.tokens.specs.Runs.{past_comment}
use Rattle.tokens.proofs.Skipping.{reaches, comment_ends, comment_on}
use Rattle.runs.specs.Bytes.{remark, Passed}
use Rattle.wide.specs.Wide.{Wides, none, more}

-- inside a comment, with nothing passed from `at` up to `i` that ends it
pub record Inside (draft : List ℕ) (at i : ℕ) : Type 0 where
  pub on : at ≤ i
  pub there : i ≤ length draft
  pub left : past_comment (stream_at draft i) ≡ past_comment (stream_at draft at)

pub entered : (draft : List ℕ) (at : ℕ) → at ≤ length draft → Inside draft at at
entered draft at h = record { on = omega arith; there = h; left = refl }

-- a character that does not end it
onward :
    (draft : List ℕ) (at i number after : ℕ) → Inside draft at i → character_at draft i ≡ Clean number after → (number ≡ 0x0A → ⊥)
    → Inside draft at after
onward draft at i number after s is line =
    let far = reaches draft i number after is in
    record {
      on = omega (arith, s.on, far.0);
      there = far.1;
      left = sym (comment_on draft i number after is line) ∙ s.left;
    }

-- LF ends it
pub ended :
    (draft : List ℕ) (at i number after : ℕ) → Inside draft at i → character_at draft i ≡ Clean number after → number ≡ 0x0A
    → (at < after) × (after ≤ length draft) × (stream_at draft after ≡ past_comment (stream_at draft at))
ended draft at i number after s is line =
    let far = reaches draft i number after is in
    (omega (arith, s.on, far.0), far.1, comment_ends draft i number after is line ∙ s.left)

-- a byte of US-ASCII
pub one_byte :
    (draft : List ℕ) (at i : ℕ) → Inside draft at i → i < length draft → 0 < get_or draft i 0 → get_or draft i 0 < 0x80
    → (get_or draft i 0 ≡ 0x0D → ⊥) → (get_or draft i 0 ≡ 0x0A → ⊥) → Inside draft at (i + 1)
one_byte draft at i s h g l r line = onward draft at i (get_or draft i 0) (i + 1) s (plain draft i h g l r) line

-- bytes that comments are mostly made of
pub run :
    (draft : List ℕ) (at from r : ℕ) → Inside draft at from → Passed remark draft from r → Inside draft at r
unfolding remark
run draft at from r s p = rw all at (go (r - from) (omega (arith, p.on)))
  where
    all : from + (r - from) ≡ r
    all = omega (arith, p.on)

    go : (k : ℕ) → from + k ≤ r → Inside draft at (from + k)
    go zero h = let same : from + 0 ≡ from = omega arith in rw same s
    go (suc k) h =
        let i = from + k in
        let b = within_true 0x20 0x7F (get_or draft i 0) (p.each i (omega arith) (omega arith)) in
        let next : from + suc k ≡ i + 1 = omega arith in
        rw next (one_byte draft at i (go k (omega arith)) (omega (arith, p.there)) (omega arith) (omega arith) (λ e. omega arith)
        (λ e. omega arith))

-- characters above US-ASCII
pub foreign : {draft : List ℕ} {at i j less : ℕ} → Inside draft at i → Wides draft i j less → Inside draft at j
foreign s none = s
foreign {draft} {at} s (more k bytes gone less ws w) =
    onward draft at k w.number (k + bytes) (foreign s ws) w.is (λ e. omega (arith, w.high))

-- they go on, not back
pub forth : {draft : List ℕ} {i j less : ℕ} → Wides draft i j less → i ≤ j
forth none = omega arith
forth (more k bytes gone less ws w) = omega (arith, forth ws)
