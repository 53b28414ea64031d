-- Where a token is looked for, by the place reached: only the draft's start is another place.
use Prim.Native.Nat.{ℕ, zero, suc, ◌+◌, ◌-◌, ◌≤◌}
use mathlib.Core.Path.{◌≡◌, refl, ◌∙◌, ap}
use mathlib.Core.List.{List}
use native.Mathlib.Omega.{arith}
use native.Mathlib.Nat.{zero-add, sub-zero}
use lib.ListN.{length, take, drop}
use lib.Seq.{take-length}
use Rattle.chars.specs.Choice.{same}
use Rattle.chars.specs.Stream.{mark, start}
use Rattle.chars.proofs.Cases.{either}
use Rattle.tokens.specs.Step.{reached}

pub reached_on : (draft : List ℕ) (place : ℕ) → (place ≡ 0 → ⊥) → reached draft place ≡ place
unfolding reached
reached_on draft zero n = absurd (n refl)
reached_on draft (suc place) n = refl

-- a byte order mark has three bytes
pub start_short : (draft : List ℕ) → start draft ≤ 3
unfolding start
start_short draft = either (same (take 3 draft) mark) (λ t. rw t (omega arith)) (λ t. rw t (omega arith))

-- at the draft's start
pub reached_start :
    (draft : List ℕ) (place n : ℕ) → place ≡ 0 → n ≡ start (take (length draft - place) (drop place draft))
    → place + n ≡ reached draft place
unfolding reached
reached_start draft place n z e =
    let whole : take (length draft - place) (drop place draft) ≡ draft = rw z (rw (sub-zero (length draft)) (take-length draft)) in
    rw (z, reached) (zero-add n ∙ (e ∙ ap start whole))
