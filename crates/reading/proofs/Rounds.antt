-- All rounds of a reading. Behind each of them either what is read so far stands in the buffers, and the rest is still to be read; or
-- reading is over, and what it comes to is the definition's. Each round that goes on leaves less of the draft.
use mathlib.Core.Path.{◌≡◌}
use mathlib.Core.List.{List}
use Prim.Native.Nat.{ℕ, ◌+◌, ◌-◌, ◌<◌, ◌≤◌}
use native.Mathlib.Omega.{arith}
use lib.ListN.{length, drop}
use borrow.Author.Tests.{lt-ltb, le-ltb}
use Rattle.std.specs.Prelude.{Result}
use Rattle.chars.specs.Limits.{limits}
use Rattle.chars.specs.declared.refusal.Refused.{Refused}
use Rattle.chars.proofs.Cases.{by_bound}
use Rattle.runs.specs.Bytes.{blanks}
use Rattle.entities.specs.Stepping.{Ready}
use Rattle.entities.specs.declared.state.State.{State}
use Rattle.reading.specs.Reading.{reading}
use Rattle.reading.specs.Rounds.{Turn, On, Over, SoFar, ahead, goes_round, opened, opening_of}
use Rattle.reading.proofs.Walking.{told, at_first, past_whitespace, further, finished, too_long}

unfoldable pub Behind : (draft list₀ text₀ list text groups : List ℕ) → Turn → Type 0
Behind draft list₀ text₀ list text groups (On s at) =
    SoFar draft list₀ text₀ list text groups s at (ahead draft list text groups s at) × (length draft ≤ 16384)
Behind draft list₀ text₀ list text groups (Over number place t after) =
    (told number place t after ≡ (reading limits draft list₀ text₀).answer)
    × (list ≡ (reading limits draft list₀ text₀).list)
    × (text ≡ (reading limits draft list₀ text₀).text)

-- the first round has nothing before it
first_round : (draft list text groups : List ℕ) → length groups ≡ 64 → Behind draft list text list text groups (opening_of draft)
unfolding Behind opening_of
first_round draft list text groups g =
    by_bound 16384 (length draft)
    (λ h. rw (lt-ltb 16384 (length draft) h) (too_long draft list text h))
    (λ h. rw (le-ltb 16384 (length draft) h) (at_first draft list text groups h g, h))

-- where nothing is read yet, as the code has it
module _ (draft list text groups : List ℕ) (g : length groups ≡ 64) (r : Result ℕ Refused) (is : opened r ≡ opening_of draft) where
  pub begun : Behind draft list text list text groups (opened r)
  begun = rw is (first_round draft list text groups g)

-- a round behind one that goes on, from the first byte that is no whitespace
module _ (draft list₀ text₀ list text groups : List ℕ) (s : State) (at : ℕ)
    (b : Behind draft list₀ text₀ list text groups (On s at)) (place : ℕ) (is : place ≡ at + blanks (drop at draft)) where
  here :
      SoFar draft list₀ text₀ list text groups s place (ahead draft list text groups s place)
      × (length draft ≤ 16384)
  unfolding Behind
  here = (past_whitespace draft list₀ text₀ list text groups s at place is b.0, b.1)

  pub short : length draft ≤ 16384
  short = here.1

  pub ready : Ready s list text groups place
  ready = here.0.ready

  pub turned :
      (t : Turn) (list' text' groups' : List ℕ) → goes_round draft list text groups s place t list' text' groups'
      → length list' ≡ length list → length text' ≡ length text → Behind draft list₀ text₀ list' text' groups' t
  unfolding Behind goes_round
  turned (On t on) list' text' groups' w l u =
      (further draft list₀ text₀ list text groups s place here.0 t list' text' _ w.0 groups' on l u w.1, here.1)
  turned (Over number p t after) list' text' groups' w l u =
      finished draft list₀ text₀ list text groups s place here.0 t list' text' groups' number p after w

-- a round that goes on leaves less of the draft
pub less :
    (draft list text groups : List ℕ) (s : State) (at place : ℕ) → place ≡ at + blanks (drop at draft)
    → (t : State) (on : ℕ) (list' text' groups' : List ℕ) → goes_round draft list text groups s place (On t on) list' text' groups'
    → length draft - on < length draft - at
unfolding goes_round
less draft list text groups s at place is t on list' text' groups' w = omega (arith, is, w.2, w.3)

-- where reading is over, its answer
pub answered :
    (draft list₀ text₀ list text groups : List ℕ) (number place : ℕ) (s : State) (after : ℕ)
    → Behind draft list₀ text₀ list text groups (Over number place s after)
    → (told number place s after ≡ (reading limits draft list₀ text₀).answer)
    × (list ≡ (reading limits draft list₀ text₀).list)
    × (text ≡ (reading limits draft list₀ text₀).text)
unfolding Behind
answered draft list₀ text₀ list text groups number place s after b = b
