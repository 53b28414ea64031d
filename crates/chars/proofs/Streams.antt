-- The stream from a place of a draft on, one character at a time: a character that cleaning gives there, and then the stream from the byte
-- after it; or the stream's end. A character's bytes are all there, so the bytes still to be passed over never run out.
use mathlib.Core.Path.{◌≡◌, refl, ◌∙◌, ap}
use mathlib.Core.List.{List, [], ◌∷◌}
use Prim.Native.Nat.{ℕ, zero, suc, ◌+◌, ◌-◌, ◌<◌, ◌≤◌, min}
use native.Mathlib.Omega.{arith}
use lib.Dec.{leb}
use lib.ListN.{length, get_or, drop, length-drop, drop_of_length-le}
use lib.Seq.{drop-cons, drop-drop}
use borrow.Author.Tests.{ne_eqb, lt-leb, leb-true, leb-false}
use Rattle.chars.specs.Character.{judged, character, character_at, told}
use Rattle.chars.specs.Stream.{next, stop, begun, stream, stream_at}
use Rattle.chars.specs.Character.{Character}
use Rattle.chars.specs.Character.{Clean, Refused, End}
use Rattle.chars.proofs.Characters.{character_is, goes_on}
use Rattle.chars.proofs.Cases.{either}
use Rattle.chars.proofs.Sequences.{single}

passed :
    (k place : ℕ) (bytes : List ℕ) → k ≤ length bytes → stream k place bytes ≡ stream 0 (place + k) (drop k bytes)
unfolding stream
passed zero place bytes h = let same : place + 0 ≡ place = omega arith in rw same
passed (suc k) place [] h = absurd (omega arith)
passed (suc k) place (b ∷ bytes) h =
    let same : suc place + k ≡ place + suc k = omega arith in passed k (suc place) bytes (omega arith) ∙ ap (λ p. stream 0 p (drop k bytes))
    same

module _ (draft : List ℕ) (i : ℕ) where
  -- the draft has ended
  pub at_end : length draft ≤ i → stream_at draft i ≡ stop 7 (length draft)
  unfolding stream_at stream
  at_end h = let last : min i (length draft) ≡ length draft = omega arith in rw (drop_of_length-le draft h, last)

  -- a character, where the place is within the draft
  begins :
      (h : i < length draft)
      → stream_at draft i
      ≡ begun i (character_at draft i) (λ k. stream k (suc i) (drop (suc i) draft))
  unfolding stream_at stream character_at
  begins h = let here : min i (length draft) ≡ i = omega arith in rw (here, drop-cons draft i 0 h)

  -- a place with a character is within the draft
  pub inside : (number after : ℕ) → character_at draft i ≡ Clean number after → i < length draft
  unfolding character_at
  inside number after e =
      let is = character_is (drop i draft) i number after e in
      omega (arith, is.on, is.there, length-drop i draft)

  pub at_character :
      (number after : ℕ) → character_at draft i ≡ Clean number after
      → stream_at draft i ≡ next number i after (stream_at draft after)
  unfolding begun stream_at character_at
  at_character number after e =
      let is = character_is (drop i draft) i number after e in
      let left = length-drop i draft in
      let left' = length-drop (suc i) draft in
      let h : i < length draft = omega (arith, is.on, is.there) in
      let here : min after (length draft) ≡ after = omega (arith, is.there) in
      let place : suc i + (after - suc i) ≡ after = omega (arith, is.on) in
      begins h ∙ rw e (ap (λ s. next number i after s)
      (passed (after - suc i) (suc i) (drop (suc i) draft) (omega (arith, is.on, is.there)) ∙ rw (drop-drop, place, here)))

  pub at_refusal :
      (number place : ℕ) → character_at draft i ≡ Refused number place → i < length draft → stream_at draft i ≡ stop number place
  unfolding begun
  at_refusal number place e h = begins h ∙ rw e

  -- a byte of US-ASCII that is neither nul nor CR is a character by itself
  pub plain :
      i < length draft → 0 < get_or draft i 0 → get_or draft i 0 < 0x80 → (get_or draft i 0 ≡ 0x0D → ⊥)
      → character_at draft i ≡ Clean (get_or draft i 0) (i + 1)
  unfolding character_at character judged
  plain h n l r =
      let b = get_or draft i 0 in
      rw (drop-cons draft i 0 h)
      (simp (ne_eqb b 0 (λ e. omega arith), ne_eqb b 0x0D r)
      (rw (← drop-cons draft i 0 h, single draft i h l) (simp (lt-leb 0xD800 b (omega arith), lt-leb 0xDC00 b (omega arith)))))

  -- the draft ends where its bytes do
  pub ended : character_at draft i ≡ End → length draft ≤ i
  unfolding character_at
  ended e =
      either (leb (length draft) i)
      (λ t. leb-true (length draft) i t)
      (λ t. absurd (goes_on _ _ i (rw (drop-cons draft i 0 (leb-false (length draft) i t)) at e)))

  -- A place with no character: the stream stops there, with the number and place that document 01 gives.
  stopped :
      (answer : Character) → character_at draft i ≡ answer → ((number after : ℕ) → answer ≡ Clean number after → ⊥)
      → stream_at draft i ≡ stop (told (length draft) answer).refusal (told (length draft) answer).place
  unfolding told
  stopped (Clean number after) e none = absurd (none number after refl)
  stopped (Refused number place) e none =
      either (leb (length draft) i)
      (λ t.
      let gone : character_at draft i ≡ End =
      unfold character_at character in rw (drop_of_length-le draft (leb-true (length draft) i t)) in
      absurd (let z : ◌≡◌ {A = ℕ} 0 1 = cc in omega arith))
      (λ t. at_refusal number place e (leb-false (length draft) i t))
  stopped End e none = at_end (ended e)

  pub at_none :
      ((number after : ℕ) → character_at draft i ≡ Clean number after → ⊥)
      → stream_at draft i
      ≡ stop (told (length draft) (character_at draft i)).refusal (told (length draft) (character_at draft i)).place
  at_none none = stopped (character_at draft i) refl none
