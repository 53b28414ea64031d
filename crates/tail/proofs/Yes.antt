-- Where tail says yes. It says yes of the draft's length; and if it says yes of a place, whitespace stands there, so that it says yes of
-- the next place as well: HT, SP and LF are one byte, and behind CR stands the LF that belongs to it.
use mathlib.Core.Path.{◌≡◌, refl, sym, ◌∙◌, ap}
use mathlib.Core.Bool.{true, false≢true}
use mathlib.Core.List.{List, [], ◌∷◌}
use Prim.Native.Nat.{ℕ, zero, suc, ◌+◌, ◌-◌, ◌<◌, ◌≤◌}
use native.Mathlib.Omega.{arith}
use native.Mathlib.Nat.{add-zero}
use lib.Dec.{eqb, ltb}
use lib.ListN.{length, get_or, drop}
use lib.Seq.{get_or-drop}
use borrow.Author.Tests.{eqb-true, eqb-false, ltb-true, ltb-false, le-ltb, eq-eqb, ne_eqb}
use Rattle.chars.specs.Limits.{Limits}
use Rattle.chars.specs.Character.{carriage, character, character_at}
use Rattle.chars.specs.Stream.{stream_at}
use Rattle.chars.specs.Character.{Character}
use Rattle.chars.specs.Character.{Clean, Refused, End}
use Rattle.chars.proofs.Cases.{either, by_test}
use Rattle.chars.proofs.Characters.{refused}
use Rattle.chars.proofs.Refusals.{character_refused}
use Rattle.chars.proofs.Streams.{at_character, at_refusal, plain, ended}
use Rattle.tokens.specs.Sorts.{white}
use Rattle.tokens.specs.Tail.{Tail, blank, tail}
use Rattle.tokens.proofs.Classes.{foreign}
use Rattle.tokens.proofs.Skipping.{reaches, own_byte}
use Rattle.tail.proofs.Blanks.{blank_end}

abbrev pub yes : Tail
yes = record { number = 0; yes = 1; place = 0 }

-- CR with LF is one character, two bytes long
carriage_pair :
    (place number after : ℕ) (behind : List ℕ) → carriage place behind ≡ Clean number after
    → (after ≡ place + 2) × (get_or behind 0 0 ≡ 0x0A)
unfolding carriage
carriage_pair place number after behind =
    by_test (eqb (get_or behind 0 0) 0x0A)
    (λ t e. (cc, eqb-true (get_or behind 0 0) 0x0A t))
    (λ t e. refused e)

pair_in : (bytes : List ℕ) (place number after : ℕ) → character bytes place ≡ Clean number after → get_or bytes 0 0 ≡ 0x0D
    → (after ≡ place + 2) × (get_or bytes 1 0 ≡ 0x0A)
unfolding character
pair_in [] place number after e r = absurd (omega arith)
pair_in (b ∷ bytes) place number after e r =
    carriage_pair place number after bytes (rw (ne_eqb b 0 (λ z. omega arith), eq-eqb b 0x0D r) at e)

module _ (draft : List ℕ) where
  pair :
      (i number after : ℕ) → character_at draft i ≡ Clean number after → get_or draft i 0 ≡ 0x0D
      → (after ≡ i + 2) × (get_or draft (i + 1) 0 ≡ 0x0A)
  unfolding character_at
  pair i number after e r =
      let here : get_or (drop i draft) 0 0 ≡ get_or draft i 0 = get_or-drop i draft 0 0 ∙ ap (λ k. get_or draft k 0) (add-zero i) in
      let two = pair_in (drop i draft) i number after e (here ∙ r) in
      (two.0, sym (get_or-drop i draft 1 0) ∙ two.1)

  -- a line feed by itself
  behind_line : (i : ℕ) → i < length draft → get_or draft i 0 ≡ 0x0A → blank (stream_at draft i) ≡ blank (stream_at draft (i + 1))
  unfolding blank white
  behind_line i h l =
      let one = plain draft i h (omega arith) (omega arith) (λ r. omega arith) in
      rw (at_character draft i (get_or draft i 0) (i + 1) one, l)

  -- behind a character that is whitespace
  behind_white :
      (i number after : ℕ) → character_at draft i ≡ Clean number after → white number ≡ true
      → blank (stream_at draft after) ≡ yes → blank (stream_at draft (i + 1)) ≡ yes
  behind_white i number after e w y =
      let far = reaches draft i number after e in
      either (eqb (get_or draft i 0) 0x0D)
      (λ t.
      let two = pair i number after e (eqb-true (get_or draft i 0) 0x0D t) in
      let on : i + 1 + 1 ≡ after = omega (arith, two.0) in
      behind_line (i + 1) (omega (arith, two.0, far.1)) two.1 ∙ (ap (λ k. blank (stream_at draft k)) on ∙ y))
      (λ t.
      let low : number < 0x80 = either (ltb number 0x80)
      (λ l. ltb-true number 0x80 l)
      (λ l. absurd (false≢true (sym (foreign number (ltb-false number 0x80 l)).no_white ∙ w))) in
      let own = own_byte draft i number after e low (λ r. eqb-false (get_or draft i 0) 0x0D t r) in
      ap (λ k. blank (stream_at draft k)) (sym own.0) ∙ y)

  not_yes : {place : ℕ} → ◌≡◌ {A = Tail} (record { number = 0; yes = 0; place = place }) yes → ⊥
  not_yes e = omega (arith, ap (λ t. t.yes) e)

  next_yes : (i : ℕ) → i < length draft → blank (stream_at draft i) ≡ yes → blank (stream_at draft (i + 1)) ≡ yes
  unfolding blank character_at
  next_yes i h y = go (character_at draft i) refl
    where
      go : (answer : Character) → character_at draft i ≡ answer → blank (stream_at draft (i + 1)) ≡ yes
      go (Clean number after) e =
          by_test (white number)
          (λ w z. behind_white i number after e w z)
          (λ w z. absurd (not_yes z))
          (rw (at_character draft i number after e) at y)
      go (Refused number bad) e =
          let r = character_refused (drop i draft) i number bad e in
          absurd (not_yes (rw (at_refusal draft i number bad e h, ne_eqb number 7 (λ z. omega (arith, r.high))) at y))
      go End e = absurd (omega (arith, ended draft i e))

  later_yes : (n i : ℕ) → i + n ≤ length draft → blank (stream_at draft i) ≡ yes → blank (stream_at draft (i + n)) ≡ yes
  later_yes zero i h y = rw (add-zero i) y
  later_yes (suc n) i h y =
      let on : i + 1 + n ≡ i + suc n = omega arith in
      rw (← on) (later_yes n (i + 1) (omega arith) (next_yes i (omega arith) y))

module _ (L : Limits) (draft : List ℕ) (few : length draft ≤ L.draft) where
  within_draft : (place : ℕ) → place ≤ length draft → tail L draft place ≡ blank (stream_at draft place)
  unfolding tail
  within_draft place h = rw (le-ltb L.draft (length draft) few, le-ltb (length draft) place h)

  -- tail says yes of the draft's length
  pub yes_of_the_length : tail L draft (length draft) ≡ yes
  yes_of_the_length = within_draft (length draft) (omega arith) ∙ blank_end draft (length draft) (omega arith)

  -- if it says yes of a place, it says yes of every later place up to the length
  pub yes_behind : (place later : ℕ) → place ≤ later → later ≤ length draft → tail L draft place ≡ yes → tail L draft later ≡ yes
  yes_behind place later on h y =
      let far : place + (later - place) ≡ later = omega arith in
      within_draft later h
      ∙ rw (← far) (later_yes draft (later - place) place (omega arith) (sym (within_draft place (omega arith)) ∙ y))
