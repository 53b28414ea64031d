-- A character that cleaning gives: where it ends, and which number it can have. It takes one to six bytes and never reaches past the
-- draft, since its sequences do not; its number is never nul, CR or a surrogate, since those are refused or joined.
use mathlib.Core.Path.{◌≡◌, refl, sym, ◌∙◌, ap}
use mathlib.Core.Bool.{true, false, true≢false}
use mathlib.Core.List.{List, [], ◌∷◌}
use Prim.Native.Nat.{ℕ, ◌+◌, ◌-◌, ◌*◌, ◌<◌, ◌≤◌}
use native.Mathlib.Omega.{arith}
use lib.Dec.{leb, eqb}
use lib.ListN.{length, get_or, drop, length-drop, drop_of_length-le}
use lib.Seq.{drop-cons}
use native.Mathlib.Numerals.{add-one}
use borrow.Author.Tests.{le-leb, lt-ltb, lt-leb, leb-true, leb-false, eqb-true, eqb-false, eq-eqb, ne_eqb}
use Rattle.chars.specs.Choice.{within}
use Rattle.chars.specs.Character.{sequence, high, low, paired, judged, carriage, character, character_at, encoded}
use Rattle.chars.specs.Character.{Sequence}
use Rattle.chars.specs.Character.{Whole, Malformed}
use Rattle.chars.specs.Character.{Clean, Refused, End}
use Rattle.chars.proofs.Cases.{by_test, either}
use Rattle.chars.proofs.Extent.{within_true, Sound, sequence_sound, encoded_one, encoded_three, encoded_size}

-- a refusal and the end are no character
pub refused : {P : Type 0} {bad place number after : ℕ} → Refused bad place ≡ Clean number after → P
refused e = absurd (let z : ◌≡◌ {A = ℕ} 0 1 = cc in omega arith)

pub ended : {P : Type 0} {number after : ℕ} → End ≡ Clean number after → P
ended e = absurd (let z : ◌≡◌ {A = ℕ} 0 1 = cc in omega arith)

-- what is known of a number outside a range
pub outside : (from to n : ℕ) → within from to n ≡ false → from ≤ n → n ≤ to → ⊥
outside from to n t g h = true≢false (rw (le-leb from n g, le-leb n to h) at t)

pub record Is (bytes : List ℕ) (place number after : ℕ) : Type 0 where
  pub on : place < after
  pub most : after ≤ place + 6
  pub there : after ≤ place + length bytes
  -- it takes no fewer bytes than it is re-encoded in
  pub enough : place + length (encoded number) ≤ after
  pub small : number < 0x110000
  pub no_nul : 0 < number
  pub no_return : number ≡ 0x0D → ⊥
  pub no_surrogate : 0xD800 ≤ number → number ≤ 0xDFFF → ⊥
  -- CR gives LF
  pub returned : get_or bytes 0 0 ≡ 0x0D → number ≡ 0x0A
  -- any other character of US-ASCII is its own byte
  pub single : number < 0x80 → (get_or bytes 0 0 ≡ 0x0D → ⊥) → (after ≡ place + 1) × (get_or bytes 0 0 ≡ number)

-- CR at `place`, with LF behind it
with_line :
    (b : ℕ) (behind : List ℕ) (place number after : ℕ) → b ≡ 0x0D → carriage place behind ≡ Clean number after
    → Is (b ∷ behind) place number after
unfolding carriage
with_line b [] place number after r e = refused e
with_line b (d ∷ behind) place number after r e =
    by_test (eqb d 0x0A)
    (λ t e.
    let p : 0x0A ≡ number = cc in
    let q : place + 2 ≡ after = cc in
    record {
      on = omega arith;
      most = omega arith;
      there = omega arith;
      enough = omega (arith, ap length (encoded_one number (omega arith)));
      small = omega arith;
      no_nul = omega arith;
      no_return = λ h. omega arith;
      no_surrogate = λ g h. omega arith;
      returned = λ h. sym p;
      single = λ g h. absurd (h r);
    })
    (λ t e. refused e)
    e

-- a high surrogate in three bytes, and what stands behind it
joined :
    (bytes : List ℕ) (place v a number after : ℕ) (s : Sequence) → Sound bytes place v a → (get_or bytes 0 0 ≡ 0x0D → ⊥) → high v ≡ true
    → sequence (drop (a - place) bytes) a ≡ s → paired place v s ≡ Clean number after → Is bytes place number after
unfolding paired
joined bytes place v a number after (Malformed bad) first nr t q e = refused e
joined bytes place v a number after (Whole w c) first nr t q e =
    by_test (low w)
    (λ l e.
    let r = within_true 0xD800 0xDBFF v t in
    let k = within_true 0xDC00 0xDFFF w l in
    let second = sequence_sound (drop (a - place) bytes) a w c q in
    let three = ap length (encoded_three v (omega arith) (omega arith)) in
    let three' = ap length (encoded_three w (omega arith) (omega arith)) in
    let left = length-drop (a - place) bytes in
    let p : 0x10000 + (v - 0xD800) * 0x400 + (w - 0xDC00) ≡ number = cc in
    let q : c ≡ after = cc in
    record {
      on = omega arith;
      most = omega arith;
      there = omega arith;
      enough = omega (arith, encoded_size number);
      small = omega arith;
      no_nul = omega arith;
      no_return = λ h. omega arith;
      no_surrogate = λ g h. omega arith;
      returned = λ h. absurd (nr h);
      single = λ g h. absurd (omega arith);
    })
    (λ l e. refused e)
    e

-- a sequence that is neither nul nor CR
plainly :
    (bytes : List ℕ) (place number after : ℕ) (s : Sequence) → sequence bytes place ≡ s → (get_or bytes 0 0 ≡ 0 → ⊥)
    → (get_or bytes 0 0 ≡ 0x0D → ⊥) → judged place s bytes ≡ Clean number after → Is bytes place number after
unfolding judged
plainly bytes place number after (Malformed bad) q n r e = refused e
plainly bytes place number after (Whole v a) q n r e =
    let first = sequence_sound bytes place v a q in
    by_test (high v)
    (λ t e. joined bytes place v a number after (sequence (drop (a - place) bytes) a) first r t refl e)
    (λ t e. by_test (low v)
    (λ l e. refused e)
    (λ l e.
    let p : v ≡ number = cc in
    let q : a ≡ after = cc in
    let sized = encoded_size v in
    record {
      on = omega arith;
      most = omega arith;
      there = omega arith;
      enough = omega (arith, first.so_many, ap (λ n. length (encoded n)) p);
      small = omega arith;
      no_nul =
          either (eqb v 0)
          (λ z. let is = eqb-true v 0 z in absurd (n (first.lone (omega arith) ∙ is)))
          (λ z. omega (arith, eqb-false v 0 z));
      no_return = λ h. r (first.lone (omega arith) ∙ p ∙ h);
      no_surrogate =
          λ g h.
          either (leb v 0xDBFF)
          (λ z. outside 0xD800 0xDBFF v t (omega arith) (leb-true v 0xDBFF z))
          (λ z. outside 0xDC00 0xDFFF v l (leb-false v 0xDBFF z) (omega arith));
      returned = λ h. absurd (r h);
      single = λ g h. (omega (arith, ap length (encoded_one v (omega arith))), first.lone (omega arith) ∙ p);
    })
    e)
    e

pub character_is :
    (bytes : List ℕ) (place number after : ℕ) → character bytes place ≡ Clean number after → Is bytes place number after
unfolding character
character_is [] place number after e = ended e
character_is (b ∷ bytes) place number after e =
    by_test (eqb b 0)
    (λ t e. refused e)
    (λ t e. by_test (eqb b 0x0D)
    (λ r e. with_line b bytes place number after (eqb-true b 0x0D r) e)
    (λ r e. plainly (b ∷ bytes) place number after (sequence (b ∷ bytes) place) refl (eqb-false b 0 t) (eqb-false b 0x0D r) e)
    e)
    e

-- Only where no byte is left has the draft ended: every byte is a character or a refusal.
no_end : {P : Type 0} {bad place : ℕ} → Refused bad place ≡ End → P
no_end e = absurd (let z : ◌≡◌ {A = ℕ} 0 1 = cc in omega arith)

clean_no_end : {P : Type 0} {number after : ℕ} → Clean number after ≡ End → P
clean_no_end e = absurd (let z : ◌≡◌ {A = ℕ} 0 1 = cc in omega arith)

paired_goes_on : (place number : ℕ) (s : Sequence) → paired place number s ≡ End → ⊥
unfolding paired
paired_goes_on place number (Malformed bad) e = no_end e
paired_goes_on place number (Whole second after) e = by_test (low second) (λ t e. clean_no_end e) (λ t e. no_end e) e

judged_goes_on : (place : ℕ) (s : Sequence) (bytes : List ℕ) → judged place s bytes ≡ End → ⊥
unfolding judged
judged_goes_on place (Malformed bad) bytes e = no_end e
judged_goes_on place (Whole number after) bytes e =
    by_test (high number)
    (λ t e. paired_goes_on place number (sequence (drop (after - place) bytes) after) e)
    (λ t e. by_test (low number) (λ t e. no_end e) (λ t e. clean_no_end e) e)
    e

pub goes_on : (b : ℕ) (bytes : List ℕ) (place : ℕ) → character (b ∷ bytes) place ≡ End → ⊥
unfolding character carriage
goes_on b bytes place e =
    by_test (eqb b 0)
    (λ t e. no_end e)
    (λ t e. by_test (eqb b 0x0D)
    (λ r e. by_test (eqb (get_or bytes 0 0) 0x0A) (λ t e. clean_no_end e) (λ t e. no_end e) e)
    (λ r e. judged_goes_on place (sequence (b ∷ bytes) place) (b ∷ bytes) e)
    e)
    e

-- The character at `at`, by the byte there.
module _ (draft : List ℕ) (at : ℕ) where
  pub at_none : length draft ≤ at → character_at draft at ≡ End
  unfolding character character_at
  at_none h = rw (drop_of_length-le draft h)

  pub at_nul : at < length draft → get_or draft at 0 ≡ 0 → character_at draft at ≡ Refused 4 at
  unfolding character character_at
  at_nul h e = rw (drop-cons draft at 0 h) (simp (eq-eqb (get_or draft at 0) 0 e))

  pub at_return : at < length draft → get_or draft at 0 ≡ 0x0D → character_at draft at ≡ carriage at (drop (at + 1) draft)
  unfolding character character_at
  at_return h e =
      rw (drop-cons draft at 0 h, add-one)
      (simp (ne_eqb (get_or draft at 0) 0 (λ z. omega arith), eq-eqb (get_or draft at 0) 0x0D e))

  pub at_other :
      at < length draft → (get_or draft at 0 ≡ 0 → ⊥) → (get_or draft at 0 ≡ 0x0D → ⊥)
      → character_at draft at ≡ judged at (sequence (drop at draft) at) (drop at draft)
  unfolding character character_at
  at_other h n r =
      rw (drop-cons draft at 0 h) (simp (ne_eqb (get_or draft at 0) 0 n, ne_eqb (get_or draft at 0) 0x0D r))

  pub at_ascii :
      at < length draft → (get_or draft at 0 ≡ 0 → ⊥) → (get_or draft at 0 ≡ 0x0D → ⊥) → get_or draft at 0 < 0x80
      → character_at draft at ≡ Clean (get_or draft at 0) (at + 1)
  unfolding character character_at judged sequence
  at_ascii h n r small =
      let b = get_or draft at 0 in
      rw (drop-cons draft at 0 h, add-one)
      (simp (ne_eqb b 0 n, ne_eqb b 0x0D r, lt-ltb b 0x80 small, lt-leb 0xD800 b (omega arith), lt-leb 0xDC00 b (omega arith)))

pub ruleset characters = (at_none, at_nul, at_return, at_other)
