-- Which refusals a stream of characters ends with, and where: 2 to 5 at the place of the character that is none, or 7 at the draft's end.
use mathlib.Core.Path.{◌≡◌, refl, sym}
use mathlib.Core.List.{List, [], ◌∷◌}
use Prim.Native.Nat.{ℕ, zero, suc, ◌-◌, ◌≤◌}
use native.Mathlib.Omega.{arith}
use lib.Dec.{leb, eqb}
use lib.ListN.{length, get_or, drop}
use borrow.Author.Tests.{leb-true, leb-false}
use Rattle.chars.specs.Character.{sequence, high, low, paired, judged, carriage, character, character_at}
use Rattle.chars.specs.Stream.{Stream, next, stop, begun, stream, stream_at}
use Rattle.chars.specs.Character.{Sequence}
use Rattle.chars.specs.Character.{Whole, Malformed}
use Rattle.chars.specs.Character.{Character}
use Rattle.chars.specs.Character.{Clean, Refused, End}
use Rattle.chars.proofs.Cases.{by_test, either}
use Rattle.chars.proofs.Streams.{at_end, at_character, at_refusal, ended}

pub record Refusal (place number bad : ℕ) : Type 0 where
  pub here : bad ≡ place
  pub low : 2 ≤ number
  pub high : number ≤ 5

is : {place number bad : ℕ} (n : ℕ) → 2 ≤ n → n ≤ 5 → Refused n place ≡ Refused number bad → Refusal place number bad
is {place} {number} {bad} n g l e =
    let p : place ≡ bad = cc in
    let q : n ≡ number = cc in
    record { here = sym p; low = omega arith; high = omega arith }

none : {P : Type 0} {number after refusal bad : ℕ} → Clean number after ≡ Refused refusal bad → P
none e = absurd (let z : ◌≡◌ {A = ℕ} 0 1 = cc in omega arith)

paired_refused :
    (place v : ℕ) (s : Sequence) (number bad : ℕ) → paired place v s ≡ Refused number bad → Refusal place number bad
unfolding paired
paired_refused place v (Malformed at) number bad e = is 3 (omega arith) (omega arith) e
paired_refused place v (Whole second after) number bad e =
    by_test (low second) (λ t e. none e) (λ t e. is 3 (omega arith) (omega arith) e) e

judged_refused :
    (place : ℕ) (s : Sequence) (bytes : List ℕ) (number bad : ℕ) → judged place s bytes ≡ Refused number bad
    → Refusal place number bad
unfolding judged
judged_refused place (Malformed at) bytes number bad e = is 2 (omega arith) (omega arith) e
judged_refused place (Whole v after) bytes number bad e =
    by_test (high v)
    (λ t e. paired_refused place v (sequence (drop (after - place) bytes) after) number bad e)
    (λ t e. by_test (low v) (λ t e. is 3 (omega arith) (omega arith) e) (λ t e. none e) e)
    e

pub character_refused :
    (bytes : List ℕ) (place number bad : ℕ) → character bytes place ≡ Refused number bad → Refusal place number bad
unfolding character carriage
character_refused [] place number bad e = absurd (let z : ◌≡◌ {A = ℕ} 0 1 = cc in omega arith)
character_refused (b ∷ bytes) place number bad e =
    by_test (eqb b 0)
    (λ t e. is 4 (omega arith) (omega arith) e)
    (λ t e. by_test (eqb b 0x0D)
    (λ r e. by_test (eqb (get_or bytes 0 0) 0x0A) (λ t e. none e) (λ t e. is 5 (omega arith) (omega arith) e) e)
    (λ r e. judged_refused place (sequence (b ∷ bytes) place) (b ∷ bytes) number bad e)
    e)
    e

-- a stream ends with 2 to 7
abbrev pub Stops : Stream → Type 0
Stops (next number place after rest) = Stops rest
Stops (stop refusal place) = (2 ≤ refusal) × (refusal ≤ 7)

begun_stops :
    (place : ℕ) (answer : Character) (behind : ℕ → Stream)
    → ((number bad : ℕ) → answer ≡ Refused number bad → Refusal place number bad)
    → ((passed : ℕ) → Stops (behind passed)) → Stops (begun place answer behind)
unfolding begun
begun_stops place (Clean number after) behind known rest = rest (after - suc place)
begun_stops place (Refused number bad) behind known rest =
    let r = known number bad refl in (r.low, omega arith)
begun_stops place End behind known rest = (omega arith, omega arith)

stream_stops : (passed place : ℕ) (bytes : List ℕ) → Stops (stream passed place bytes)
unfolding stream
stream_stops passed place [] = (omega arith, omega arith)
stream_stops (suc passed) place (b ∷ bytes) = stream_stops passed (suc place) bytes
stream_stops zero place (b ∷ bytes) =
    begun_stops place (character (b ∷ bytes) place) _ (character_refused (b ∷ bytes) place)
    (λ passed. stream_stops passed (suc place) bytes)

pub stops : (draft : List ℕ) (i : ℕ) → Stops (stream_at draft i)
unfolding stream_at
stops draft i = stream_stops 0 _ (drop i draft)

-- where no character stands, the stream stops there, or at the draft's end
pub stopped_at :
    (draft : List ℕ) (i refusal place : ℕ) → i ≤ length draft → stream_at draft i ≡ stop refusal place
    → (i ≤ place) × (place ≤ length draft)
unfolding character_at
stopped_at draft i refusal place h s = go (character_at draft i) refl
  where
    go : (answer : Character) → character_at draft i ≡ answer → (i ≤ place) × (place ≤ length draft)
    go (Clean number after) e =
        let is = at_character draft i number after e in
        absurd (let z : ◌≡◌ {A = ℕ} 0 1 = cc in omega arith)
    go (Refused number bad) e =
        let r = character_refused (drop i draft) i number bad e in
        either (leb (length draft) i)
        (λ t.
        let is = at_end draft i (leb-true (length draft) i t) in
        let p : length draft ≡ place = cc in
        omega arith)
        (λ t.
        let is = at_refusal draft i number bad e (leb-false (length draft) i t) in
        let p : bad ≡ place = cc in
        let l = leb-false (length draft) i t in
        (omega arith, omega arith))
    go End e =
        let is = at_end draft i (ended draft i e) in
        let p : length draft ≡ place = cc in
        (omega arith, omega arith)
