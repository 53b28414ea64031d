-- A number that is re-encoded is decoded to itself: division by 64 splits it into six bits for each byte, and decoding joins them again. A
-- character that cleaning gives is neither nul, CR nor a surrogate, so it stands once more where it is re-encoded.
use mathlib.Core.Path.{◌≡◌, ◌∙◌, ap}
use mathlib.Core.Bool.{true, false}
use mathlib.Core.List.{List, [], ◌∷◌, ◌++◌}
use Prim.Native.Nat.{ℕ, suc, ◌+◌, ◌-◌, ◌*◌, ◌/◌, ◌%◌, ◌<◌, ◌≤◌}
use native.Mathlib.Numerals.{add-one}
use native.Mathlib.Omega.{arith}
use lib.Dec.{eqb}
use lib.ListN.{length, get_or}
use borrow.Author.Tests.{le-leb, lt-leb, eqb-true, ne_eqb, lt-ltb}
use Rattle.chars.specs.Choice.{among}
use Rattle.chars.specs.Character.{continued, sequence, lowest, highest, judged, character, encoded}
use Rattle.chars.specs.Rfc3629.{utf8_char}
use Rattle.chars.specs.Character.{Whole}
use Rattle.chars.specs.Character.{Clean}
use Rattle.chars.proofs.Cases.{either}
use Rattle.chars.proofs.Sequences.{begins_two, begins_three, begins_four}
use Rattle.chars.proofs.Extent.{inside, encoded_one, encoded_two, encoded_three, encoded_four, by_range}
use Rattle.chars.proofs.Characters.{character_is}
use Rattle.chars.proofs.Grammar.{by_side, one_character, no_nul_byte, numbered}

-- one continuation byte
step :
    (n low high v b : ℕ) (bytes : List ℕ) (place : ℕ) → low ≤ b → b ≤ high
    → continued (suc n) low high v (b ∷ bytes) place ≡ continued n 0x80 0xBF (v * 64 + (b - 0x80)) bytes (suc place)
unfolding continued
step n low high v b bytes place g h = rw (inside low high b g h)

-- six bits of a number, behind the second byte
six :
    (n v m : ℕ) (bytes : List ℕ) (place : ℕ)
    → continued (suc n) 0x80 0xBF v ((0x80 + m % 64) ∷ bytes) place ≡ continued n 0x80 0xBF (v * 64 + m % 64) bytes (suc place)
six n v m bytes place =
    step n 0x80 0xBF v (0x80 + m % 64) bytes place (omega arith) (omega arith)
    ∙ ap (λ d. continued n 0x80 0xBF (v * 64 + d) bytes (suc place)) (omega arith)

-- The second byte, six bits of a number too: behind E0 and F0 they are not too low, and behind F4 not too high.
module _ (b m : ℕ) (bytes : List ℕ) where
  not_low : (b ≡ 0xE0 → 0x20 ≤ m % 64) → (b ≡ 0xF0 → 0x10 ≤ m % 64) → lowest b ≤ 0x80 + m % 64
  unfolding lowest
  not_low e f =
      either (eqb b 0xE0)
      (λ t. rw t (omega (arith, e (eqb-true b 0xE0 t))))
      (λ t. rw t (either (eqb b 0xF0) (λ u. rw u (omega (arith, f (eqb-true b 0xF0 u)))) (λ u. rw u (omega arith))))

  not_high : (b ≡ 0xF4 → m % 64 < 0x10) → 0x80 + m % 64 ≤ highest b
  unfolding highest
  not_high e = either (eqb b 0xF4) (λ t. rw t (omega (arith, e (eqb-true b 0xF4 t)))) (λ t. rw t (omega arith))

  second :
      (n v place : ℕ) → (b ≡ 0xE0 → 0x20 ≤ m % 64) → (b ≡ 0xF0 → 0x10 ≤ m % 64) → (b ≡ 0xF4 → m % 64 < 0x10)
      → continued (suc n) (lowest b) (highest b) v ((0x80 + m % 64) ∷ bytes) place
      ≡ continued n 0x80 0xBF (v * 64 + m % 64) bytes (suc place)
  second n v place e f g =
      step n (lowest b) (highest b) v (0x80 + m % 64) bytes place (not_low e f) (not_high g)
      ∙ ap (λ d. continued n 0x80 0xBF (v * 64 + d) bytes (suc place)) (omega arith)

-- no more bytes are wanted, and the number is `n`
whole : (v n place after : ℕ) (bytes : List ℕ) → v ≡ n → place ≡ after → continued 0 0x80 0xBF v bytes place ≡ Whole n after
unfolding continued
whole v n place after bytes e f = cc

pub decoded :
    (n : ℕ) (rest : List ℕ) (place : ℕ) → n < 0x110000 → sequence (encoded n ++ rest) place ≡ Whole n (place + length (encoded n))
decoded n rest place h =
    by_range n
    (λ l. rw (encoded_one n l) (unfold sequence in rw (lt-ltb n 0x80 l) (rw add-one)))
    (λ g l.
    let b = 0xC0 + n / 64 in
    rw (encoded_two n g l)
    (begins_two b _ place (omega arith) (omega arith)
    ∙ second b n rest 0 (b - 0xC0) (suc place) (λ e. omega arith) (λ e. omega arith) (λ e. omega arith)
    ∙ whole _ n _ (place + 2) rest (omega arith) (omega arith)))
    (λ g l.
    let b = 0xE0 + n / 4096 in
    let v = b - 0xE0 in
    rw (encoded_three n g l)
    (begins_three b _ place (omega arith) (omega arith)
    ∙ second b (n / 64) _ 1 v (suc place) (λ e. omega arith) (λ e. omega arith) (λ e. omega arith)
    ∙ six 0 _ n rest _
    ∙ whole _ n _ (place + 3) rest (omega arith) (omega arith)))
    (λ g.
    let b = 0xF0 + n / 262144 in
    let v = b - 0xF0 in
    rw (encoded_four n g)
    (begins_four b _ place (omega arith) (omega arith)
    ∙ second b (n / 4096) _ 2 v (suc place) (λ e. omega arith) (λ e. omega arith) (λ e. omega arith)
    ∙ six 1 _ (n / 64) _ _
    ∙ six 0 _ n rest _
    ∙ whole _ n _ (place + 4) rest (omega arith) (omega arith)))

-- neither nul nor CR: its sequence is judged
is_judged :
    (bytes : List ℕ) (place : ℕ) → 0 < length bytes → (get_or bytes 0 0 ≡ 0 → ⊥) → (get_or bytes 0 0 ≡ 0x0D → ⊥)
    → character bytes place ≡ judged place (sequence bytes place) bytes
unfolding character
is_judged [] place h n r = absurd (omega arith)
is_judged (b ∷ bytes) place h n r = simp (ne_eqb b 0 n, ne_eqb b 0x0D r)

-- the first byte of a number's bytes is nul or CR only if the number is
first_byte :
    (n : ℕ) (rest : List ℕ) → 0 < n → (n ≡ 0x0D → ⊥)
    → (0 < length (encoded n ++ rest)) × (get_or (encoded n ++ rest) 0 0 ≡ 0 → ⊥) × (get_or (encoded n ++ rest) 0 0 ≡ 0x0D → ⊥)
first_byte n rest p r =
    by_range n
    (λ l. rw (encoded_one n l) (omega arith, λ e. omega arith, r))
    (λ g l. rw (encoded_two n g l) (omega arith, λ e. omega arith, λ e. omega arith))
    (λ g l. rw (encoded_three n g l) (omega arith, λ e. omega arith, λ e. omega arith))
    (λ g. rw (encoded_four n g) (omega arith, λ e. omega arith, λ e. omega arith))

-- a number that is neither nul, CR nor a surrogate is a character where it is re-encoded
pub stands :
    (n : ℕ) → n < 0x110000 → 0 < n → (n ≡ 0x0D → ⊥) → (0xD800 ≤ n → n ≤ 0xDFFF → ⊥) → (rest : List ℕ) (at : ℕ)
    → character (encoded n ++ rest) at ≡ Clean n (at + length (encoded n))
stands n small no_nul no_return no_surrogate rest at =
    let f = first_byte n rest no_nul no_return in
    is_judged (encoded n ++ rest) at f.0 f.1 f.2
    ∙ rw (decoded n rest at small)
    (unfold judged in by_side n no_surrogate
    (λ l. simp (lt-leb 0xD800 n l, lt-leb 0xDC00 n (omega arith)))
    (λ l. simp (
      le-leb 0xD800 n (omega arith),
      lt-leb n 0xDBFF (omega arith),
      le-leb 0xDC00 n (omega arith),
      lt-leb n 0xDFFF l,
    )))

-- what is re-encoded of a character: one character by RFC 3629, with no nul byte and no surrogate
pub record WellFormed (number : ℕ) : Type 0 where
  pub grammar : utf8_char (encoded number) ≡ true
  pub no_nul : among 0 (encoded number) ≡ false
  pub no_surrogate : 0xD800 ≤ number → number ≤ 0xDFFF → ⊥

module _ (bytes : List ℕ) (place number after : ℕ) (e : character bytes place ≡ Clean number after) where
  pub again : (rest : List ℕ) (at : ℕ) → character (encoded number ++ rest) at ≡ Clean number (at + length (encoded number))
  again =
      let is = character_is bytes place number after e in
      stands number is.small is.no_nul is.no_return is.no_surrogate

  pub well_formed : WellFormed number
  well_formed =
      let is = character_is bytes place number after e in
      record {
        grammar = one_character number is.small is.no_surrogate;
        no_nul = no_nul_byte number is.no_nul;
        no_surrogate = is.no_surrogate;
      }

-- Whatever RFC 3629 takes for one character is one, wherever it stands, but for nul and CR.
module _ (bytes : List ℕ) where
  other : (number n : ℕ) → bytes ≡ encoded number → n < 0x80 → (bytes ≡ n ∷ [] → ⊥) → number ≡ n → ⊥
  other number n are l is-not e = is-not (are ∙ ap encoded e ∙ encoded_one n l)

  stood :
      (number : ℕ) (rest : List ℕ) (at : ℕ) → bytes ≡ encoded number
      → character (encoded number ++ rest) at ≡ Clean number (at + length (encoded number))
      → character (bytes ++ rest) at ≡ Clean number (at + length bytes)
  stood number rest at are e = rw are e

  pub accepted :
      utf8_char bytes ≡ true → (bytes ≡ 0 ∷ [] → ⊥) → (bytes ≡ 0x0D ∷ [] → ⊥)
      → (number : ℕ) × ((rest : List ℕ) (at : ℕ) → character (bytes ++ rest) at ≡ Clean number (at + length bytes))
  accepted e no_nul no_return =
      let n = numbered bytes e in
      let nul = other n.number 0 n.are (omega arith) no_nul in
      let return = other n.number 0x0D n.are (omega arith) no_return in (
        n.number,
        λ rest at.
            stood n.number rest at n.are (stands n.number n.small (omega arith) return n.no_surrogate rest at),
      )
