-- One character, from the bytes at a place on (004, section 2; document 01, "From bytes to characters").
use Rattle.std.specs.Prelude.{ℕ, zero, suc, ◌+◌, ◌-◌, ◌*◌, ◌/◌, ◌%◌, Bool, List, [], ◌∷◌, ◌++◌, leb, ltb, eqb, length, get_or, drop, replicate, if◌then◌else◌}
use Rattle.std.specs.Prelude.{Option, Some, None, Result, Ok, Err}
use Rattle.chars.specs.Choice.{within}
use Rattle.chars.specs.Refusal.{number_of}
use Rattle.chars.specs.declared.Sequence.{Sequence as Found}
use Rattle.chars.specs.declared.Clean.{Clean as Cleaned}
use Rattle.chars.specs.declared.refusal.Refused.{Refused as Refusing}

-- What the bytes at a place are by RFC 3629, surrogates let through: a number and the byte after its sequence, or the first byte at which
-- they can no longer be the start of a sequence.
pub data Sequence : Type 0 where
  Whole : (number after : ℕ) → Sequence
  Malformed : (bad : ℕ) → Sequence

-- What stands at a place of a draft: a character after cleaning, with its number and the byte after the bytes that it took; refusal 2, 3,
-- 4 or 5, with its place; or the draft's end.
pub data Character : Type 0 where
  Clean : (number after : ℕ) → Character
  Refused : (number place : ℕ) → Character
  End : Character

-- `n` continuation bytes from `place` on, the first of them from `low` to `high` and the others 80 to BF, each of six bits
unfoldable pub continued : (n low high number : ℕ) → List ℕ → (place : ℕ) → Sequence
continued zero low high number bytes place = Whole number place
continued (suc n) low high number [] place = Malformed place
continued (suc n) low high number (b ∷ bytes) place =
    if within low high b
    then continued n 0x80 0xBF (number * 64 + (b - 0x80)) bytes (suc place)
    else Malformed place

-- The second byte of a sequence that begins with `b` (RFC 3629, section 4): from A0 after E0 and from 90 after F0, which shuts out
-- overlong forms, and up to 8F after F4, which shuts out numbers above 10FFFF. Surrogates, which the RFC forbids after ED, are let
-- through: 004 decides about them.
unfoldable pub lowest : (b : ℕ) → ℕ
lowest b = if eqb b 0xE0 then 0xA0 else if eqb b 0xF0 then 0x90 else 0x80

unfoldable pub highest : (b : ℕ) → ℕ
highest b = if eqb b 0xF4 then 0x8F else 0xBF

-- What the bytes from `place` on are by RFC 3629, section 4: a number and the byte after its sequence, or the byte at which they can
-- no longer be the start of a sequence.
unfoldable pub sequence : List ℕ → (place : ℕ) → Sequence
sequence [] place = Malformed place
sequence (b ∷ bytes) place =
    if ltb b 0x80 then Whole b (suc place)
    else if ltb b 0xC2 then Malformed place
    else if ltb b 0xE0 then continued 1 (lowest b) (highest b) (b - 0xC0) bytes (suc place)
    else if ltb b 0xF0 then continued 2 (lowest b) (highest b) (b - 0xE0) bytes (suc place)
    else if ltb b 0xF5 then continued 3 (lowest b) (highest b) (b - 0xF0) bytes (suc place)
    else Malformed place

-- a high surrogate
abbrev pub high : ℕ → Bool
high number = within 0xD800 0xDBFF number

-- a low surrogate
abbrev pub low : ℕ → Bool
low number = within 0xDC00 0xDFFF number

-- A high surrogate at `place` and the sequence right behind it: with a low one the pair is one character, with anything else,
-- malformed bytes and the draft's end included, it is 3.
unfoldable pub paired : (place number : ℕ) → Sequence → Character
paired place number (Whole second after) =
    if low second
    then Clean (0x10000 + (number - 0xD800) * 0x400 + (second - 0xDC00)) after
    else Refused 3 place
paired place number (Malformed bad) = Refused 3 place

-- A sequence at `place`, and the bytes from there on: malformed is 2, a low surrogate alone is 3. Only a high one looks behind its
-- sequence.
unfoldable pub judged : (place : ℕ) → Sequence → List ℕ → Character
judged place (Malformed bad) bytes = Refused 2 place
judged place (Whole number after) bytes =
    if high number then paired place number (sequence (drop (after - place) bytes) after)
    else if low number then Refused 3 place
    else Clean number after

-- CR at `place`, with the bytes behind it: CR before LF is one LF, any other CR is 5
unfoldable pub carriage : (place : ℕ) → List ℕ → Character
carriage place behind = if eqb (get_or behind 0 0) 0x0A then Clean 0x0A (place + 2) else Refused 5 place

-- The character at `place`, where `bytes` are the draft's bytes from there on: nul is 4, then CR, then UTF-8.
unfoldable pub character : List ℕ → (place : ℕ) → Character
character [] place = End
character (b ∷ bytes) place =
    if eqb b 0 then Refused 4 place
    else if eqb b 0x0D then carriage place bytes
    else judged place (sequence (b ∷ bytes) place) (b ∷ bytes)

-- the character at a place of a draft: a place past the draft is its end
unfoldable pub character_at : (draft : List ℕ) → (place : ℕ) → Character
character_at draft place = character (drop place draft) place

-- A character's number re-encoded: one to four bytes of UTF-8 (RFC 3629, section 3).
unfoldable pub encoded : (number : ℕ) → List ℕ
encoded n =
    if ltb n 0x80 then n ∷ []
    else if ltb n 0x800 then (0xC0 + n / 64) ∷ (0x80 + n % 64) ∷ []
    else if ltb n 0x10000 then (0xE0 + n / 4096) ∷ (0x80 + n / 64 % 64) ∷ (0x80 + n % 64) ∷ []
    else (0xF0 + n / 262144) ∷ (0x80 + n / 4096 % 64) ∷ (0x80 + n / 64 % 64) ∷ (0x80 + n % 64) ∷ []

-- The character's number that a number is re-encoded as: its own, and 10FFFF, the last, for one above it, which is no character's.
unfoldable pub nearest : (number : ℕ) → ℕ
nearest n = if leb n 0x10FFFF then n else 0x10FFFF

-- re-encoded bytes in four, with zeros behind
unfoldable pub padded : List ℕ → List ℕ
padded bytes = bytes ++ replicate (4 - length bytes) 0

-- What document 01 gives for each answer about a character: the number of refusal and its place, or the character's number and the
-- byte after it. Where the draft ends, at `length`, whoever wants a character is refused with 7.
pub record Told : Type 0 where
  pub refusal : ℕ
  pub place : ℕ
  pub number : ℕ
  pub after : ℕ

unfoldable pub told : (length : ℕ) → Character → Told
told length (Clean number after) = record { refusal = 0; place = 0; number = number; after = after }
told length (Refused number place) = record { refusal = number; place = place; number = 0; after = 0 }
told length End = record { refusal = 7; place = length; number = 0; after = 0 }

-- The answers of the code, each as the definition has it.
abbrev pub seen_sequence : Result Found ℕ → Sequence
seen_sequence (Ok s) = Whole s.number s.after
seen_sequence (Err bad) = Malformed bad

abbrev pub seen_clean : Result Cleaned Refusing → Character
seen_clean (Ok c) = Clean c.number c.after
seen_clean (Err r) = Refused (number_of r.refusal) r.place

abbrev pub seen : Result (Option Cleaned) Refusing → Character
seen (Ok (Some c)) = Clean c.number c.after
seen (Ok None) = End
seen (Err r) = Refused (number_of r.refusal) r.place
