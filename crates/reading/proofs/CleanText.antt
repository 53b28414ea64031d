-- All text that a reading holds is well formed UTF-8 without nul. Clean bytes are whole characters, each re-encoded, and a character that
-- cleaning gives is one of RFC 3629 and no nul. An entity's text is its token's, or that without the sign before a name, which is a
-- character of one byte; its string is the token's; and the other entities have neither.
use mathlib.Core.Path.{◌≡◌}
use mathlib.Core.Bool.{true, false}
use mathlib.Core.List.{List, [], ◌++◌, tail}
use Prim.Native.Nat.{ℕ, zero, suc, ◌+◌, ◌-◌, ◌<◌, ◌≤◌}
use native.Mathlib.Omega.{arith}
use lib.Dec.{leb, ltb, eqb}
use lib.ListN.{length}
use borrow.Author.Tests.{eqb-true, eqb-false}
use Rattle.chars.specs.Limits.{Limits}
use Rattle.chars.specs.Choice.{among}
use Rattle.chars.specs.Character.{character_at, encoded}
use Rattle.chars.specs.Rfc3629.{utf8_char}
use Rattle.chars.specs.Stream.{start, stream_at, clean}
use Rattle.chars.proofs.Cases.{either}
use Rattle.chars.proofs.RoundTrip.{well_formed}
use Rattle.tokens.specs.Tokens.{Whole, Tokens, tokens, between}
use Rattle.tokens.proofs.Skipping.{by_character, reaches}
use Rattle.tokens.proofs.Clean.{clean_zero}
use Rattle.tokens.proofs.OneByOne.{Sound, OneByOne, more, final, none, one_by_one}
use Rattle.entities.specs.Making.{fresh, Room}
use Rattle.entities.proofs.Cutting.{first_byte}
use Rattle.reading.specs.Reading.{refusal, text_of, string_of, read_with}
use Rattle.reading.proofs.TextOf.{Every, nothing, Clear, all_clear}

-- characters of RFC 3629 one behind the other, none of them nul
pub data Text : List ℕ → Type 0 where
  no_text : Text []
  character : (c rest : List ℕ) → utf8_char c ≡ true → among 0 c ≡ false → Text rest → Text (c ++ rest)

-- clean bytes, from any place of a draft on
module _ (draft : List ℕ) where
  clean_within : (k i n : ℕ) → length draft ≤ i + k → Text (clean n (stream_at draft i))
  unfolding clean character_at
  clean_within zero i n h =
      by_character draft i
      (λ number after e here. absurd (omega (arith, (reaches draft i number after e).0, (reaches draft i number after e).1)))
      (λ refusal place here. rw here no_text)
  clean_within (suc k) i n h =
      by_character draft i
      (λ number after e here.
      let far = reaches draft i number after e in
      let good = well_formed _ i number after e in
      let rest = clean_within k after (n - length (encoded number)) (omega (arith, far.0)) in
      rw here
      (either (leb (length (encoded number)) n)
      (λ t. rw t (character (encoded number) _ good.grammar good.no_nul rest))
      (λ t. rw t no_text)))
      (λ refusal place here. rw here no_text)

  pub clean_text : (i n : ℕ) → Text (clean n (stream_at draft i))
  clean_text i n = clean_within (length draft) i n (omega arith)

module _ (L : Limits) (some-token : 1 ≤ L.token) (draft : List ℕ) where
  -- a token's text without its first byte, which is a character by itself
  without_first : (from : ℕ) (w : Whole) → Sound L some-token draft from w → Text (tail (text_of draft w))
  unfolding text_of
  without_first from w s =
      either (eqb w.prefix 0)
      (λ t. rw (eqb-true w.prefix 0 t, clean_zero (stream_at draft w.place)) no_text)
      (λ t.
      rw
      (first_byte draft w.place w.prefix w.from w.length
      (record {
        here = omega (arith, s.on, s.there);
        text_long = s.text_long;
        text_raw = s.text_raw;
        string_long = s.string_long;
        own = s.own;
      })
      (omega (arith, eqb-false w.prefix 0 t)))
      (clean_text draft (w.place + 1) (w.prefix - 1)))

  onward :
      (from : ℕ) (ts : Tokens) → OneByOne L some-token draft from ts
      → ((i : ℕ) → from < i → i ≤ length draft → Clear Text Text draft (tokens L between (stream_at draft i)))
      → Clear Text Text draft ts
  unfolding text_of string_of
  onward from ts (more w s) rest = (
    clean_text draft w.place w.prefix,
    without_first from w s,
    clean_text draft w.from w.length,
    rest w.after (omega (arith, s.behind, s.on)) s.there,
  )
  onward from ts (final place after g l m) rest = tt
  onward from ts (none number place) rest = tt

  from_place : (k i : ℕ) → length draft ≤ i + k → Clear Text Text draft (tokens L between (stream_at draft i))
  from_place zero i h = onward i _ (one_by_one L some-token draft i) (λ j g l. absurd (omega arith))
  from_place (suc k) i h = onward i _ (one_by_one L some-token draft i) (λ j g l. from_place k j (omega arith))

-- all text and all data of every entity held
pub read_text :
    (L : Limits) → 1 ≤ L.token → (room : Room) (draft : List ℕ) → Every Text Text (read_with L room draft).entities
unfolding read_with refusal
read_text L some-token room draft =
    either (ltb L.draft (length draft))
    (λ t. rw t nothing)
    (λ t.
    rw t
    (all_clear Text Text no_text no_text L draft room fresh _
    (from_place L some-token draft (length draft) (start draft) (omega arith))))
