-- Behind whitespace tail answers what it answers before it. Where whitespace has ended, the draft's length is yes, and any other place is
-- no: a character stands there that is not whitespace, or none.
use mathlib.Core.Path.{◌≡◌, refl}
use mathlib.Core.List.{List}
use Prim.Native.Nat.{ℕ, ◌<◌, ◌≤◌}
use native.Mathlib.Omega.{arith}
use lib.ListN.{length, drop}
use borrow.Author.Tests.{ne_eqb}
use Rattle.chars.specs.Stream.{Stream, next, stop, stream_at}
use Rattle.chars.proofs.Cases.{either}
use Rattle.chars.specs.Character.{character_at}
use Rattle.chars.specs.Character.{Character}
use Rattle.chars.specs.Character.{Clean, Refused, End}
use Rattle.chars.proofs.Refusals.{character_refused}
use Rattle.chars.proofs.Streams.{at_end, at_character, at_refusal, ended}
use Rattle.tokens.specs.Sorts.{white}
use Rattle.tokens.specs.Runs.{past_blanks}
use Rattle.tokens.specs.Tail.{blank}
use Rattle.tokens.proofs.Skipping.{settled}

pub blank_past : (s : Stream) → blank s ≡ blank (past_blanks s)
unfolding blank past_blanks
blank_past (stop refusal place) = refl
blank_past (next number place after rest) = either (white number) (λ t. rw t (blank_past rest)) (λ t. rw t (rw t))

-- the draft's end
pub blank_end : (draft : List ℕ) (i : ℕ) → length draft ≤ i → blank (stream_at draft i) ≡ record { number = 0; yes = 1; place = 0 }
unfolding blank
blank_end draft i h = rw (at_end draft i h)

-- a place before it where no whitespace stands
pub blank_no :
    (draft : List ℕ) (i : ℕ) → i < length draft → stream_at draft i ≡ past_blanks (stream_at draft i)
    → blank (stream_at draft i) ≡ record { number = 0; yes = 0; place = i }
unfolding blank character_at
blank_no draft i h e = go (character_at draft i) refl
  where
    go : (answer : Character) → character_at draft i ≡ answer → blank (stream_at draft i) ≡ record { number = 0; yes = 0; place = i }
    go (Clean number after) is =
        let here = at_character draft i number after is in
        let none = settled number i after (stream_at draft after) (rw here at e) in
        rw (here, none)
    go (Refused number bad) is =
        let r = character_refused (drop i draft) i number bad is in
        rw (at_refusal draft i number bad is h, ne_eqb number 7 (λ z. omega (arith, r.high)), r.here)
    go End is = absurd (omega (arith, ended draft i is))
