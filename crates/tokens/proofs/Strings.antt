-- String data, one character at a time: it closes the string, is one too many, or adds its clean bytes. A plain byte adds one, and leaves
-- level and backslashes as they are, in a quoted string and in a curly one alike.
use mathlib.Core.Path.{◌≡◌, refl, ap}
use mathlib.Core.Bool.{Bool, true, false, not, ◌&&◌}
use mathlib.Core.List.{List}
use Prim.Native.Nat.{ℕ, ◌+◌, ◌<◌, ◌≤◌}
use native.Mathlib.Omega.{arith}
use lib.Dec.{eqb}
use lib.ListN.{length, get_or}
use borrow.Author.Tests.{lt-ltb, le-ltb, eqb-false}
use Rattle.std.specs.Prelude.{if◌then◌else◌}
use Rattle.chars.specs.Limits.{Limits}
use Rattle.chars.specs.Character.{character_at, encoded}
use Rattle.chars.specs.Stream.{stream_at}
use Rattle.chars.specs.Character.{Clean}
use Rattle.chars.proofs.Cases.{either}
use Rattle.chars.proofs.Extent.{encoded_one}
use Rattle.chars.proofs.Streams.{at_character, at_none}
use Rattle.tokens.specs.Tokens.{Sort, simple, quoted, curly, Opened, State, string, up, down, nested, inside, closed, step}
use Rattle.tokens.specs.Tokens.{follows, tokens, first, shown}
use Rattle.tokens.specs.Runs.{refusal_of}
use Rattle.tokens.specs.Tokens.{Refused}
use Rattle.tokens.proofs.Passing.{class_at}
use Rattle.tokens.proofs.Classes.{low, Ordinary, ordinary}
use Rattle.tokens.proofs.Skipping.{next_at}

-- plain data neither opens, closes nor escapes, whatever the string
up_not : (s : Sort) (b : ℕ) → Ordinary b → up s b ≡ false
unfolding up
up_not simple b o = refl
up_not quoted b o = refl
up_not curly b o = o.no_open

pub down_not : (s : Sort) (b : ℕ) → Ordinary b → down s b ≡ false
unfolding down
down_not simple b o = refl
down_not quoted b o = o.no_quote
down_not curly b o = o.no_close

-- where the characters stop, so do the tokens, whatever they were part of
pub stops :
    (L : Limits) (draft : List ℕ) (i : ℕ) (state : State)
    → ((number after : ℕ) → character_at draft i ≡ Clean number after → ⊥)
    → first (tokens L state (stream_at draft i)) ≡ refusal_of (length draft) (character_at draft i)
unfolding tokens first refusal_of
stops L draft i state none = rw (at_none draft i none)

module _ (L : Limits) (draft : List ℕ) (o : Opened) where
  -- a byte of plain data
  pub plainly :
      (i n level : ℕ) → i < length draft → 4 ≤ class_at draft i → class_at draft i ≤ 9 → n < L.string
      → tokens L (string o n level false) (stream_at draft i) ≡ tokens L (string o (n + 1) level false) (stream_at draft (i + 1))
  unfolding tokens step inside follows nested
  plainly i n level h g l m =
      let b = get_or draft i 0 in
      let p = ordinary b g l in
      let one : length (encoded b) ≡ 1 = ap length (encoded_one b (low b (omega arith))) in
      rw (
        next_at draft i h (omega arith),
        down_not o.sort b p,
        one,
        le-ltb L.string (n + 1) (omega arith),
        up_not o.sort b p,
        p.no_backslash,
      )

  -- a character of string data
  module _ (i number after n level : ℕ) (odd : Bool) (e : character_at draft i ≡ Clean number after) where
    pub closes_here :
        (not odd && down o.sort number && eqb level 1) ≡ true
        → first (tokens L (string o n level odd) (stream_at draft i)) ≡ shown (closed o after n)
    unfolding tokens step inside follows first
    closes_here t = rw (at_character draft i number after e, t)

    pub too_long :
        (not odd && down o.sort number && eqb level 1) ≡ false → L.string < n + length (encoded number)
        → first (tokens L (string o n level odd) (stream_at draft i)) ≡ Refused 9 i
    unfolding tokens step inside follows first
    too_long t h = rw (at_character draft i number after e, t, lt-ltb L.string (n + length (encoded number)) h)

    pub goes_on :
        (not odd && down o.sort number && eqb level 1) ≡ false → n + length (encoded number) ≤ L.string
        → tokens L (string o n level odd) (stream_at draft i)
        ≡ tokens L
        (string o (n + length (encoded number)) (if odd then level else nested o.sort level number) (not odd && eqb number 0x5C))
        (stream_at draft after)
    unfolding tokens step inside follows
    goes_on t h = rw (at_character draft i number after e, t, le-ltb L.string (n + length (encoded number)) h)

-- the nesting level behind a character that does not close the string
pub level_bounds :
    (s : Sort) (level number : ℕ) (odd : Bool) → 1 ≤ level → (not odd && down s number && eqb level 1) ≡ false
    → (1 ≤ (if odd then level else nested s level number)) × ((if odd then level else nested s level number) ≤ level + 1)
unfolding nested
level_bounds s level number true h t = (h, omega arith)
level_bounds s level number false h t =
    either (up s number)
    (λ u. rw u (omega arith, omega arith))
    (λ u. rw u (either (down s number)
    (λ d. rw d (omega (arith, eqb-false level 1 (rw d at t)), omega arith))
    (λ d. rw d (h, omega arith))))
