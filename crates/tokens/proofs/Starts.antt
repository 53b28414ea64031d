-- Where no token has begun: whitespace and comments are passed over, and the character behind them begins a token, is one, opens a string,
-- or is illegal.
use mathlib.Core.Path.{◌≡◌, refl, ap}
use mathlib.Core.Bool.{Bool, true, false, not}
use mathlib.Core.List.{List}
use Prim.Native.Nat.{ℕ, ◌≤◌}
use native.Mathlib.Omega.{arith}
use lib.Dec.{eqb}
use borrow.Author.Tests.{eq-eqb, ne_eqb}
use Rattle.chars.specs.Limits.{Limits}
use Rattle.chars.specs.Character.{character_at}
use Rattle.chars.specs.Stream.{Stream, next, stop, stream_at}
use Rattle.chars.specs.Character.{Clean}
use Rattle.chars.proofs.Cases.{either}
use Rattle.chars.proofs.Streams.{at_character}
use Rattle.tokens.specs.Sorts.{visible, white, atomic, inclusive}
use Rattle.tokens.specs.Tokens.{State, between, comment, bar, word, opens, begins, simply, step, follows, tokens}
use Rattle.tokens.specs.Tokens.{first, shown}
use Rattle.tokens.specs.Runs.{past_all}
use Rattle.tokens.specs.Tokens.{Simple, Last, Refused}
use Rattle.tokens.proofs.Skipping.{by_character, count}

-- the state inside a comment or outside
abbrev where_in : Bool → State
where_in true = comment
where_in false = between

-- tokens are those behind whitespace and comments
pub passed : (L : Limits) (c : Bool) (s : Stream) → tokens L (where_in c) s ≡ tokens L between (past_all c s)
unfolding tokens past_all step begins follows
passed L true (stop refusal place) = refl
passed L false (stop refusal place) = refl
passed L true (next number place after rest) =
    either (eqb number 0x0A) (λ t. rw t (passed L false rest)) (λ t. rw t (passed L true rest))
passed L false (next number place after rest) =
    either (white number)
    (λ t. rw t (passed L false rest))
    (λ t. rw t (either (eqb number 0x23) (λ u. rw u (passed L true rest)) (λ u. rw u (rw (t, u)))))

shrinks : (c : Bool) (s : Stream) → count (past_all c s) ≤ count s
unfolding count past_all
shrinks true (stop refusal place) = omega arith
shrinks false (stop refusal place) = omega arith
shrinks true (next number place after rest) = omega (arith, shrinks (not (eqb number 0x0A)) rest)
shrinks false (next number place after rest) =
    either (white number)
    (λ t. rw t (omega (arith, shrinks false rest)))
    (λ t. rw t (either (eqb number 0x23) (λ u. rw u (omega (arith, shrinks true rest))) (λ u. rw u (omega arith))))

-- what stands behind whitespace and comments is neither
settled :
    (number place after : ℕ) (rest : Stream)
    → next number place after rest ≡ past_all false (next number place after rest)
    → (white number ≡ false) × (eqb number 0x23 ≡ false)
unfolding count past_all
settled number place after rest e =
    either (white number)
    (λ t. absurd (omega (arith, ap count (rw t at e), shrinks false rest)))
    (λ t. either (eqb number 0x23)
    (λ u. absurd (omega (arith, ap count (rw (t, u) at e), shrinks true rest)))
    (λ u. (t, u)))

pub twice : (c : Bool) (s : Stream) → past_all false (past_all c s) ≡ past_all c s
unfolding past_all
twice true (stop refusal place) = refl
twice false (stop refusal place) = refl
twice true (next number place after rest) = twice (not (eqb number 0x0A)) rest
twice false (next number place after rest) =
    either (white number)
    (λ t. rw t (twice false rest))
    (λ t. rw t (either (eqb number 0x23) (λ u. rw u (twice true rest)) (λ u. rw u (rw (t, u)))))

module _ (L : Limits) (draft : List ℕ) (i : ℕ) where
  -- neither whitespace nor a comment begins here
  pub neither :
      stream_at draft i ≡ past_all false (stream_at draft i) → (number after : ℕ) → character_at draft i ≡ Clean number after
      → (white number ≡ false) × (eqb number 0x23 ≡ false)
  neither e number after is =
      settled number i after (stream_at draft after) (rw (at_character draft i number after is) at e)

  module _ (number after : ℕ) (e : character_at draft i ≡ Clean number after) (w : white number ≡ false) (r : eqb number 0x23 ≡ false) where
    pub illegal : visible number ≡ false → first (tokens L between (stream_at draft i)) ≡ Refused 6 i
    unfolding tokens step begins follows first
    illegal v = rw (at_character draft i number after e, w, r, v)

    pub opened :
        visible number ≡ true → inclusive number ≡ true
        → first (tokens L between (stream_at draft i))
        ≡ first (follows (opens number i 0 after) (λ state. tokens L state (stream_at draft after)))
    unfolding tokens step begins
    opened v y = rw (at_character draft i number after e, w, r, v, y)

    pub alone :
        visible number ≡ true → inclusive number ≡ false → atomic number ≡ true
        → first (tokens L between (stream_at draft i)) ≡ Simple i after 1
    unfolding tokens step begins follows first shown simply
    alone v y a = rw (at_character draft i number after e, w, r, v, y, a)

    pub barred :
        visible number ≡ true → inclusive number ≡ false → atomic number ≡ false → eqb number 0x7C ≡ true
        → first (tokens L between (stream_at draft i)) ≡ first (tokens L (bar i) (stream_at draft after))
    unfolding tokens step begins follows
    barred v y a b = rw (at_character draft i number after e, w, r, v, y, a, b)

    pub worded :
        visible number ≡ true → inclusive number ≡ false → atomic number ≡ false → eqb number 0x7C ≡ false
        → first (tokens L between (stream_at draft i)) ≡ first (tokens L (word i 1) (stream_at draft after))
    unfolding tokens step begins follows
    worded v y a b = rw (at_character draft i number after e, w, r, v, y, a, b)

-- behind a bar: `;` right there ends the draft, and anything else is what it is behind any first character
module _ (L : Limits) (draft : List ℕ) (begun i : ℕ) where
  pub last :
      (number after : ℕ) → character_at draft i ≡ Clean number after → number ≡ 0x3B
      → first (tokens L (bar begun) (stream_at draft i)) ≡ Last begun after
  unfolding tokens step follows first
  last number after e s = rw (at_character draft i number after e, eq-eqb number 0x3B s)

  pub no_last :
      ((number after : ℕ) → character_at draft i ≡ Clean number after → number ≡ 0x3B → ⊥)
      → tokens L (bar begun) (stream_at draft i) ≡ tokens L (word begun 1) (stream_at draft i)
  unfolding tokens step
  no_last none =
      by_character draft i
      (λ number after e here. rw (here, ne_eqb number 0x3B (none number after e)))
      (λ refusal place here. rw here)
