-- A token that has begun, one character at a time, and a run of plain characters at once: each adds one byte, and the character behind them
-- ends the token, opens a string, is illegal, or is one byte too many.
use mathlib.Core.Path.{◌≡◌, sym, ◌∙◌, ap}
use mathlib.Core.Bool.{true, false}
use mathlib.Core.List.{List}
use Prim.Native.Nat.{ℕ, suc, ◌+◌, ◌-◌, ◌<◌, ◌≤◌, min}
use native.Mathlib.Omega.{arith}
use lib.Dec.{ltb}
use lib.ListN.{length, get_or, drop}
use borrow.Author.Tests.{lt-ltb, le-ltb, ltb-true, ltb-false}
use Rattle.chars.proofs.Cases.{either}
use Rattle.chars.proofs.Characters.{outside}
use Rattle.chars.specs.Limits.{Limits, limits}
use Rattle.chars.specs.Character.{character_at}
use Rattle.chars.specs.Stream.{stream_at}
use Rattle.chars.specs.Character.{Clean}
use Rattle.chars.proofs.Streams.{at_end, at_character}
use Rattle.tokens.specs.Sorts.{exclusive, inclusive, legal}
use Rattle.tokens.specs.Tokens.{State, word, Tokens, opens, continues, simply, step, follows, tokens, first}
use Rattle.tokens.specs.Tokens.{shown}
use Rattle.tokens.specs.Runs.{run}
use Rattle.tokens.specs.Tokens.{Simple, Refused}
use Rattle.tokens.proofs.Passing.{class_at, carried, most, ends}
use Rattle.tokens.proofs.Classes.{plain}
use Rattle.tokens.proofs.Skipping.{next_at}

-- the draft ends first
pub at_length :
    (L : Limits) (draft : List ℕ) (i : ℕ) (state : State) → length draft ≤ i
    → first (tokens L state (stream_at draft i)) ≡ Refused 7 (length draft)
unfolding tokens first
at_length L draft i state h = rw (at_end draft i h)

module _ (L : Limits) (draft : List ℕ) (begun : ℕ) where
  -- a plain character
  pub longer :
      (i n : ℕ) → i < length draft → 3 ≤ class_at draft i → class_at draft i ≤ 4 → n < L.token
      → tokens L (word begun n) (stream_at draft i) ≡ tokens L (word begun (suc n)) (stream_at draft (i + 1))
  unfolding tokens step continues follows
  longer i n h g l m =
      let b = get_or draft i 0 in
      let p = plain b g l in
      rw (next_at draft i h (omega arith), p.is_legal, p.no_exclusive, p.no_inclusive, lt-ltb n L.token m)

  -- the character behind `n` plain ones
  module _ (i number after n : ℕ) (e : character_at draft i ≡ Clean number after) where
    pub illegal :
        legal number ≡ false → first (tokens L (word begun n) (stream_at draft i)) ≡ Refused 6 i
    unfolding tokens step continues follows first
    illegal t = rw (at_character draft i number after e, t)

    pub ended :
        legal number ≡ true → exclusive number ≡ true → first (tokens L (word begun n) (stream_at draft i)) ≡ Simple begun i n
    unfolding tokens step continues follows first shown simply
    ended t x = rw (at_character draft i number after e, t, x)

    pub opened :
        legal number ≡ true → exclusive number ≡ false → inclusive number ≡ true
        → first (tokens L (word begun n) (stream_at draft i))
        ≡ first (follows (opens number begun n after) (λ state. tokens L state (stream_at draft after)))
    unfolding tokens step continues
    opened t x y = rw (at_character draft i number after e, t, x, y)

    pub too_long :
        legal number ≡ true → exclusive number ≡ false → inclusive number ≡ false → L.token ≤ n
        → first (tokens L (word begun n) (stream_at draft i)) ≡ Refused 8 i
    unfolding tokens step continues follows first
    too_long t x y m = rw (at_character draft i number after e, t, x, y, le-ltb n L.token m)

  -- a run of plain characters, as far as the limit goes
  pub run_of :
      (at end : ℕ) → begun < at → at ≤ end → end ≤ length draft → end ≤ begun + L.token
      → tokens L (word begun (at - begun)) (stream_at draft at)
      ≡ tokens L (word begun (at + run 3 4 (end - at) (drop at draft) - begun)) (stream_at draft (at + run 3 4 (end - at) (drop at draft)))
  run_of at end b h g m =
      let F : ℕ → Tokens = λ i. tokens L (word begun (i - begun)) (stream_at draft i) in
      carried 3 4 draft F (end - at) at (omega arith)
      (λ i l u low high.
      let one : suc (i - begun) ≡ (i + 1) - begun = omega arith in
      longer i (i - begun) (omega arith) low high (omega arith)
      ∙ ap (λ j. tokens L (word begun j) (stream_at draft (i + 1))) one)

-- What is known where plain characters behind a token's first have ended: its tokens are those from there on, and a plain character there
-- is one byte too many.
pub record Worded (draft : List ℕ) (begun i : ℕ) : Type 0 where
  pub same :
      tokens limits (word begun 1) (stream_at draft (begun + 1)) ≡ tokens limits (word begun (i - begun)) (stream_at draft i)
  pub on : begun < i
  pub there : i ≤ length draft
  pub full : i < length draft → 3 ≤ class_at draft i → class_at draft i ≤ 4 → limits.token ≤ i - begun

pub worded :
    (draft : List ℕ) (begun end i : ℕ) → begun < length draft → end ≡ min (length draft) (begun + 1 + 254)
    → i ≡ begun + 1 + run 3 4 (end - (begun + 1)) (drop (begun + 1) draft) → Worded draft begun i
worded draft begun end i h to e =
    let at = begun + 1 in
    let k = end - at in
    let far = most 3 4 draft k at (omega arith) in
    let one : begun + 1 - begun ≡ 1 = omega arith in
    record {
      same =
          ap (λ n. tokens limits (word begun n) (stream_at draft at)) (sym one)
          ∙ (run_of limits draft begun at end (omega arith) (omega arith) (omega arith) (omega arith)
          ∙ ap (λ j. tokens limits (word begun (j - begun)) (stream_at draft j)) (sym e));
      on = omega arith;
      there = omega arith;
      full =
          λ l a b.
          either (ltb (run 3 4 k (drop at draft)) k)
          (λ t.
          absurd
          (outside 3 4 (class_at draft i)
          (rw e (ends 3 4 draft k at (omega arith) (ltb-true (run 3 4 k (drop at draft)) k t))) a b))
          (λ t. omega (arith, ltb-false (run 3 4 k (drop at draft)) k t));
    }
