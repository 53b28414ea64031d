-- Tokens that end by `|;` are decided by the bytes up to the byte after its `;`: a draft that agrees so far has the same tokens, with the
-- same bytes and the same data. Every character taken lies before that byte, and nothing behind it is looked at.
use mathlib.Core.Path.{◌≡◌, refl, ap}
use mathlib.Core.List.{List}
use Prim.Native.Nat.{ℕ, zero, suc, ◌+◌, ◌<◌, ◌≤◌}
use native.Mathlib.Omega.{arith}
use lib.ListN.{length, take}
use Rattle.chars.specs.Limits.{Limits}
use Rattle.chars.specs.Stream.{stream_at, clean}
use Rattle.chars.proofs.Locality.{same_character}
use Rattle.chars.proofs.Streams.{at_character}
use Rattle.tokens.specs.Tokens.{Tokens, token, last, refused, State, between, Outcome, step, follows, tokens}
use Rattle.tokens.proofs.Skipping.{by_character, reaches}
use Rattle.tokens.proofs.Spans.{Kept, Fine, on, whole, over, bad, fine, fewer, spans_same}

-- tokens that end by `|;`, with `c` the byte after its `;`
abbrev pub Ends : (c : ℕ) → Tokens → Type 0
Ends c (token w rest) = Ends c rest
Ends c (last place after) = after ≡ c
Ends c (refused number place) = ⊥

module _ (L : Limits) (d : List ℕ) (c : ℕ) where
  -- a character after which the tokens end so is the last, or more come
  by_end :
      {P : Type 0} (after : ℕ) (o : Outcome) (F : State → Tokens) → Fine d after o → Ends c (follows o F) → (after ≡ c → P)
      → ((state : State) → Kept d after state → Ends c (F state) → P) → P
  unfolding follows
  by_end after o F (on state k) ends this-way that-way = that-way state k ends
  by_end after o F (whole w o' s f) ends this-way that-way = by_end after o' F f ends this-way that-way
  by_end after o F (over place) ends this-way that-way = this-way ends
  by_end after o F (bad number place) ends this-way that-way = absurd ends

  pub behind :
      (k i : ℕ) (state : State) → length d ≤ i + k → Kept d i state → Ends c (tokens L state (stream_at d i)) → i < c
  unfolding tokens
  behind zero i state h kept ends =
      by_character d i
      (λ number after is here. absurd (omega (arith, (reaches d i number after is).0, (reaches d i number after is).1)))
      (λ refusal place here. absurd (rw here at ends))
  behind (suc k) i state h kept ends =
      by_character d i
      (λ number after is here.
      let far = reaches d i number after is in
      by_end after (step L state number i after) _ (fine d number i after is L state kept) (rw here at ends)
      (λ z. omega arith)
      (λ state kept ends. omega (arith, behind k after state (omega arith) kept ends)))
      (λ refusal place here. absurd (rw here at ends))

module _ (L : Limits) (d e : List ℕ) (c : ℕ) (same : take c d ≡ take c e) where
  -- every token has the same bytes and data in both drafts
  abbrev pub Alike : Tokens → Type 0
  Alike (token w rest) =
      (clean w.prefix (stream_at e w.place) ≡ clean w.prefix (stream_at d w.place))
      × (clean w.length (stream_at e w.from) ≡ clean w.length (stream_at d w.from))
      × Alike rest
  Alike (last place after) = Unit
  Alike (refused number place) = Unit

  follows_same :
      (after : ℕ) (o : Outcome) (F G : State → Tokens) → Fine d after o → after ≤ c → Ends c (follows o F)
      → ((state : State) → Kept d after state → Ends c (F state) → (G state ≡ F state) × Alike (F state))
      → (follows o G ≡ follows o F) × Alike (follows o F)
  unfolding follows
  follows_same after o F G (on state k) h ends rest = rest state k ends
  follows_same after o F G (whole w o' s f) h ends rest =
      let more = follows_same after o' F G f h ends rest in (
        ap (token w) more.0,
        (
          spans_same d e s.text (fewer d e s.text_end c (omega arith) same),
          spans_same d e s.string (fewer d e s.string_end c (omega arith) same),
          more.1,
        ),
      )
  follows_same after o F G (over place) h ends rest = (refl, tt)
  follows_same after o F G (bad number place) h ends rest = absurd ends

  walk :
      (k i : ℕ) (state : State) → length d ≤ i + k → Kept d i state → Ends c (tokens L state (stream_at d i))
      → (tokens L state (stream_at e i) ≡ tokens L state (stream_at d i)) × Alike (tokens L state (stream_at d i))
  unfolding tokens
  walk zero i state h kept ends =
      by_character d i
      (λ number after is here. absurd (omega (arith, (reaches d i number after is).0, (reaches d i number after is).1)))
      (λ refusal place here. absurd (rw here at ends))
  walk (suc k) i state h kept ends =
      by_character d i
      (λ number after is here.
      let far = reaches d i number after is in
      let o = step L state number i after in
      let good = fine d number i after is L state kept in
      let to : after ≤ c =
      by_end L d c after o _ good (rw here at ends)
      (λ z. omega arith)
      (λ state kept ends. omega (arith, behind L d c k after state (omega arith) kept ends)) in
      let there = at_character e i number after (same_character d e i number after is (fewer d e after c to same)) in
      rw (here, there)
      (follows_same after o _ _ good to (rw here at ends) (λ state kept ends. walk k after state (omega arith) kept ends)))
      (λ refusal place here. absurd (rw here at ends))

  pub agreed :
      (i : ℕ) → Ends c (tokens L between (stream_at d i))
      → (tokens L between (stream_at e i) ≡ tokens L between (stream_at d i)) × Alike (tokens L between (stream_at d i))
  agreed i ends = walk (length d) i between (omega arith) tt ends
