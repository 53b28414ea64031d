-- How the tokens of a draft end where no `|;` does: by 2 to 9, and at or behind the byte after the token before. A character is refused at
-- its own place, and characters come one behind the other.
use mathlib.Core.Bool.{Bool, true, false, not, ◌&&◌}
use mathlib.Core.List.{List}
use Prim.Native.Nat.{ℕ, zero, suc, ◌+◌, ◌<◌, ◌≤◌}
use native.Mathlib.Omega.{arith}
use lib.Dec.{eqb, ltb}
use lib.ListN.{length}
use Rattle.std.specs.Prelude.{if◌then◌else◌}
use Rattle.chars.specs.Limits.{Limits}
use Rattle.chars.specs.Character.{encoded}
use Rattle.chars.specs.Stream.{Stream, next, stop, stream_at}
use Rattle.chars.proofs.Refusals.{Stops, stops, stopped_at}
use Rattle.tokens.specs.Sorts.{visible, white, atomic, exclusive, inclusive, legal}
use Rattle.tokens.specs.Tokens.{Whole, Tokens, token, last, refused, State, between, comment, bar, word, string}
use Rattle.tokens.specs.Tokens.{Outcome, goes, gives, ends, refuses, opens, begins, continues, inside, down, step, follows, tokens}
use Rattle.tokens.proofs.OneByOne.{Sound, OneByOne, more, final, none, one_by_one}
use Rattle.tokens.proofs.Skipping.{by_character, reaches}

-- a character at `i` is refused there, with 2 to 9
data Known (i : ℕ) : Outcome → Type 0 where
  on : (state : State) → Known i (goes state)
  whole : (w : Whole) (o : Outcome) → Known i o → Known i (gives w o)
  over : (place after : ℕ) → Known i (ends place after)
  bad : (number : ℕ) → 2 ≤ number → number ≤ 9 → Known i (refuses number i)

module _ (number i after : ℕ) where
  either_way : (t : Bool) {x y : Outcome} → Known i x → Known i y → Known i (if t then x else y)
  either_way true a b = a
  either_way false a b = b

  opens_known : (begun n : ℕ) → Known i (opens number begun n after)
  unfolding opens
  opens_known begun n = on _

  begins_known : Known i (begins number i after)
  unfolding begins
  begins_known =
      either_way (white number) (on between)
      (either_way (eqb number 0x23) (on comment)
      (either_way (not (visible number)) (bad 6 (omega arith) (omega arith))
      (either_way (inclusive number) (opens_known i 0)
      (either_way (atomic number) (whole _ _ (on between)) (either_way (eqb number 0x7C) (on (bar i)) (on (word i 1)))))))

  continues_known : (L : Limits) (begun n : ℕ) → Known i (continues L begun n number i after)
  unfolding continues
  continues_known L begun n =
      either_way (not (legal number)) (bad 6 (omega arith) (omega arith))
      (either_way (exclusive number) (whole _ _ begins_known)
      (either_way (inclusive number) (opens_known begun n)
      (either_way (ltb n L.token) (on (word begun (suc n))) (bad 8 (omega arith) (omega arith)))))

  known : (L : Limits) (state : State) → Known i (step L state number i after)
  unfolding step inside
  known L between = begins_known
  known L comment = either_way (eqb number 0x0A) (on between) (on comment)
  known L (bar begun) = either_way (eqb number 0x3B) (over begun after) (continues_known L begun 1)
  known L (word begun n) = continues_known L begun n
  known L (string o n level odd) =
      either_way (not odd && down o.sort number && eqb level 1) (whole _ _ (on between))
      (either_way (ltb L.string (n + length (encoded number))) (bad 9 (omega arith) (omega arith)) (on _))

-- the numbers
abbrev pub Numbered : Tokens → Type 0
Numbered (token w rest) = Numbered rest
Numbered (last place after) = Unit
Numbered (refused number place) = (2 ≤ number) × (number ≤ 9)

follows_numbered :
    (i : ℕ) (o : Outcome) (rest : State → Tokens) → Known i o → ((state : State) → Numbered (rest state))
    → Numbered (follows o rest)
unfolding follows
follows_numbered i o rest (on state) f = f state
follows_numbered i o rest (whole w o' k) f = follows_numbered i o' rest k f
follows_numbered i o rest (over place after) f = tt
follows_numbered i o rest (bad number g l) f = (g, l)

tokens_numbered : (L : Limits) (state : State) (s : Stream) → Stops s → Numbered (tokens L state s)
unfolding tokens
tokens_numbered L state (stop refusal place) h = (h.0, omega arith)
tokens_numbered L state (next number place after rest) h =
    follows_numbered place (step L state number place after) _ (known number place after L state)
    (λ state. tokens_numbered L state rest h)

pub numbered : (L : Limits) (draft : List ℕ) (i : ℕ) → Numbered (tokens L between (stream_at draft i))
numbered L draft i = tokens_numbered L between (stream_at draft i) (stops draft i)

-- and the places
module _ (L : Limits) (draft : List ℕ) where
  abbrev Placed : (from : ℕ) → Tokens → Type 0
  Placed from (token w rest) = Unit
  Placed from (last place after) = Unit
  Placed from (refused number place) = (from ≤ place) × (place ≤ length draft)

  follows_placed :
      (from i : ℕ) (o : Outcome) (rest : State → Tokens) → Known i o → from ≤ i → i ≤ length draft
      → ((state : State) → Placed from (rest state)) → Placed from (follows o rest)
  unfolding follows
  follows_placed from i o rest (on state) g l f = f state
  follows_placed from i o rest (whole w o' k) g l f = tt
  follows_placed from i o rest (over place after) g l f = tt
  follows_placed from i o rest (bad number a b) g l f = (g, l)

  walk :
      (k from i : ℕ) (state : State) → length draft ≤ i + k → from ≤ i → i ≤ length draft
      → Placed from (tokens L state (stream_at draft i))
  unfolding tokens
  walk zero from i state h f m =
      by_character draft i
      (λ number after e here. absurd (omega (arith, (reaches draft i number after e).0, (reaches draft i number after e).1)))
      (λ refusal place here. let p = stopped_at draft i refusal place m here in rw here (omega arith, omega arith))
  walk (suc k) from i state h f m =
      by_character draft i
      (λ number after e here.
      let far = reaches draft i number after e in
      rw here
      (follows_placed from i (step L state number i after) _ (known number i after L state) f m
      (λ state. walk k from after state (omega arith) (omega arith) far.1)))
      (λ refusal place here. let p = stopped_at draft i refusal place m here in rw here (omega arith, omega arith))

  -- Each token in turn: it begins at `from` or behind, and what follows begins at the byte after it or behind.
  module _ (one : 1 ≤ L.token) where
    pub data Chain : (from : ℕ) → Tokens → Type 0 where
      and_then :
          (from : ℕ) (w : Whole) (rest : Tokens) → Sound L one draft from w → Chain w.after rest → Chain from (token w rest)
      closing :
          (from place after : ℕ) → from ≤ place → place < after → after ≤ length draft → Chain from (last place after)
      ending :
          (from number place : ℕ) → from ≤ place → place ≤ length draft → 2 ≤ number → number ≤ 9
          → Chain from (refused number place)

    chained :
        (from : ℕ) (ts : Tokens) → OneByOne L one draft from ts → Placed from ts → Numbered ts
        → ((i : ℕ) → from < i → i ≤ length draft → Chain i (tokens L between (stream_at draft i))) → Chain from ts
    chained from ts (more w s) p n rest =
        and_then from w (tokens L between (stream_at draft w.after)) s (rest w.after (omega arith) s.there)
    chained from ts (final place after g l m) p n rest = closing from place after g l m
    chained from ts (none number place) p n rest = ending from number place p.0 p.1 n.0 n.1

    chain_from : (k i : ℕ) → length draft ≤ i + k → i ≤ length draft → Chain i (tokens L between (stream_at draft i))
    chain_from zero i h m =
        chained i _ (one_by_one L one draft i) (walk (length draft) i i between (omega arith) (omega arith) m) (numbered L draft i)
        (λ j g l. absurd (omega arith))
    chain_from (suc k) i h m =
        chained i _ (one_by_one L one draft i) (walk (length draft) i i between (omega arith) (omega arith) m) (numbered L draft i)
        (λ j g l. chain_from k j (omega arith) l)

    pub chain : (i : ℕ) → i ≤ length draft → Chain i (tokens L between (stream_at draft i))
    chain i m = chain_from (length draft) i (omega arith) m
