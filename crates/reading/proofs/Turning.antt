-- One round, by what stands at its place: whitespace and comments leave what is still to be read as it is, a token alone is one that its
-- byte tells, and any other is what is found there.
use mathlib.Core.Path.{◌≡◌, refl, sym, ◌∙◌, ap}
use mathlib.Core.Bool.{Bool, true, false, true≢false}
use mathlib.Core.List.{List, []}
use Prim.Native.Nat.{ℕ, ◌+◌, ◌-◌, ◌<◌, ◌≤◌}
use native.Mathlib.Omega.{arith}
use lib.Dec.{eqb}
use lib.ListN.{length, get_or}
use borrow.Author.Tests.{ne_eqb, eqb-true, eqb-false}
use Rattle.std.specs.Prelude.{Result, Err}
use Rattle.chars.specs.Limits.{limits}
use Rattle.chars.specs.declared.refusal.Refusal.{Refusal}
use Rattle.chars.specs.declared.refusal.Refusal.TheVariants.{PercentInside}
use Rattle.chars.specs.Stream.{stream_at, clean}
use Rattle.chars.proofs.Cases.{either}
use Rattle.chars.proofs.Streams.{at_end}
use Rattle.tokens.specs.Sorts.{visible, white, atomic, inclusive}
use Rattle.tokens.specs.Tokens.{tokens, between, token_at}
use Rattle.tokens.specs.Tokens.{Token, Simple, Quoted, Curly, Last, Refused}
use Rattle.tokens.proofs.Clean.{clean_zero}
use denote.Enum.Bare.{sameb}
use Rattle.runs.specs.Bytes.{begins_of, begins_at}
use Rattle.runs.specs.Codes.{begins_code}
use Rattle.runs.specs.contracts.sorts.Begins.{the_type}
use Rattle.runs.specs.declared.sorts.Begins.{Begins}
use Rattle.runs.specs.declared.sorts.Begins.TheVariants.{Nothing, Whitespace, Comment, Atomic, Opening, Bar, Word, RightCurly}
use Rattle.scan.specs.Found.{Piece, piece_of, Finds, passes, tells}
use Rattle.scan.specs.Opens.{how_code}
use Rattle.scan.specs.contracts.How.{the_type as of-how}
use Rattle.scan.specs.declared.How.{How}
use Rattle.scan.specs.declared.How.TheVariants.{Simple as SimpleHow, Prefix}
use Rattle.scan.proofs.Starts.{alone_other}
use Rattle.entities.specs.Entity.{sizes}
use Rattle.entities.specs.Making.{fitted, handled, judged, command}
use Rattle.entities.specs.Judging.{bares}
use Rattle.entities.specs.Stepping.{Contents, Ready, Steady, room_left, reader_of, agrees, Took, Stops, took, judged_as}
use Rattle.entities.specs.Stepping.{closing_as}
use Rattle.entities.specs.Stepping.{structural, worded, commanded}
use Rattle.entities.specs.declared.state.State.{State}
use Rattle.entities.specs.declared.state.Mode.{Mode}
use Rattle.entities.specs.declared.state.Mode.TheVariants.{Regular, Bracket, Metacommand}
use Rattle.entities.proofs.Listing.{written_none, text_none}
use Rattle.entities.proofs.Cutting.{first_byte}
use Rattle.reading.specs.Reading.{refusal, before, entities}
use Rattle.reading.specs.Rounds.{ahead, goes_round, On, Over, behind_of}
use Rattle.reading.proofs.Walking.{Taken, later, behind_here, here}

-- the draft ends
pub ends_on :
    (draft list text groups : List ℕ) (s : State) (at : ℕ) → length draft ≤ at
    → goes_round draft list text groups s at (Over 7 (length draft) s 0) list text groups
unfolding goes_round ahead tokens entities refusal before sizes
ends_on draft list text groups s at h =
    record {
      es = [];
      list_is = sym (written_none list s.entities s.text);
      text_is = sym (text_none text s.text);
      many = omega arith;
      much = omega arith;
      comes = rw (at_end draft at h);
    }

pub steady : (s : State) (list text groups : List ℕ) (at : ℕ) → Ready s list text groups at → Steady s list groups at
steady s list text groups at ready =
    record { deep = ready.deep; array = ready.array; held = ready.held; small = ready.small; numbers = ready.numbers }

module _ (draft list text groups : List ℕ) (s : State) (at : ℕ) (there : at < length draft) (ready : Ready s list text groups at) where
  -- nothing is held, and behind it the tokens are the same
  pub passed_on :
      (after : ℕ) → at < after → tokens limits between (stream_at draft at) ≡ tokens limits between (stream_at draft after)
      → goes_round draft list text groups s at (On s after) list text groups
  unfolding goes_round ahead before sizes
  passed_on after on same = (
    record {
      es = [];
      list_is = sym (written_none list s.entities s.text);
      text_is = sym (text_none text s.text);
      many = omega arith;
      much = omega arith;
      comes = ap (entities limits draft (room_left s list text) (reader_of s groups)) same;
    },
    later s list text groups at after (omega arith) ready,
    on,
    there,
  )

  -- a simple token up to `i`
  module _ (i : ℕ) (simple : token_at limits draft at ≡ Simple at i (i - at)) where
    abbrev word : Piece
    word = piece_of (Simple at i (i - at))

    word_is : word ≡ piece_of (token_at limits draft at)
    word_is = ap piece_of (sym simple)

    word_some : word.sort ≡ 4 → ⊥
    unfolding piece_of
    word_some e = omega arith

    pub word_taken : (i - at ≤ 4096) × Contents draft at (i - at) 0 0
    unfolding piece_of
    word_taken = let t = here draft list text groups s at word word_is word_some in (t.short, t.contents)

    pub word_on :
        (r : Result State Refusal) (list' text' groups' : List ℕ)
        → agrees
        (handled limits (room_left s list text) (reader_of s groups) (closing_as 0 (clean (i - at) (stream_at draft at))) at
        (λ q. judged_as 0 q at (clean (i - at) (stream_at draft at)) (clean 0 (stream_at draft 0)))) (took s r) s list text list' text'
        groups' at
        → length list' ≡ length list → length text' ≡ length text
        → goes_round draft list text groups s at (behind_of (took s r) at i) list' text' groups'
    unfolding piece_of
    word_on r list' text' groups' a l u =
        behind_here draft list text groups s at word word_is word_some list' text' groups' r a l u (λ e. omega arith)

  -- a token alone
  module _ (three : begins_of (get_or draft at 0) ≡ 3) where
    abbrev f : Piece
    f = piece_of (Simple at (at + 1) 1)

    same : f ≡ piece_of (token_at limits draft at)
    same = ap piece_of (sym (alone_other draft at there three))

    some : f.sort ≡ 4 → ⊥
    unfolding piece_of
    some e = omega arith

    taken_here : Taken draft at f (tokens limits between (stream_at draft at))
    taken_here = here draft list text groups s at f same some

    first_is : get_or (clean 1 (stream_at draft at)) 0 0 ≡ get_or draft at 0
    unfolding piece_of
    first_is = ap (λ l. get_or l 0 0) (first_byte draft at 1 0 0 taken_here.contents (omega arith))

    pub alone_on :
        (r : Result State Refusal) (list' groups' : List ℕ)
        → ((T : List ℕ) → get_or T 0 0 ≡ get_or draft at 0
        → agrees (handled limits (room_left s list text) (reader_of s groups) (closing_as 0 T) at (λ q. judged_as 0 q at T []))
        (took s r) s list text list' text groups' at)
        → length list' ≡ length list → goes_round draft list text groups s at (behind_of (took s r) at (at + 1)) list' text groups'
    unfolding piece_of
    alone_on r list' groups' a l =
        behind_here draft list text groups s at f same some list' text groups' r
        (rw (clean_zero (stream_at draft 0)) (a (clean 1 (stream_at draft at)) first_is)) l refl (λ e. omega arith)

    module _ (commanding : s.mode ≡ Metacommand) where
      -- in a metacommand no token brings a group
      pub by_itself :
          (T : List ℕ) (r : Took) (list' groups' : List ℕ)
          → agrees (fitted (room_left s list text) (bares 0 at) (judged_as 0 (reader_of s groups) at T [])) r s list text list' text
          groups'
          at
          → agrees (handled limits (room_left s list text) (reader_of s groups) (closing_as 0 T) at (λ q. judged_as 0 q at T [])) r s list
          text
          list' text groups' at
      unfolding handled reader_of bares
      by_itself T r list' groups' a = rw commanding (rw commanding at a)

      -- `%` there
      twice :
          (T : List ℕ) → get_or T 0 0 ≡ 0x25
          → agrees (fitted (room_left s list text) (bares 0 at) (judged_as 0 (reader_of s groups) at T [])) (Stops 10 s) s list text list
          text groups at
      unfolding agrees fitted judged_as judged command reader_of
      twice T e = rw (commanding, e) (refl, refl, refl, refl, refl)

      pub again-on :
          get_or draft at 0 ≡ 0x25 → goes_round draft list text groups s at (Over 10 at s 0) list text groups
      unfolding took behind_of
      again-on e = alone_on (Err PercentInside) list groups (λ T is. by_itself T (Stops 10 s) list groups (twice T (is ∙ e))) refl

-- what is found is at most 4, a refusal
pub piece_sort : (t : Token) → (piece_of t).sort ≤ 4
unfolding piece_of
piece_sort (Simple place after length) = omega arith
piece_sort (Quoted place after prefix from length) = omega arith
piece_sort (Curly place after prefix from length) = omega arith
piece_sort (Last place after) = omega arith
piece_sort (Refused number place) = omega arith

command_begins : eqb (begins_of 0x25) 3 ≡ true
unfolding begins_of visible white atomic inclusive
command_begins = refl

command_ends : eqb (begins_of 0x3B) 3 ≡ true
unfolding begins_of visible white atomic inclusive
command_ends = refl

-- What a byte begins, by what stands at its place: `|` alone is told by the byte behind it.
pub at_three : (draft : List ℕ) (at : ℕ) → begins_of (get_or draft at 0) ≡ 3 → begins_at draft at ≡ 3
unfolding begins_at
at_three draft at e = rw e

-- the mode in which a metacommand is open
pub commanding : (m : Mode) → commanded m ≡ true → m ≡ Metacommand
commanding Regular t = absurd (true≢false (sym t))
commanding Bracket t = absurd (true≢false (sym t))
commanding Metacommand t = refl

-- the test of what a byte begins is that of its number
is_atomic : (b : Begins) → eqb (begins_code b) 3 ≡ sameb the_type b Atomic
unfolding begins_code
is_atomic Nothing = refl
is_atomic Whitespace = refl
is_atomic Comment = refl
is_atomic Atomic = refl
is_atomic Opening = refl
is_atomic Bar = refl
is_atomic Word = refl
is_atomic RightCurly = refl

module _ (b : Begins) (t : Bool) (told : t ≡ sameb the_type b Atomic) where
  pub atomic_code : t ≡ true → begins_code b ≡ 3
  atomic_code is = eqb-true (begins_code b) 3 (is_atomic b ∙ (rw told at is))

  pub other_code : t ≡ false → begins_code b ≡ 3 → ⊥
  other_code is = eqb-false (begins_code b) 3 (is_atomic b ∙ (rw told at is))

-- the test of what a token's own bytes are is that of its number
pub simple_code : (h : How) (t : Bool) → t ≡ sameb of-how h SimpleHow → t ≡ true → how_code h ≡ 1
unfolding how_code
simple_code SimpleHow t told is = refl
simple_code Prefix t told is = absurd (true≢false (sym is ∙ told))

-- A byte that begins neither a token alone, nor, in a metacommand, `%` or `;`, begins one with text.
pub with_text :
    (c : ℕ) (mode : Mode) → (begins_of c ≡ 3 → (mode ≡ Metacommand) × (c ≡ 0x25 → ⊥) × (c ≡ 0x3B → ⊥))
    → worded (commanded mode) c ≡ true
unfolding worded structural
with_text c mode h =
    either (eqb (begins_of c) 3)
    (λ t.
    let k = h (eqb-true (begins_of c) 3 t) in
    rw (k.0, ne_eqb c 0x25 k.1, ne_eqb c 0x3B k.2))
    (λ t.
    let other : (d : ℕ) → eqb (begins_of d) 3 ≡ true → c ≡ d → ⊥ = λ d u e. true≢false (sym u ∙ rw e at t) in
    either (commanded mode)
    (λ u. rw (u, ne_eqb c 0x25 (other 0x25 command_begins), ne_eqb c 0x3B (other 0x3B command_ends)))
    (λ u. rw (u, t)))

-- What is found: whitespace or a comment where its sort is 5, and else the first token, which begins right there unless it is refused.
pub record Token-found (draft : List ℕ) (at : ℕ) (p : Piece) : Type 0 where
  pub is : p ≡ piece_of (token_at limits draft at)
  pub few : p.sort ≤ 4
  pub begun : (p.sort ≡ 4 → ⊥) → p.place ≡ at

module _ (draft : List ℕ) (at : ℕ) (p : Piece) where
  pub blank_found :
      Finds draft at p → p.sort ≡ 5
      → (at < p.after) × (tokens limits between (stream_at draft at) ≡ tokens limits between (stream_at draft p.after))
  blank_found (passes five on there same) e = (on, same)
  blank_found (tells is begun) e = absurd (omega (arith, ap (λ q. q.sort) is, piece_sort (token_at limits draft at)))

  pub token_found : Finds draft at p → (p.sort ≡ 5 → ⊥) → Token-found draft at p
  token_found (passes five on there same) other = absurd (other five)
  token_found (tells is at_place) other =
      record { is = is; few = omega (arith, ap (λ q. q.sort) is, piece_sort (token_at limits draft at)); begun = at_place }
