-- The tokens of a draft one after another: what is read so far stands in the buffers, and what is still to be read is what the definition
-- reads from here on. One token moves some of the second to the first.
use mathlib.Core.Path.{◌≡◌, refl, sym, ◌∙◌, ap}
use mathlib.Core.List.{List, [], ◌++◌, append-nil, append_assoc}
use Prim.Native.Nat.{ℕ, ◌+◌, ◌-◌, ◌<◌, ◌≤◌, ◌/◌}
use native.Mathlib.Omega.{arith}
use lib.Dec.{eqb}
use lib.ListN.{length, drop, length-append}
use borrow.Author.Tests.{eq-eqb, ne_eqb, lt-ltb, le-ltb}
use Rattle.std.specs.Prelude.{if◌then◌else◌, Result, Ok, Err}
use Rattle.chars.specs.Refusal.{number_of}
use Rattle.chars.specs.declared.refusal.Refusal.{Refusal}
use Rattle.chars.specs.Limits.{limits}
use Rattle.chars.specs.Stream.{start, stream_at, clean}
use Rattle.tokens.specs.Tokens.{Sort, simple, quoted, curly, Whole, Tokens, token, last, tokens, between, first, shown, token_at}
use Rattle.tokens.proofs.OneByOne.{OneByOne, more, final, none, Sound, one_by_one}
use Rattle.tokens.proofs.Clean.{clean_zero}
use Rattle.runs.specs.Bytes.{blanks}
use Rattle.scan.specs.Found.{Piece, piece_of}
use Rattle.scan.proofs.Blanks.{behind_blanks}
use Rattle.holding.specs.Text.{unchanged}
use Rattle.entities.specs.Entity.{Entity, sizes, texts, rows}
use Rattle.entities.specs.Making.{Reader, Room, Handled, stops, holds, handled, closing, judged}
use Rattle.entities.specs.Judging.{written, text_written}
use Rattle.entities.specs.Stepping.{Contents, Ready, open_groups, below, room_left, reader_of, agrees, sorted, judged_as, closing_as}
use Rattle.entities.specs.Stepping.{Goes, Stops, took}
use Rattle.entities.specs.declared.state.State.{State}
use Rattle.entities.specs.declared.state.Mode.TheVariants.{Regular}
use Rattle.entities.proofs.OpenGroups.{higher}
use Rattle.entities.proofs.Listing.{written_none, written_more, text_none, text_more, sizes_append}
use Rattle.reading.specs.Reading.{Read, refusal, success, before, taken, text_of, string_of, entities, read_with, reading, answered}
use Rattle.reading.specs.Reading.{room_of}
use Rattle.reading.specs.Rounds.{SoFar, ahead, Went, goes_round, Over, behind_of, ended_of}
use Rattle.reading.specs.declared.Answer.{Answer}

-- what reading comes to at a token: it is handled, and then the tokens behind it are read, or it was the last
abbrev Comes : (draft : List ℕ) → Piece → Tokens → Type 0
Comes draft f ts =
    (room : Room) (r : Reader)
    → entities limits draft room r ts
    ≡ taken f.place
    (handled limits room r (closing_as f.sort (clean f.prefix (stream_at draft f.place))) f.place
    (λ q. judged_as f.sort q f.place (clean f.prefix (stream_at draft f.place)) (clean f.bytes (stream_at draft f.from))))
    (λ room r. if eqb f.sort 3 then success f.after else entities limits draft room r
    (tokens limits between (stream_at draft f.after)))

-- a token that is no refusal: where it stands, what it has, and what reading makes of it
pub record Taken (draft : List ℕ) (at : ℕ) (f : Piece) (ts : Tokens) : Type 0 where
  pub sorts : sorted f.sort f.prefix f.bytes
  pub behind : at ≤ f.place
  pub on : f.place < f.after
  pub there : f.after ≤ length draft
  pub short : f.prefix ≤ 4096
  pub brief : f.bytes ≤ 4096
  pub opened : f.from < f.after
  pub as_is : unchanged draft f.from f.bytes (f.after - f.from - 1)
  pub contents : Contents draft f.place f.prefix f.from f.bytes
  pub comes : Comes draft f ts

-- a string as the code takes it apart
abbrev string_piece : Whole → (sort : ℕ) → Piece
string_piece w sort =
    record { sort = sort; place = w.place; after = w.after; prefix = w.prefix; from = w.from; bytes = w.length; number = 0 }

module _ (draft : List ℕ) (at : ℕ) where
  pub token_limit : 1 ≤ limits.token
  token_limit = omega arith

  contains :
      (w : Whole) (from n : ℕ) → Sound limits token_limit draft at w → length (clean n (stream_at draft from)) ≡ n
      → Contents draft w.place w.prefix from n
  contains w from n so long =
      record {
        here = omega (arith, so.on, so.there);
        text_long = so.text_long;
        text_raw = so.text_raw;
        string_long = long;
        own =
            so.own;
      }

  -- a string of either sort
  stringed :
      (w : Whole) (sort : ℕ) (ts : Tokens) → Sound limits token_limit draft at w → sorted sort w.prefix w.length
      → Comes draft (string_piece w sort) ts → Taken draft at (string_piece w sort) ts
  stringed w sort ts so sorts comes =
      record {
        sorts = sorts;
        behind = so.behind;
        on = so.on;
        there = so.there;
        short = omega (arith, so.short);
        brief = so.brief;
        opened = so.opened;
        as_is = λ h. so.string_raw (omega (arith, so.opened));
        contents = contains w w.from w.length so so.string_long;
        comes = comes;
      }

  whole :
      (w : Whole) (sort : Sort) → w.sort ≡ sort → Sound limits token_limit draft at w
      → Taken draft at (piece_of (shown w)) (token w (tokens limits between (stream_at draft w.after)))
  unfolding piece_of shown sorted entities closing_as judged_as closing judged text_of string_of
  whole w simple e so =
      rw e
      (record {
        sorts = (λ z. so.some e, λ a b. refl);
        behind = so.behind;
        on = so.on;
        there = so.there;
        short = omega (arith, so.short);
        brief = omega arith;
        opened = omega (arith, so.on);
        as_is = λ h. clean_zero (stream_at draft 0);
        contents = contains w 0 0 so (ap length (clean_zero (stream_at draft 0)));
        comes = λ room r. refl;
      })
  whole w quoted e so = rw e (stringed w 1 _ so (λ z. absurd (omega arith), λ a b. absurd (a refl)) (λ room r. refl))
  whole w curly e so = rw e (stringed w 2 _ so (λ z. absurd (omega arith), λ a b. absurd (b refl)) (λ room r. refl))

  finally : (place after : ℕ) → at ≤ place → place < after → after ≤ length draft
      → Taken draft at (piece_of (first (last place after))) (last place after)
  unfolding piece_of first sorted entities closing_as judged_as
  finally place after b o t =
      record {
        sorts = (λ z. absurd (omega arith), λ a b. refl);
        behind = b;
        on = o;
        there = t;
        short = omega arith;
        brief = omega arith;
        opened = omega arith;
        as_is = λ h. clean_zero (stream_at draft 0);
        contents =
            record {
              here = omega arith;
              text_long = ap length (clean_zero (stream_at draft place));
              text_raw = clean_zero (stream_at draft place);
              string_long = ap length (clean_zero (stream_at draft 0));
              own = λ h. absurd (omega arith);
            };
        comes = λ room r. refl;
      }

  pub go_on :
      (ts : Tokens) → OneByOne limits token_limit draft at ts → ((piece_of (first ts)).sort ≡ 4 → ⊥) → Taken draft at (piece_of (first ts))
      ts
  unfolding piece_of first
  go_on ts (more w so) some = whole w w.sort refl so
  go_on ts (final place after b o t) some = finally place after b o t
  go_on ts (none number place) some = absurd (some refl)

  not_four : (w : Whole) (sort : Sort) → w.sort ≡ sort → (piece_of (shown w)).sort ≡ 4 → ⊥
  unfolding piece_of shown
  not_four w simple e f = let z : ◌≡◌ {A = ℕ} 0 4 = rw e at f in omega arith
  not_four w quoted e f = let z : ◌≡◌ {A = ℕ} 1 4 = rw e at f in omega arith
  not_four w curly e f = let z : ◌≡◌ {A = ℕ} 2 4 = rw e at f in omega arith

  pub ended :
      (ts : Tokens) → OneByOne limits token_limit draft at ts → (piece_of (first ts)).sort ≡ 4
      → (room : Room) (r : Reader) → entities limits draft room r ts ≡ refusal (piece_of (first ts)).number (piece_of (first ts)).place
  unfolding piece_of first entities
  ended ts (more w so) e room r = absurd (not_four w w.sort refl e)
  ended ts (final place after b o t) e room r = absurd (omega arith)
  ended ts (none number place) e room r = refl

both : (es fs : List Entity) (x : Read) → before es (before fs x) ≡ before (es ++ fs) x
unfolding before
both es fs x = rw (append_assoc es fs x.entities)

-- an answer of reading
abbrev pub told : (number place : ℕ) → State → (consumed : ℕ) → Answer
told number place s consumed =
    record { number = number; place = place; entities = s.entities; text = s.text; consumed = consumed; steps = 0; cells = 0 }

-- where nothing more is read, the buffers hold what reading says
pub over :
    (draft list₀ text₀ list text : List ℕ) (s : State) (es : List Entity) (number place consumed : ℕ)
    → list ≡ written list₀ 0 0 es → text ≡ text_written text₀ 0 es → s.entities ≡ length es → s.text ≡ sizes es
    → read_with limits (room_of list₀ text₀) draft
    ≡ before es (record { number = number; place = place; consumed = consumed; entities = [] })
    → (told number place s consumed ≡ (reading limits draft list₀ text₀).answer)
    × (list ≡ (reading limits draft list₀ text₀).list)
    × (text ≡ (reading limits draft list₀ text₀).text)
unfolding reading answered before written text_written
over draft list₀ text₀ list text s es number place consumed list_is text_is many much rest =
    let none : 0 + length es ≡ length es = omega arith in
    let none-text : 0 + sizes es ≡ sizes es = omega arith in
    rw (rest, append-nil es, many, much) (refl, rw (list_is, none), rw (text_is, none-text))

-- A round: what it wrote stands behind what was written before.
module _ (draft list₀ text₀ list text groups : List ℕ) (s : State) (at : ℕ)
    (so : SoFar draft list₀ text₀ list text groups s at (ahead draft list text groups s at)) (t : State) (list' text' : List ℕ) (x : Read)
    (w : Went draft list text groups s at t list' text' x) where
  abbrev es : List Entity
  es = so.es ++ w.es

  first_many : s.entities ≡ 0 + length so.es
  first_many = omega (arith, so.many)

  first_much : s.text ≡ 0 + sizes so.es
  first_much = omega (arith, so.much)

  all_list : list' ≡ written list₀ 0 0 es
  all_list =
      w.list_is
      ∙ rw (so.list_is, first_many, first_much) (written_more list₀ 0 0 so.es w.es
      (omega (arith, so.ready.held, so.same_list, so.many)))

  all_text : text' ≡ text_written text₀ 0 es
  all_text = w.text_is ∙ rw (so.text_is, first_much) (text_more text₀ 0 so.es w.es
      (omega (arith, so.ready.used, so.same_text, so.much)))

  all_many : t.entities ≡ length es
  all_many = omega (arith, w.many, so.many, length-append so.es w.es)

  all_much : t.text ≡ sizes es
  all_much = omega (arith, w.much, so.much, sizes_append so.es w.es)

  all_rest : read_with limits (room_of list₀ text₀) draft ≡ before es x
  all_rest = so.rest ∙ (ap (before so.es) w.comes ∙ both so.es w.es x)

  pub further :
      (groups' : List ℕ) (on : ℕ) → length list' ≡ length list → length text' ≡ length text → Ready t list' text' groups' on
      → SoFar draft list₀ text₀ list' text' groups' t on x
  further groups' on l u ready =
      record {
        es = es;
        list_is = all_list;
        text_is = all_text;
        many = all_many;
        much = all_much;
        same_list = l ∙ so.same_list;
        same_text = u ∙ so.same_text;
        ready = ready;
        rest = all_rest;
      }

-- a round behind which nothing more is read
pub finished :
    (draft list₀ text₀ list text groups : List ℕ) (s : State) (at : ℕ)
    → SoFar draft list₀ text₀ list text groups s at (ahead draft list text groups s at)
    → (t : State) (list' text' groups' : List ℕ) (number place after : ℕ)
    → goes_round draft list text groups s at (Over number place t after) list' text' groups'
    → (told number place t after ≡ (reading limits draft list₀ text₀).answer)
    × (list' ≡ (reading limits draft list₀ text₀).list)
    × (text' ≡ (reading limits draft list₀ text₀).text)
unfolding goes_round
finished draft list₀ text₀ list text groups s at so t list' text' groups' number place after w =
    over draft list₀ text₀ list' text' t (so.es ++ w.es) number place after
    (all_list draft list₀ text₀ list text groups s at so t list' text' _ w)
    (all_text draft list₀ text₀ list text groups s at so t list' text' _ w)
    (all_many draft list₀ text₀ list text groups s at so t list' text' _ w)
    (all_much draft list₀ text₀ list text groups s at so t list' text' _ w)
    (all_rest draft list₀ text₀ list text groups s at so t list' text' _ w)

-- nothing is read so far
pub at_first :
    (draft list text groups : List ℕ) → length draft ≤ 16384 → length groups ≡ 64
    → SoFar draft list text list text groups (record { mode = Regular; depth = 0; entities = 0; text = 0 })
    (start draft)
    (ahead draft list text groups (record { mode = Regular; depth = 0; entities = 0; text = 0 }) (start draft))
unfolding ahead read_with room_of room_left reader_of open_groups below before sizes
at_first draft list text groups h g =
    let some : length list / 6 - 0 ≡ length list / 6 = omega arith in
    let much : length text - 0 ≡ length text = omega arith in
    record {
      es = [];
      list_is = sym (written_none list 0 0);
      text_is = sym (text_none text 0);
      many = refl;
      much = refl;
      same_list = refl;
      same_text = refl;
      ready = record { deep = omega arith; array = g; held = omega arith; used = omega arith; small = omega arith; numbers = tt };
      rest = rw (le-ltb 16384 (length draft) h, some, much);
    }

-- a later place is as good
pub later : (s : State) (list text groups : List ℕ) (at place : ℕ) → at ≤ place → Ready s list text groups at
    → Ready s list text groups place
later s list text groups at place h ready =
    record {
      deep = ready.deep;
      array = ready.array;
      held = ready.held;
      used = ready.used;
      small = omega (arith, ready.small);
      numbers = higher _ (at + 1) (place + 1) (omega arith) ready.numbers;
    }

-- behind whitespace all is as before it
pub past_whitespace :
    (draft list₀ text₀ list text groups : List ℕ) (s : State) (at place : ℕ) → place ≡ at + blanks (drop at draft)
    → SoFar draft list₀ text₀ list text groups s at (ahead draft list text groups s at)
    → SoFar draft list₀ text₀ list text groups s place (ahead draft list text groups s place)
unfolding ahead
past_whitespace draft list₀ text₀ list text groups s at place is so =
    record {
      es = so.es;
      list_is = so.list_is;
      text_is = so.text_is;
      many = so.many;
      much = so.much;
      same_list = so.same_list;
      same_text = so.same_text;
      ready = later s list text groups at place (omega arith) so.ready;
      rest = so.rest
          ∙ ap (λ t. before so.es (entities limits draft (room_left s list text) (reader_of s groups) t))
          (rw is (behind_blanks draft at));
    }

-- One token, as the code has it.
module _ (draft list text groups : List ℕ) (s : State) (at : ℕ) (f : Piece) (is : f ≡ piece_of (token_at limits draft at)) where
  pub here : (f.sort ≡ 4 → ⊥) → Taken draft at f (tokens limits between (stream_at draft at))
  unfolding token_at
  here some = rw is (go_on draft at _ (one_by_one limits (token_limit draft at) draft at) (rw is at some))

  -- none
  pub refused_here :
      f.sort ≡ 4 → goes_round draft list text groups s at (Over f.number f.place s 0) list text groups
  unfolding goes_round token_at ahead refusal before sizes
  refused_here e =
      record {
        es = [];
        list_is = sym (written_none list s.entities s.text);
        text_is = sym (text_none text s.text);
        many = omega arith;
        much = omega arith;
        comes = rw is (ended draft at _ (one_by_one limits (token_limit draft at) draft at) (rw is at e) (room_left s list text)
            (reader_of s groups));
      }

  module _ (some : f.sort ≡ 4 → ⊥) (list' text' groups' : List ℕ) where
    abbrev comes : Handled
    comes =
        handled limits (room_left s list text) (reader_of s groups) (closing_as f.sort (clean f.prefix (stream_at draft f.place)))
        f.place
        (λ q. judged_as f.sort q f.place (clean f.prefix (stream_at draft f.place)) (clean f.bytes (stream_at draft f.from)))

    abbrev next : Room → Reader → Read
    next room r = if eqb f.sort 3 then success f.after else entities limits draft room r
        (tokens limits between (stream_at draft f.after))

    taken_here : ahead draft list text groups s at ≡ taken f.place comes next
    unfolding ahead
    taken_here = (here some).comes (room_left s list text) (reader_of s groups)

    -- a token that is refused
    halted :
        (h : Handled) (n : ℕ) (t : State) → ahead draft list text groups s at ≡ taken f.place h next
        → agrees h (Stops n t) s list text list' text' groups' f.place
        → Went draft list text groups s at s list' text' (refusal n f.place)
    unfolding agrees taken refusal before sizes
    halted (stops m) n t e a =
        record {
          es = [];
          list_is = a.1 ∙ sym (written_none list s.entities s.text);
          text_is = a.2 ∙ sym (text_none text s.text);
          many = omega arith;
          much = omega arith;
          comes = e ∙ ap (λ j. refusal j f.place) (sym a.0);
        }
    halted (holds _ room r) n t e a = absurd a

    -- a token that is held
    moved :
        (h : Handled) (t : State) → ahead draft list text groups s at ≡ taken f.place h next
        → agrees h (Goes t) s list text list' text' groups' f.place → length list' ≡ length list → length text' ≡ length text
        → Went draft list text groups s at t list' text' (next (room_left t list' text') (reader_of t groups'))
    unfolding agrees taken room_left
    moved (stops m) t e a l u = absurd a
    moved (holds fs room r) t e a l u =
        let left : room ≡ room_left t list' text' = a.5 ∙ rw (l, u) in
        record {
          es = fs;
          list_is = a.0;
          text_is = a.1;
          many = a.2;
          much = a.3;
          comes = e ∙ (ap (λ q. before fs (next q r)) left ∙ ap (λ q. before fs (next (room_left t list' text') q)) a.4);
        }

    ready_behind :
        (h : Handled) (t : State) → agrees h (Goes t) s list text list' text' groups' f.place → length list' ≡ length list
        → length text' ≡ length text → Ready t list' text' groups' f.after
    unfolding agrees
    ready_behind (stops m) t a l u = absurd a
    ready_behind (holds fs room r) t a l u =
        let ready = a.6 in
        record {
          deep = ready.deep;
          array = ready.array;
          held = omega (arith, ready.held);
          used = omega (arith, ready.used);
          small = omega (arith, ready.small, (here some).on);
          numbers = higher _ (f.place + 1 + 1) (f.after + 1) (omega (arith, (here some).on)) ready.numbers;
        }

    pub behind_here :
        (step : Result State Refusal) → agrees comes (took s step) s list text list' text' groups' f.place → length list' ≡ length list
        → length text' ≡ length text
        → (f.sort ≡ 3 → ⊥) → goes_round draft list text groups s at (behind_of (took s step) f.place f.after) list' text' groups'
    unfolding goes_round behind_of refusal ahead took
    behind_here (Err n) a l u e = halted comes (number_of n) s taken_here a
    behind_here (Ok t) a l u e =
        let k = here some in (
          rw (ne_eqb f.sort 3 e) at (moved comes t taken_here a l u),
          ready_behind comes t a l u,
          omega (arith, k.behind, k.on),
          omega (arith, k.behind, k.on, k.there),
        )

    pub ended_here :
        (step : Result State Refusal) → agrees comes (took s step) s list text list' text' groups' f.place → length list' ≡ length list
        → length text' ≡ length text
        → f.sort ≡ 3 → goes_round draft list text groups s at (ended_of (took s step) f.place f.after) list' text' groups'
    unfolding goes_round ended_of refusal success took
    ended_here (Err n) a l u e = halted comes (number_of n) s taken_here a
    ended_here (Ok t) a l u e = rw (eq-eqb f.sort 3 e) at (moved comes t taken_here a l u)

-- a draft over the limit: nothing is read
pub too_long :
    (draft list text : List ℕ) → 16384 < length draft
    → (told 1 0 (record { mode = Regular; depth = 0; entities = 0; text = 0 }) 0 ≡ (reading limits draft list text).answer)
    × (list ≡ (reading limits draft list text).list)
    × (text ≡ (reading limits draft list text).text)
unfolding reading answered read_with refusal rows texts sizes
too_long draft list text h = rw (lt-ltb 16384 (length draft) h) (refl, refl, refl)
