-- How a token begins and how its own bytes end: the laws about characters where no token has begun and behind a token's first, each for the
-- number that its byte has.
use mathlib.Core.Path.{◌≡◌, refl, sym, ◌∙◌, ap}
use mathlib.Core.Bool.{true, false, false≢true}
use mathlib.Core.List.{List}
use Prim.Native.Nat.{ℕ, ◌+◌, ◌-◌, ◌<◌, ◌≤◌}
use native.Mathlib.Omega.{arith}
use lib.Dec.{eqb}
use lib.ListN.{length, get_or, get_or-eq_default}
use borrow.Author.Tests.{eqb-true, eqb-false, eq-eqb}
use Rattle.std.specs.Prelude.{if◌then◌else◌}
use Rattle.chars.specs.Limits.{limits}
use Rattle.chars.specs.Character.{character_at}
use Rattle.chars.specs.Stream.{stream_at}
use Rattle.chars.specs.Character.{Clean}
use Rattle.chars.proofs.Cases.{either, by_bound}
use Rattle.chars.proofs.Streams.{at_character}
use Rattle.tokens.specs.Sorts.{visible, white, atomic, exclusive, inclusive, legal}
use Rattle.tokens.specs.Tokens.{State, quoted, curly, Tokens, between, bar, word, string, tokens, step, begins, follows, opens}
use Rattle.tokens.specs.Tokens.{first, token_at}
use Rattle.tokens.specs.Runs.{class_of, sort_of, opened_as, past_all, past_comment}
use Rattle.tokens.specs.Tokens.{Simple, Last}
use Rattle.tokens.proofs.Classes.{plain, opening, is_white, atomic_curly, atomic_other, Atomic}
use Rattle.tokens.proofs.Skipping.{alone_at, all_remark, no_mark}
use Rattle.tokens.proofs.Starts as starts
use Rattle.tokens.proofs.Words as words
use Rattle.runs.specs.Bytes.{begins_of, begins_at}
use Rattle.scan.specs.Found.{Worded}
use Rattle.scan.specs.Opens.{Opens, Goes, Ends}
use Rattle.scan.proofs.Sorts.{begins_own, begins_white, begins_atomic, begins_curly, begins_opening, begins_bar}
use Rattle.scan.proofs.Sorts.{begins_word, begins_neither, ends_own, ends_ending, ends_opening}

-- the sort of a string by the byte that opens it
sort_of_lem : (b : ℕ) → inclusive b ≡ true → (if eqb b 0x22 then quoted else curly) ≡ sort_of (eqb b 0x7B)
unfolding inclusive sort_of
sort_of_lem b t =
    either (eqb b 0x22)
    (λ u. let is = eqb-true b 0x22 u in rw is)
    (λ u. either (eqb b 0x7B)
    (λ v. rw (u, v))
    (λ v. absurd (false≢true (rw (u, v) at t))))

opened_as_lem :
    (b begun prefix after : ℕ) (rest : State → Tokens) → inclusive b ≡ true
    → follows (opens b begun prefix after) rest ≡ rest (string (opened_as (eqb b 0x7B) begun prefix after) 0 1 false)
unfolding opens follows opened_as
opened_as_lem b begun prefix after rest t = rw (sort_of_lem b t)

-- what the number of a place tells of its byte: `|` with `;` right behind it, any other `|`, or its own number
data At (draft : List ℕ) (at k : ℕ) : Type 0 where
  last : begins_of (get_or draft at 0) ≡ 5 → get_or draft (at + 1) 0 ≡ 0x3B → k ≡ 5 → At draft at k
  no_last : begins_of (get_or draft at 0) ≡ 5 → (get_or draft (at + 1) 0 ≡ 0x3B → ⊥) → k ≡ 6 → At draft at k
  own : (begins_of (get_or draft at 0) ≡ 5 → ⊥) → begins_of (get_or draft at 0) ≡ k → At draft at k

at_place : (draft : List ℕ) (at k : ℕ) → k ≡ begins_at draft at → At draft at k
unfolding begins_at
at_place draft at k e =
    let b = begins_of (get_or draft at 0) in
    let next = get_or draft (at + 1) 0 in
    either (eqb b 5)
    (λ t. either (eqb next 0x3B)
    (λ u. last (eqb-true b 5 t) (eqb-true next 0x3B u) (e ∙ rw (t, u)))
    (λ u. no_last (eqb-true b 5 t) (eqb-false next 0x3B u) (e ∙ rw (t, u))))
    (λ t. own (eqb-false b 5 t) (sym (e ∙ rw t)))

-- a number that tells of the byte alone
pub own_number :
    (draft : List ℕ) (at k : ℕ) → eqb k 5 ≡ false → eqb k 6 ≡ false → k ≡ begins_at draft at → begins_of (get_or draft at 0) ≡ k
own_number draft at k no5 no6 e = go (at_place draft at k e)
  where
    go : At draft at k → begins_of (get_or draft at 0) ≡ k
    go (last five is z) = absurd (eqb-false k 5 no5 z)
    go (no_last five none z) = absurd (eqb-false k 6 no6 z)
    go (own other z) = z

-- where a token begins, so it does by its byte
pub token_number : (draft : List ℕ) (at k : ℕ) → k ≡ begins_at draft at → 3 ≤ k → 3 ≤ begins_of (get_or draft at 0)
token_number draft at k e h = go (at_place draft at k e)
  where
    go : At draft at k → 3 ≤ begins_of (get_or draft at 0)
    go (last five is z) = omega arith
    go (no_last five none z) = omega arith
    go (own other z) = omega arith

-- a byte other than 0 stands within the draft
within_draft : (draft : List ℕ) (i : ℕ) → 0 < get_or draft i 0 → i < length draft
within_draft draft i h =
    by_bound i (length draft) (λ l. l) (λ g. absurd (omega (arith, get_or-eq_default draft 0 g)))

module _ (draft : List ℕ) (at : ℕ) where
  -- whitespace is passed over
  pub blank :
      (number after : ℕ) → character_at draft at ≡ Clean number after → white number ≡ true
      → tokens limits between (stream_at draft at) ≡ tokens limits between (stream_at draft after)
  unfolding tokens step begins follows
  blank number after e w = rw (at_character draft at number after e, w)

  pub blank_byte :
      at < length draft → begins_of (get_or draft at 0) ≡ 1
      → tokens limits between (stream_at draft at) ≡ tokens limits between (stream_at draft (at + 1))
  blank_byte h e =
      let b = get_or draft at 0 in
      let two = begins_white b e in
      blank b (at + 1) (alone_at draft at h (begins_own b (omega arith))) (is_white b two.0 two.1)

  -- CR LF is whitespace
  pub blank_line :
      character_at draft at ≡ Clean 0x0A (at + 2)
      → tokens limits between (stream_at draft at) ≡ tokens limits between (stream_at draft (at + 2))
  unfolding white
  blank_line e = blank 0x0A (at + 2) e refl

  -- a comment is passed over
  pub remark :
      (after : ℕ) → at < length draft → get_or draft at 0 ≡ 0x23 → stream_at draft after ≡ past_comment (stream_at draft (at + 1))
      → tokens limits between (stream_at draft at) ≡ tokens limits between (stream_at draft after)
  remark after h r e =
      starts.passed limits false (stream_at draft at)
      ∙ (ap (tokens limits between) (all_remark draft at h r ∙ ap (past_all false) (sym e))
      ∙ sym (starts.passed limits false (stream_at draft after)))

  module _ (h : at < length draft) where
    -- a token alone
    alone : 3 ≤ begins_of (get_or draft at 0) → Atomic (get_or draft at 0) → token_at limits draft at ≡ Simple at (at + 1) 1
    unfolding token_at
    alone k a =
        let b = get_or draft at 0 in
        let no = begins_neither b k in
        starts.alone limits draft at b (at + 1) (alone_at draft at h (begins_own b (omega arith))) no.0 no.1 a.is_visible
        a.no_inclusive a.is_atomic

    pub alone_other : begins_of (get_or draft at 0) ≡ 3 → token_at limits draft at ≡ Simple at (at + 1) 1
    alone_other e = let b = get_or draft at 0 in alone (omega arith) (atomic_other b (begins_atomic b e))

    pub alone_curly : begins_of (get_or draft at 0) ≡ 7 → token_at limits draft at ≡ Simple at (at + 1) 1
    alone_curly e = let b = get_or draft at 0 in alone (omega arith) (atomic_curly b (begins_curly b e))

    -- `|`
    barred :
        begins_of (get_or draft at 0) ≡ 5 → token_at limits draft at ≡ first (tokens limits (bar at) (stream_at draft (at + 1)))
    unfolding token_at class_of visible white atomic exclusive inclusive legal
    barred e =
        let b = get_or draft at 0 in
        let is = begins_bar b e in
        let four : class_of b ≡ 4 = ap class_of is ∙ refl in
        let p = plain b (omega arith) (omega arith) in
        starts.barred limits draft at b (at + 1) (alone_at draft at h (omega arith)) p.no_white p.no_remark p.is_visible
        p.no_inclusive p.no_atomic (eq-eqb b 0x7C is)

    -- any other token
    worded :
        begins_of (get_or draft at 0) ≡ 6 → token_at limits draft at ≡ first (tokens limits (word at 1) (stream_at draft (at + 1)))
    unfolding token_at
    worded e =
        let b = get_or draft at 0 in
        let is = begins_word b e in
        let low = is.0 in
        let p = plain b is.0 is.1 in
        starts.worded limits draft at b (at + 1) (alone_at draft at h (omega arith)) p.no_white p.no_remark p.is_visible
        p.no_inclusive p.no_atomic is.2

    -- a string without a prefix
    opened : begins_of (get_or draft at 0) ≡ 4 → Opens draft at at
    unfolding token_at
    opened e =
        let b = get_or draft at 0 in
        let two = begins_opening b e in
        let o = opening b two in
        let none : 0 ≡ at - at = omega arith in
        record {
          is =
              starts.opened limits draft at b (at + 1) (alone_at draft at h (omega arith)) o.no_white o.no_remark o.is_visible
              o.is_inclusive
              ∙ (ap first (opened_as_lem b at 0 (at + 1) (λ state. tokens limits state (stream_at draft (at + 1))) o.is_inclusive)
              ∙ ap
              (λ n. first (tokens limits (string (opened_as (eqb b 0x7B) at n (at + 1)) 0 1 false) (stream_at draft (at + 1))))
              none);
        }

    -- `|` with `;` right behind it
    bar_last : begins_of (get_or draft at 0) ≡ 5 → get_or draft (at + 1) 0 ≡ 0x3B → token_at limits draft at ≡ Last at (at + 2)
    unfolding class_of visible white atomic exclusive inclusive legal
    bar_last e is =
        let b = get_or draft (at + 1) 0 in
        let on : at + 1 + 1 ≡ at + 2 = omega arith in
        let own : 1 ≤ class_of b = rw is (omega arith) in
        barred e
        ∙ (starts.last limits draft at (at + 1) b (at + 1 + 1) (alone_at draft (at + 1) (within_draft draft (at + 1) (omega arith)) own) is
        ∙ ap (Last at) on)

    -- any other `|`
    bar_word :
        begins_of (get_or draft at 0) ≡ 5 → (get_or draft (at + 1) 0 ≡ 0x3B → ⊥)
        → token_at limits draft at ≡ first (tokens limits (word at 1) (stream_at draft (at + 1)))
    bar_word e none =
        barred e
        ∙ ap first
        (starts.no_last limits draft at (at + 1)
        (λ number after c z. no_mark draft 0x3B (at + 1) number after (omega arith) (λ l. omega arith) c none z))

    -- what stands at a place by its number
    pub begun_last : 5 ≡ begins_at draft at → token_at limits draft at ≡ Last at (at + 2)
    begun_last e = go (at_place draft at 5 e)
      where
        go : At draft at 5 → token_at limits draft at ≡ Last at (at + 2)
        go (last five is k) = bar_last five is
        go (no_last five none k) = absurd (omega arith)
        go (own no5 k) = absurd (no5 k)

    pub begun_word :
        6 ≡ begins_at draft at → token_at limits draft at ≡ first (tokens limits (word at 1) (stream_at draft (at + 1)))
    begun_word e = go (at_place draft at 6 e)
      where
        go : At draft at 6 → token_at limits draft at ≡ first (tokens limits (word at 1) (stream_at draft (at + 1)))
        go (last five is k) = absurd (omega arith)
        go (no_last five none k) = bar_word five none
        go (own no5 k) = worded k

    pub begun_string : 4 ≡ begins_at draft at → Opens draft at at
    begun_string e = opened (own_number draft at 4 refl refl e)

  -- the end of a string's prefix of no bytes
  pub opened_ends : at < length draft → Opens draft at at → Ends draft at at 2
  opened_ends h o =
      record {
        on = omega arith;
        there = h;
        some = λ e. absurd (omega arith);
        simple = λ e. absurd (omega arith);
        opened = λ e. o;
      }

  -- the end of a token's own bytes
  pub word_ends :
      (i how : ℕ) → token_at limits draft at ≡ first (tokens limits (word at 1) (stream_at draft (at + 1))) → Worded draft at i how
      → Ends draft at i how
  word_ends i how e w =
      let on = w.on in
      let b = get_or draft i 0 in
      let all = e ∙ ap first w.same in
      record {
        on = omega arith;
        there = w.there;
        some = λ one. on;
        simple =
            λ one.
            let is = w.ends ∙ one in
            let x = ends_ending b is in
            all
            ∙ words.ended limits draft at i b (i + 1) (i - at) (alone_at draft i w.there (ends_own b (omega arith))) x.is_legal
            x.is_exclusive;
        opened =
            λ two.
            let is = w.ends ∙ two in
            let o = opening b (ends_opening b is) in
            record {
              is =
                  all
                  ∙ (words.opened limits draft at i b (i + 1) (i - at) (alone_at draft i w.there (ends_own b (omega arith)))
                  o.is_legal
                  o.no_exclusive o.is_inclusive
                  ∙ ap first (opened_as_lem b at (i - at) (i + 1) (λ state. tokens limits state (stream_at draft (i + 1))) o.is_inclusive));
            };
      }

  -- and where it has not ended yet
  pub word_goes :
      (i how : ℕ) → token_at limits draft at ≡ first (tokens limits (word at 1) (stream_at draft (at + 1))) → Worded draft at i how
      → Goes draft at i
  word_goes i how e w = record { is = e ∙ ap first w.same }

  -- CR LF ends a token
  pub line_ends :
      (i : ℕ) → at < i → i < length draft → Goes draft at i → character_at draft i ≡ Clean 0x0A (i + 2) → Ends draft at i 1
  unfolding visible white exclusive legal
  line_ends i on h g e =
      record {
        on = omega arith;
        there = h;
        some = λ one. on;
        simple = λ one. g.is ∙ words.ended limits draft at i 0x0A (i + 2) (i - at) e refl refl;
        opened = λ two. absurd (omega arith);
      }
