-- Whitespace and comments, as loops pass over them. A run of blanks, or a comment's character, leaves what stands behind it as it is; what
-- is left is a character that cleaning gives, or the stream's end, and there the definitions stop as well.
use mathlib.Core.Path.{◌≡◌, refl, sym, ◌∙◌, ap}
use mathlib.Core.Bool.{true, false}
use mathlib.Core.List.{List}
use Prim.Native.Nat.{ℕ, suc, ◌+◌, ◌-◌, ◌<◌, ◌≤◌}
use native.Mathlib.Omega.{arith}
use native.Mathlib.Nat.{add-zero}
use lib.Dec.{leb, eqb, ltb}
use lib.ListN.{length, get_or, drop, length-drop}
use lib.Seq.{get_or-drop}
use borrow.Author.Tests.{eq-eqb, ne_eqb, ltb-true, ltb-false, leb-true, leb-false}
use Rattle.chars.specs.Choice.{within}
use Rattle.chars.specs.Character.{character_at}
use Rattle.chars.specs.Stream.{Stream, next, stop, stream_at}
use Rattle.chars.specs.Character.{Character}
use Rattle.chars.specs.Character.{Clean, Refused, End}
use Rattle.chars.proofs.Cases.{either}
use Rattle.chars.proofs.Characters.{character_is, outside}
use Rattle.chars.proofs.Streams.{at_end, at_character, at_none, plain}
use Rattle.tokens.specs.Sorts.{visible, white, atomic, exclusive, inclusive, legal}
use Rattle.tokens.specs.Runs.{class_of, run, past_blanks, past_comment, past_all}
use Rattle.tokens.proofs.Passing.{class_at, carried, most, ends}
use Rattle.tokens.proofs.Classes.{alone, at_most, has_class, is_white, not_white, foreign}

-- behind whitespace and comments there is the same whether blanks are passed over first or not
pub blanks_first : (s : Stream) → past_all false s ≡ past_all false (past_blanks s)
unfolding past_all past_blanks
blanks_first (stop refusal place) = refl
blanks_first (next number place after rest) =
    either (white number) (λ t. rw t (blanks_first rest)) (λ t. rw t (rw t))

-- and a comment is passed over to its end
pub comment_first : (s : Stream) → past_all true s ≡ past_all false (past_comment s)
unfolding past_all past_comment
comment_first (stop refusal place) = refl
comment_first (next number place after rest) =
    either (eqb number 0x0A) (λ t. rw t) (λ t. rw t (comment_first rest))

-- how many characters a stream has
unfoldable pub count : Stream → ℕ
count (stop refusal place) = 0
count (next number place after rest) = suc (count rest)

shrinks : (s : Stream) → count (past_blanks s) ≤ count s
unfolding count past_blanks
shrinks (stop refusal place) = omega arith
shrinks (next number place after rest) =
    either (white number) (λ t. rw t (omega (arith, shrinks rest))) (λ t. rw t (omega arith))

-- what stands behind blanks is no blank
pub settled :
    (number place after : ℕ) (rest : Stream)
    → next number place after rest ≡ past_blanks (next number place after rest) → white number ≡ false
unfolding count past_blanks
settled number place after rest e =
    either (white number)
    (λ t. absurd (omega (arith, ap count (rw t at e), shrinks rest)))
    (λ t. t)

pub blanks_twice : (s : Stream) → past_blanks (past_blanks s) ≡ past_blanks s
unfolding past_blanks
blanks_twice (stop refusal place) = refl
blanks_twice (next number place after rest) =
    either (white number) (λ t. rw t (blanks_twice rest)) (λ t. rw (t, t))

-- a class at most 9 that is not 8 or 9
outside_eight : (b : ℕ) → within 8 9 (class_of b) ≡ false → class_of b ≤ 9 → class_of b ≤ 7
outside_eight b t h =
    either (leb (class_of b) 7)
    (λ l. leb-true (class_of b) 7 l)
    (λ l. absurd (outside 8 9 (class_of b) t (leb-false (class_of b) 7 l) h))

module _ (draft : List ℕ) where
  -- a byte with a class of its own is a character
  pub alone_at :
      (i : ℕ) → i < length draft → 1 ≤ class_at draft i → character_at draft i ≡ Clean (get_or draft i 0) (i + 1)
  alone_at i h g =
      let a = alone (get_or draft i 0) g (at_most (get_or draft i 0) g) in plain draft i h a.0 a.1 a.2

  pub next_at :
      (i : ℕ) → i < length draft → 1 ≤ class_at draft i
      → stream_at draft i ≡ next (get_or draft i 0) i (i + 1) (stream_at draft (i + 1))
  next_at i h g = at_character draft i (get_or draft i 0) (i + 1) (alone_at i h g)

  -- a run of blanks
  pub blanks_run :
      (at : ℕ) → at ≤ length draft
      → past_blanks (stream_at draft at) ≡ past_blanks (stream_at draft (at + run 8 9 (length draft - at) (drop at draft)))
  unfolding past_blanks
  blanks_run at h =
      carried 8 9 draft (λ i. past_blanks (stream_at draft i)) (length draft - at) at (omega arith)
      (λ i g l a b. rw (next_at i (omega arith) (omega arith), is_white (get_or draft i 0) a b))

  -- a place with a character, or without one: what holds of both
  pub by_character :
      {P : Type 0} (i : ℕ)
      → ((number after : ℕ) → character_at draft i ≡ Clean number after → stream_at draft i ≡ next number i after (stream_at draft after) → P)
      → ((refusal place : ℕ) → stream_at draft i ≡ stop refusal place → P)
      → P
  by_character {P} i yes_way no_way = go (character_at draft i) refl
    where
      go : (answer : Character) → character_at draft i ≡ answer → P
      go (Clean number after) e = yes_way number after e (at_character draft i number after e)
      go (Refused number place) e =
          no_way _ _ (at_none draft i (λ n a f. absurd (let z : ◌≡◌ {A = ℕ} 0 1 = cc in omega arith)))
      go End e = no_way _ _ (at_none draft i (λ n a f. absurd (let z : ◌≡◌ {A = ℕ} 0 1 = cc in omega arith)))

  -- where no whitespace stands, blanks end
  pub blanks_end :
      (i : ℕ) → ((number after : ℕ) → character_at draft i ≡ Clean number after → white number ≡ false)
      → stream_at draft i ≡ past_blanks (stream_at draft i)
  unfolding past_blanks
  blanks_end i none =
      by_character i
      (λ number after e is. rw (is, none number after e))
      (λ refusal place is. rw is)

  -- a character of US-ASCII that no CR begins is its own byte
  pub own_byte :
      (i number after : ℕ) → character_at draft i ≡ Clean number after → number < 0x80 → (get_or draft i 0 ≡ 0x0D → ⊥)
      → (after ≡ i + 1) × (get_or draft i 0 ≡ number)
  unfolding character_at
  own_byte i number after e h r =
      let here : get_or (drop i draft) 0 0 ≡ get_or draft i 0 = get_or-drop i draft 0 0 ∙ ap (λ k. get_or draft k 0) (add-zero i) in
      let one = (character_is (drop i draft) i number after e).single h (λ c. r (sym here ∙ c)) in
      (one.0, sym here ∙ one.1)

  -- and has a class of its own
  pub own_class :
      (i number after : ℕ) → character_at draft i ≡ Clean number after → number < 0x80 → (get_or draft i 0 ≡ 0x0D → ⊥)
      → (get_or draft i 0 ≡ number) × (1 ≤ class_at draft i)
  unfolding character_at
  own_class i number after e h r =
      let is = character_is (drop i draft) i number after e in
      let one = (own_byte i number after e h r).1 in
      (one, rw one (has_class number is.no_nul h is.no_return))

  -- a character whose byte is no CR and of no blank class is not whitespace
  pub no_blank :
      (i : ℕ) → (get_or draft i 0 ≡ 0x0D → ⊥) → within 8 9 (class_at draft i) ≡ false
      → (number after : ℕ) → character_at draft i ≡ Clean number after → white number ≡ false
  no_blank i r t number after e =
      either (ltb number 0x80)
      (λ l.
      let own = own_class i number after e (ltb-true number 0x80 l) r in
      let b = get_or draft i 0 in
      let nine = at_most b own.1 in
      ap white (sym own.0) ∙ not_white b own.1 (outside_eight b t nine))
      (λ l. (foreign number (ltb-false number 0x80 l)).no_white)

  -- What is known where a run from `at` on has ended at `r`: it has passed over nothing that `F` asks for, and ends at another class.
  pub record Ran (F : Stream → Stream) (low high at r : ℕ) : Type 0 where
    pub left : F (stream_at draft r) ≡ F (stream_at draft at)
    pub on : at ≤ r
    pub there : r ≤ length draft
    pub ends : r < length draft → within low high (class_at draft r) ≡ false

  ran :
      (F : Stream → Stream) (low high at r : ℕ) → at ≤ length draft → r ≡ at + run low high (length draft - at) (drop at draft)
      → F (stream_at draft at) ≡ F (stream_at draft (at + run low high (length draft - at) (drop at draft)))
      → Ran F low high at r
  ran F low high at r h e law =
      let k = length draft - at in
      let m = most low high draft k at (omega arith) in
      record {
        left = rw e (sym law);
        on = omega arith;
        there = omega arith;
        ends = λ l. rw e (ends low high draft k at (omega arith) (omega arith));
      }

  pub blanked :
      (at r : ℕ) → at ≤ length draft → r ≡ at + run 8 9 (length draft - at) (drop at draft) → Ran past_blanks 8 9 at r
  blanked at r h e = ran past_blanks 8 9 at r h e (blanks_run at h)

  -- one run after another, where `F` passes over what stands between them
  pub joined :
      (F : Stream → Stream) (low high at i after r : ℕ) → Ran F low high at i → F (stream_at draft i) ≡ F (stream_at draft after)
      → i ≤ after → Ran F low high after r → Ran F low high at r
  joined F low high at i after r a e h b =
      record { left = b.left ∙ (sym e ∙ a.left); on = omega (arith, a.on, b.on); there = b.there; ends = b.ends }

  -- a character's end is behind its place and within the draft
  pub reaches :
      (i number after : ℕ) → character_at draft i ≡ Clean number after → (i < after) × (after ≤ length draft)
  unfolding character_at
  reaches i number after e =
      let is = character_is (drop i draft) i number after e in
      (is.on, omega (arith, is.on, is.there, length-drop i draft))

  -- its number is in Unicode's range
  pub scalar : (i number after : ℕ) → character_at draft i ≡ Clean number after → number < 0x110000
  unfolding character_at
  scalar i number after e = (character_is (drop i draft) i number after e).small

  -- CR gives LF
  pub cr_line :
      (i number after : ℕ) → character_at draft i ≡ Clean number after → get_or draft i 0 ≡ 0x0D → number ≡ 0x0A
  unfolding character_at
  cr_line i number after e r =
      let here : get_or (drop i draft) 0 0 ≡ get_or draft i 0 = get_or-drop i draft 0 0 ∙ ap (λ k. get_or draft k 0) (add-zero i) in
      (character_is (drop i draft) i number after e).returned (here ∙ r)

  -- CR with LF is whitespace
  pub line_passed :
      (i number after : ℕ) → character_at draft i ≡ Clean number after → get_or draft i 0 ≡ 0x0D
      → past_blanks (stream_at draft i) ≡ past_blanks (stream_at draft after)
  unfolding past_blanks white
  line_passed i number after e r = rw (at_character draft i number after e, cr_line i number after e r)

  -- where the characters stop, a comment goes no further
  pub comment_stops :
      (i : ℕ) → ((number after : ℕ) → character_at draft i ≡ Clean number after → ⊥)
      → stream_at draft i ≡ past_comment (stream_at draft i)
  unfolding past_comment
  comment_stops i none = rw (at_none draft i none)

  -- LF ends it, and any other character does not
  pub comment_ends :
      (i number after : ℕ) → character_at draft i ≡ Clean number after → number ≡ 0x0A
      → stream_at draft after ≡ past_comment (stream_at draft i)
  unfolding past_comment
  comment_ends i number after e line = rw (at_character draft i number after e, eq-eqb number 0x0A line)

  pub comment_on :
      (i number after : ℕ) → character_at draft i ≡ Clean number after → (number ≡ 0x0A → ⊥)
      → past_comment (stream_at draft i) ≡ past_comment (stream_at draft after)
  unfolding past_comment
  comment_on i number after e line = rw (at_character draft i number after e, ne_eqb number 0x0A line)

  -- no character stands behind the draft's last byte
  pub none_behind : (i : ℕ) → length draft ≤ i → (number after : ℕ) → character_at draft i ≡ Clean number after → ⊥
  none_behind i h number after e = let far = reaches i number after e in omega (arith, far.0, far.1)

  -- a mark of US-ASCII other than LF is its own byte
  pub no_mark :
      (mark i number after : ℕ) → mark < 0x80 → (mark ≡ 0x0A → ⊥) → character_at draft i ≡ Clean number after
      → (get_or draft i 0 ≡ mark → ⊥) → number ≡ mark → ⊥
  no_mark mark i number after h line e r z =
      let own = own_byte i number after e (omega arith) (λ c. line (sym z ∙ cr_line i number after e c)) in
      r (own.1 ∙ z)

  -- where neither whitespace nor a comment stands, both end
  pub all_end :
      (i : ℕ) → stream_at draft i ≡ past_blanks (stream_at draft i) → (get_or draft i 0 ≡ 0x23 → ⊥)
      → stream_at draft i ≡ past_all false (stream_at draft i)
  unfolding past_all
  all_end i e r =
      by_character i
      (λ number after is here.
      let none = settled number i after (stream_at draft after) (rw here at e) in
      rw (here, none, ne_eqb number 0x23 (λ z. no_mark 0x23 i number after (omega arith) (λ l. omega arith) is r z)))
      (λ refusal place here. rw here)

  -- a comment begins
  pub all_remark :
      (i : ℕ) → i < length draft → get_or draft i 0 ≡ 0x23
      → past_all false (stream_at draft i) ≡ past_all false (past_comment (stream_at draft (i + 1)))
  unfolding past_all class_of visible white atomic exclusive inclusive legal
  all_remark i h r =
      let own : 1 ≤ class_at draft i = rw r (omega arith) in
      rw (next_at i h own, r) (comment_first (stream_at draft (i + 1)))

  pub all_stops : (i : ℕ) → length draft ≤ i → stream_at draft i ≡ past_all false (stream_at draft i)
  unfolding past_all
  all_stops i h = rw (at_end draft i h)

  -- a character whose byte has class 0 is LF, from CR with LF, or is not US-ASCII
  pub foreign_number :
      (i number after : ℕ) → class_at draft i ≡ 0 → character_at draft i ≡ Clean number after → (number ≡ 0x0A → ⊥) → 0x80 ≤ number
  foreign_number i number after k e line =
      either (ltb number 0x80)
      (λ l.
      let own = own_class i number after e (ltb-true number 0x80 l) (λ c. line (cr_line i number after e c)) in
      absurd (omega (arith, own.1)))
      (λ l. ltb-false number 0x80 l)
