-- String data, one character at a time. Each character adds as many clean bytes as it is re-encoded in; only a mark that no backslash
-- stands before changes the level, and a backslash makes no difference to a character that is no mark.
use mathlib.Core.Path.{◌≡◌, refl, sym, ◌∙◌, ap, subst}
use mathlib.Core.Bool.{Bool, true, false, not, ◌&&◌, and-false}
use mathlib.Core.List.{List}
use Prim.Native.Nat.{ℕ, zero, suc, ◌+◌, ◌-◌, ◌<◌, ◌≤◌}
use native.Mathlib.Omega.{arith}
use native.Mathlib.Numerals.{add-one}
use native.Mathlib.Nat.{add-zero}
use lib.Dec.{eqb}
use lib.ListN.{length, get_or}
use borrow.Author.Tests.{ne_eqb, eqb-false, not-true}
use Rattle.std.specs.Prelude.{if◌then◌else◌}
use Rattle.chars.specs.Choice.{within}
use Rattle.chars.specs.Limits.{limits}
use Rattle.chars.specs.Character.{character_at, encoded}
use Rattle.chars.specs.Stream.{stream_at}
use Rattle.chars.specs.Character.{Clean}
use Rattle.chars.proofs.Cases.{both}
use Rattle.chars.proofs.Extent.{encoded_one, within_true}
use Rattle.chars.proofs.Streams.{at_end, plain as plain_at}
use Rattle.tokens.specs.Tokens.{string, up, down, nested, inside, step, follows, tokens, first}
use Rattle.tokens.specs.Runs.{sort_of, opened_as}
use Rattle.tokens.proofs.Skipping.{by_character, reaches, no_mark}
use Rattle.tokens.proofs.Strings.{closes_here, goes_on}
use Rattle.runs.specs.Bytes.{plain, Passed}
use Rattle.wide.specs.Wide.{Wides, none, more}
use Rattle.scan.specs.Data.{Even, Goes}
use Rattle.scan.specs.Found.{Closed}

-- what takes the level up, and what takes it down
abbrev pub upper : Bool → ℕ
upper curly = if curly then 0x7B else 0x22

abbrev pub lower : Bool → ℕ
lower curly = if curly then 0x7D else 0x22

-- a byte of US-ASCII that is neither nul nor CR
pub record Single (b : ℕ) : Type 0 where
  pub above : 0 < b
  pub below : b < 0x80
  pub no_return : b ≡ 0x0D → ⊥

pub single_upper : (curly : Bool) → Single (upper curly)
single_upper true = record { above = omega arith; below = omega arith; no_return = λ e. omega arith }
single_upper false = record { above = omega arith; below = omega arith; no_return = λ e. omega arith }

pub single_lower : (curly : Bool) → Single (lower curly)
single_lower true = record { above = omega arith; below = omega arith; no_return = λ e. omega arith }
single_lower false = record { above = omega arith; below = omega arith; no_return = λ e. omega arith }

pub single_backslash : Single 0x5C
single_backslash = record { above = omega arith; below = omega arith; no_return = λ e. omega arith }

-- a character that is none of the three
pub even :
    (curly : Bool) (b : ℕ) → (b ≡ upper curly → ⊥) → (b ≡ lower curly → ⊥) → (b ≡ 0x5C → ⊥) → Even curly b
unfolding up down sort_of
even true b u d s =
    record { no_up = ne_eqb b 0x7B u; no_down = ne_eqb b 0x7D d; no_backslash = ne_eqb b 0x5C s }
even false b u d s = record { no_up = refl; no_down = ne_eqb b 0x22 d; no_backslash = ne_eqb b 0x5C s }

high_even : (curly : Bool) (b : ℕ) → 0x80 ≤ b → Even curly b
high_even true b h = even true b (λ e. omega arith) (λ e. omega arith) (λ e. omega arith)
high_even false b h = even false b (λ e. omega arith) (λ e. omega arith) (λ e. omega arith)

line_even : (curly : Bool) → Even curly 0x0A
line_even true = even true 0x0A (λ e. omega arith) (λ e. omega arith) (λ e. omega arith)
line_even false = even false 0x0A (λ e. omega arith) (λ e. omega arith) (λ e. omega arith)

-- what the marks do
goes_down : (curly : Bool) → down (sort_of curly) (lower curly) ≡ true
unfolding down sort_of
goes_down true = refl
goes_down false = refl

not_up : (curly : Bool) → up (sort_of curly) (lower curly) ≡ false
unfolding up sort_of
not_up true = refl
not_up false = refl

-- where a mark takes the level up it is not the one that takes it down
record Rises (curly : Bool) : Type 0 where
  pub rises : up (sort_of curly) (upper curly) ≡ true
  pub stays : down (sort_of curly) (upper curly) ≡ false

rising : (curly : Bool) → (upper curly ≡ lower curly → ⊥) → Rises curly
unfolding up down sort_of
rising true h = record { rises = refl; stays = refl }
rising false h = absurd (h refl)

backslash_up : (curly : Bool) → up (sort_of curly) 0x5C ≡ false
unfolding up sort_of
backslash_up true = refl
backslash_up false = refl

backslash_down : (curly : Bool) → down (sort_of curly) 0x5C ≡ false
unfolding down sort_of
backslash_down true = refl
backslash_down false = refl

-- a character at a byte that is none of the three is none of them either
even_at :
    (draft : List ℕ) (curly : Bool) (i number after : ℕ) → character_at draft i ≡ Clean number after
    → (get_or draft i 0 ≡ upper curly → ⊥) → (get_or draft i 0 ≡ lower curly → ⊥) → (get_or draft i 0 ≡ 0x5C → ⊥) → Even curly number
even_at draft true i number after e u d s =
    even true number
    (no_mark draft 0x7B i number after (omega arith) (λ l. omega arith) e u)
    (no_mark draft 0x7D i number after (omega arith) (λ l. omega arith) e d)
    (no_mark draft 0x5C i number after (omega arith) (λ l. omega arith) e s)
even_at draft false i number after e u d s =
    even false number
    (no_mark draft 0x22 i number after (omega arith) (λ l. omega arith) e u)
    (no_mark draft 0x22 i number after (omega arith) (λ l. omega arith) e d)
    (no_mark draft 0x5C i number after (omega arith) (λ l. omega arith) e s)

-- a byte that string data is mostly made of
plain_data : (curly : Bool) (b : ℕ) → plain curly b ≡ true → Single b × Even curly b
unfolding plain
plain_data true b t =
    let p = both (within 0x20 0x7A b) (not (eqb b 0x5C)) t in
    let w = within_true 0x20 0x7A b p.0 in (
      record { above = omega arith; below = omega arith; no_return = λ e. omega arith },
      even true b (λ e. omega arith) (λ e. omega arith) (eqb-false b 0x5C (not-true _ p.1)),
    )
plain_data false b t =
    let p = both (within 0x20 0x7F b) _ t in
    let q = both (not (eqb b 0x22)) (not (eqb b 0x5C)) p.1 in
    let m = eqb-false b 0x22 (not-true _ q.0) in
    let w = within_true 0x20 0x7F b p.0 in (
      record { above = omega arith; below = omega arith; no_return = λ e. omega arith },
      even false b m m (eqb-false b 0x5C (not-true _ q.1)),
    )

module _ (draft : List ℕ) (curly : Bool) where
  pub nothing : (at level : ℕ) → at ≤ length draft → Goes draft curly at level at level 0
  nothing at level h =
      record {
        on = omega arith;
        there = h;
        same = λ place prefix from n l. let none : n + (at - at - 0) ≡ n = omega arith in rw none;
      }

  pub joined :
      (at level i deep less j low gone : ℕ) → Goes draft curly at level i deep less → Goes draft curly i deep j low gone
      → Goes draft curly at level j low (less + gone)
  joined at level i deep less j low gone a b =
      record {
        on = omega (arith, a.on, b.on);
        there = b.there;
        same =
            λ place prefix from n l.
            let sum : n + (i - at - less) + (j - i - gone) ≡ n + (j - at - (less + gone)) = omega (arith, a.on, b.on) in
            a.same place prefix from n (omega (arith, a.on, b.on))
            ∙ (b.same place prefix from (n + (i - at - less)) (omega (arith, a.on, b.on))
            ∙ ap (λ k. tokens limits (string (opened_as curly place prefix from) k low false) (stream_at draft j)) sum);
      }

  -- a character that is no backslash and does not close the string
  one :
      (i number after level deep less : ℕ) → character_at draft i ≡ Clean number after → i + length (encoded number) + less ≡ after
      → (down (sort_of curly) number && eqb level 1) ≡ false → eqb number 0x5C ≡ false
      → nested (sort_of curly) level number ≡ deep → Goes draft curly i level after deep less
  unfolding opened_as
  one i number after level deep less e size t b d =
      record {
        on = omega arith;
        there = (reaches draft i number after e).1;
        same =
            λ place prefix from n l.
            let so : n + length (encoded number) ≡ n + (after - i - less) = omega arith in
            goes_on limits draft (opened_as curly place prefix from) i number after n level false e t (omega arith)
            ∙ rw (so, b, d);
      }

  passes :
      (i number after level less : ℕ) → character_at draft i ≡ Clean number after → i + length (encoded number) + less ≡ after
      → Even curly number → Goes draft curly i level after level less
  unfolding nested
  passes i number after level less e size p =
      one i number after level level less e size (rw p.no_down) p.no_backslash (rw (p.no_up, p.no_down))

  -- a byte that is a character by itself
  at_byte : (i b : ℕ) → i < length draft → get_or draft i 0 ≡ b → Single b → character_at draft i ≡ Clean b (i + 1)
  at_byte i b h e s =
      plain_at draft i h (omega (arith, s.above)) (omega (arith, s.below)) (λ r. s.no_return (sym e ∙ r))
      ∙ ap (λ b. Clean b (i + 1)) e

  pub alone :
      (i level : ℕ) → i < length draft → Single (get_or draft i 0) → Even curly (get_or draft i 0)
      → Goes draft curly i level (i + 1) level 0
  alone i level h s p =
      let b = get_or draft i 0 in
      passes i b (i + 1) level 0 (at_byte i b h refl s) (omega (arith, ap length (encoded_one b s.below))) p

  pub lowered :
      (i level : ℕ) → i < length draft → get_or draft i 0 ≡ lower curly → (level ≡ 1 → ⊥)
      → Goes draft curly i level (i + 1) (level - 1) 0
  unfolding nested
  lowered i level h e t =
      let s = single_lower curly in
      one i (lower curly) (i + 1) level (level - 1) 0 (at_byte i (lower curly) h e s)
      (omega (arith, ap length (encoded_one (lower curly) s.below)))
      (rw (ne_eqb level 1 t, and-false))
      (ne_eqb (lower curly) 0x5C (λ z. other curly z))
      (rw (not_up curly, goes_down curly))
    where
      other : (curly : Bool) → lower curly ≡ 0x5C → ⊥
      other true z = omega arith
      other false z = omega arith

  pub raised :
      (i level : ℕ) → i < length draft → get_or draft i 0 ≡ upper curly → (get_or draft i 0 ≡ lower curly → ⊥)
      → Goes draft curly i level (i + 1) (level + 1) 0
  unfolding nested
  raised i level h e t =
      let s = single_upper curly in
      let r = rising curly (λ z. t (e ∙ z)) in
      one i (upper curly) (i + 1) level (level + 1) 0 (at_byte i (upper curly) h e s)
      (omega (arith, ap length (encoded_one (upper curly) s.below)))
      (rw r.stays)
      (ne_eqb (upper curly) 0x5C (λ z. other curly z))
      (rw (r.rises, add-one))
    where
      other : (curly : Bool) → upper curly ≡ 0x5C → ⊥
      other true z = omega arith
      other false z = omega arith

  -- CR LF
  pub line :
      (i level : ℕ) → character_at draft i ≡ Clean 0x0A (i + 2) → Goes draft curly i level (i + 2) level 1
  line i level e =
      passes i 0x0A (i + 2) level 1 e (omega (arith, ap length (encoded_one 0x0A (omega arith)))) (line_even curly)

  -- characters above US-ASCII
  pub wides :
      (at i less level : ℕ) → at ≤ length draft → Wides draft at i less → Goes draft curly at level i level less
  wides at i less level h none = nothing at level h
  wides at i less level h (more k bytes gone last before w) =
      joined at level k level gone (k + bytes) level last
      (wides at k gone level h before)
      (passes k w.number (k + bytes) level last w.is (omega (arith, w.size)) (high_even curly w.number w.high))

  -- bytes that string data is mostly made of
  along :
      (k at level : ℕ) → at + k ≤ length draft
      → ((i : ℕ) → at ≤ i → i < at + k → Single (get_or draft i 0) × Even curly (get_or draft i 0))
      → Goes draft curly at level (at + k) level 0
  along zero at level h each = subst (λ j. Goes draft curly at level j level 0) (sym (add-zero at)) (nothing at level (omega arith))
  along (suc k) at level h each =
      let on : at + 1 + k ≡ at + suc k = omega arith in
      let here = each at (omega arith) (omega arith) in
      subst (λ j. Goes draft curly at level j level 0) on
      (joined at level (at + 1) level 0 (at + 1 + k) level 0 (alone at level (omega arith) here.0 here.1)
      (along k (at + 1) level (omega arith) (λ i g l. each i (omega arith) (omega arith))))

  pub stretch : (at r level : ℕ) → Passed (plain curly) draft at r → Goes draft curly at level r level 0
  stretch at r level p =
      let on : at + (r - at) ≡ r = omega (arith, p.on) in
      subst (λ j. Goes draft curly at level j level 0) on
      (along (r - at) at level (omega (arith, p.on, p.there))
      (λ i g l. plain_data curly (get_or draft i 0) (p.each i g (omega arith))))

  -- data of which cleaning takes nothing away, behind other data
  pub behind :
      (at level i deep less j low : ℕ) → Goes draft curly at level i deep less → Goes draft curly i deep j low 0
      → Goes draft curly at level j low less
  behind at level i deep less j low a b =
      subst (λ k. Goes draft curly at level j low k) (add-zero less) (joined at level i deep less j low 0 a b)

  -- a backslash, and what stands behind it
  module _ (i level : ℕ) (h : i < length draft) (e : get_or draft i 0 ≡ 0x5C) (place prefix from n : ℕ) where
    escapes :
        n + 1 ≤ 4096
        → tokens limits (string (opened_as curly place prefix from) n level false) (stream_at draft i)
        ≡ tokens limits (string (opened_as curly place prefix from) (n + 1) level true) (stream_at draft (i + 1))
    unfolding opened_as nested
    escapes l =
        let one : length (encoded 0x5C) ≡ 1 = ap length (encoded_one 0x5C (omega arith)) in
        goes_on limits draft (opened_as curly place prefix from) i 0x5C (i + 1) n level false (at_byte i 0x5C h e single_backslash)
        (rw (backslash_down curly)) (omega arith)
        ∙ rw (one, backslash_up curly, backslash_down curly)

  pub escaped_mark :
      (i level b : ℕ) → i + 1 < length draft → get_or draft i 0 ≡ 0x5C → get_or draft (i + 1) 0 ≡ b → Single b
      → Goes draft curly i level (i + 1 + 1) level 0
  unfolding opened_as
  escaped_mark i level b h e f s =
      record {
        on = omega arith;
        there = omega arith;
        same =
            λ place prefix from n l.
            let one : n + 1 + length (encoded b) ≡ n + (i + 1 + 1 - i - 0) = omega (arith, ap length (encoded_one b s.below)) in
            escapes i level (omega arith) e place prefix from n (omega arith)
            ∙ (goes_on limits draft (opened_as curly place prefix from) (i + 1) b (i + 1 + 1) (n + 1) level true
            (at_byte (i + 1) b h f s) refl (omega arith)
            ∙ rw one);
      }

  -- a backslash makes no difference to the draft's end, or to a character that is no mark
  escaped_none :
      (i level : ℕ) → i < length draft → get_or draft i 0 ≡ 0x5C
      → ((place prefix from n : ℕ)
      → tokens limits (string (opened_as curly place prefix from) n level true) (stream_at draft (i + 1))
      ≡ tokens limits (string (opened_as curly place prefix from) n level false) (stream_at draft (i + 1)))
      → Goes draft curly i level (i + 1) level 0
  escaped_none i level h e alike =
      record {
        on = omega arith;
        there = omega arith;
        same =
            λ place prefix from n l.
            let one : n + 1 ≡ n + (i + 1 - i - 0) = omega arith in
            escapes i level h e place prefix from n (omega arith)
            ∙ (alike place prefix from (n + 1)
            ∙ ap (λ k. tokens limits (string (opened_as curly place prefix from) k level false) (stream_at draft (i + 1))) one);
      }

  pub escaped_end :
      (i level : ℕ) → i < length draft → get_or draft i 0 ≡ 0x5C → length draft ≤ i + 1 → Goes draft curly i level (i + 1) level 0
  unfolding tokens
  escaped_end i level h e l =
      escaped_none i level h e (λ place prefix from n. rw (at_end draft (i + 1) l))

  pub escaped_other :
      (i level : ℕ) → i < length draft → get_or draft i 0 ≡ 0x5C → (get_or draft (i + 1) 0 ≡ upper curly → ⊥)
      → (get_or draft (i + 1) 0 ≡ lower curly → ⊥) → (get_or draft (i + 1) 0 ≡ 0x5C → ⊥) → Goes draft curly i level (i + 1) level 0
  unfolding tokens step inside follows nested opened_as
  escaped_other i level h e u d s =
      escaped_none i level h e
      (λ place prefix from n.
      by_character draft (i + 1)
      (λ number after is here.
      let p = even_at draft curly (i + 1) number after is u d s in
      rw (here, p.no_up, p.no_down, p.no_backslash))
      (λ refusal place here. rw here))

  -- the byte that closes the string
  pub closes :
      (from i less : ℕ) → Goes draft curly from 1 i 1 less → i < length draft → get_or draft i 0 ≡ lower curly
      → i - from - less ≤ 4096 → Closed draft curly from (i + 1) (i - from - less)
  unfolding opened_as
  closes from i less g h e l =
      let s = single_lower curly in
      record {
        on = omega (arith, g.on);
        there = omega arith;
        closes =
            λ place prefix.
            let none : 0 + (i - from - less) ≡ i - from - less = omega arith in
            ap first (g.same place prefix from 0 (omega arith))
            ∙ (closes_here limits draft (opened_as curly place prefix from) i (lower curly) (i + 1) (0 + (i - from - less)) 1 false
            (at_byte i (lower curly) h e s) (rw (goes_down curly))
            ∙ rw none);
      }
