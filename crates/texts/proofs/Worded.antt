-- A token with text, by its sort, its first byte and the mode, against Making: one entity of its kind, whatever is open. A word's first
-- byte is none of those that the mode tells apart. Right behind `[` it is judged with the begin group that it brings open; where there is
-- no room for that group there is none for the two, and both are 18.
use mathlib.Core.Path.{◌≡◌, refl, sym, ◌∙◌, ap}
use mathlib.Core.Bool.{Bool, true, false, not, ◌&&◌, ◌||◌, true≢false}
use mathlib.Core.List.{List, [], ◌∷◌}
use Prim.Native.Nat.{ℕ, ◌-◌, ◌<◌, ◌≤◌, ◌/◌}
use native.Mathlib.Omega.{arith}
use lib.Dec.{eqb, leb}
use lib.ListN.{length, get_or}
use borrow.Author.Tests.{eqb-true, eqb-false, lt-ltb, not-true}
use Rattle.std.specs.Prelude.{if◌then◌else◌}
use Rattle.chars.specs.Choice.{within, among, ascii}
use Rattle.chars.specs.Limits.{limits}
use Rattle.chars.proofs.Cases.{either}
use Rattle.chars.specs.Stream.{stream_at, clean}
use Rattle.tokens.proofs.Clean.{clean_zero}
use Rattle.tokens.specs.Sorts.{visible, white, atomic, inclusive}
use Rattle.tokens.specs.Tokens.{quoted, curly}
use Rattle.tokens.specs.declared.Sort.{Sort}
use Rattle.tokens.specs.declared.Sort.TheVariants.{Simple, Quoted, Curly}
use Rattle.scan.specs.Told.{sort_code}
use Rattle.runs.specs.Bytes.{begins_of}
use Rattle.entities.specs.Entity.{Entity}
use Rattle.entities.specs.Making.{Reader, Handled, makes, fitted, handled, within_groups, shortage}
use Rattle.entities.specs.Making.{adds, named, word, regular, command, string_kind, literal, closing, judged}
use Rattle.entities.specs.Judging.{bares, cut, cut_of, kind_of, word_kind, text_kind}
use Rattle.entities.specs.Stepping.{Contents, open_groups, room_left, reader_of, agrees, Took}
use Rattle.entities.specs.Stepping.{Stops, judged_as, closing_as, structural, worded}
use Rattle.entities.specs.Stepping.{entered_by, entered_groups, lead_of, bracketed, commanded}
use Rattle.entities.specs.declared.state.State.{State}
use Rattle.entities.specs.declared.state.Mode.{Mode}
use Rattle.entities.specs.declared.state.Mode.TheVariants.{Regular, Bracket, Metacommand}
use Rattle.entities.proofs.OpenGroups.{so_many}
use Rattle.entities.proofs.Cutting.{first_byte}
use Rattle.entities.proofs.Entering.{same_held, too_many, entities_entered, text_entered}

-- a byte that is none of the seven
other : (c k : ℕ) → worded false c ≡ true → structural k ≡ true → eqb c k ≡ false
unfolding worded
other c k w a =
    either (eqb c k)
    (λ t. absurd (true≢false (sym a ∙ (ap structural (sym (eqb-true c k t)) ∙ not-true (structural c) w))))
    (λ t. t)

abbrev pub entity : (sort c : ℕ) → (metacommand : Bool) → (place : ℕ) → (T S : List ℕ) → Entity
entity sort c metacommand place T S =
    record {
      kind = kind_of (text_kind sort c metacommand);
      place = place;
      text = cut (cut_of (text_kind sort c metacommand)) T;
      string = S;
      count = 0;
    }

word_is : (c place : ℕ) (T : List ℕ) → get_or T 0 0 ≡ c → word place T ≡ entity 0 c false place T []
unfolding word named text_kind word_kind cut_of cut kind_of
word_is c place T e =
    rw e
    (either (among c (ascii "+-") || within 0x30 0x39 c)
    (λ t. rw t)
    (λ t. rw t
    (either (eqb c 0x3F)
    (λ u. rw u)
    (λ u. rw u
    (either (eqb c 0x40)
    (λ v. rw v)
    (λ v. rw v
    (either (eqb c 0x3D)
    (λ w. rw w)
    (λ w. rw w
    (either (eqb c 0x3A) (λ x. rw x) (λ x. rw x))))))))))

regular_is :
    (c : ℕ) (q : Reader) (place : ℕ) (T : List ℕ) → get_or T 0 0 ≡ c → worded false c ≡ true
    → regular limits q place T ≡ makes (entity 0 c false place T [] ∷ []) q
unfolding regular adds structural begins_of visible white atomic inclusive
regular_is c q place T e w =
    rw (
      e,
      other c 0x25 w refl,
      other c 0x3B w refl,
      other c 0x28 w refl,
      other c 0x29 w refl,
      other c 0x5B w refl,
      other c 0x2C w refl,
      other c 0x5D w refl,
    ) (ap (λ x. makes (x ∷ []) q) (word_is c place T e))

command_is :
    (c : ℕ) (q : Reader) (place : ℕ) (T : List ℕ) → get_or T 0 0 ≡ c → worded true c ≡ true
    → command q place T ≡ makes (entity 0 c true place T [] ∷ []) q
unfolding command adds named worded text_kind cut_of cut kind_of
command_is c q place T e w =
    either (eqb c 0x25)
    (λ t. absurd (true≢false (sym w ∙ rw t)))
    (λ t. either (eqb c 0x3B)
    (λ u. absurd (true≢false (sym w ∙ rw (t, u))))
    (λ u. rw (e, t, u)))

-- no group brought
reader_same :
    (b : Bool) (s : State) (pushed gs : List ℕ) → b ≡ false → open_groups pushed (entered_by b s).depth ≡ entered_groups b gs
    → reader_of (entered_by b s) pushed ≡ record { metacommand = commanded s.mode; opened = bracketed s.mode; groups = gs }
unfolding reader_of entered_by entered_groups
reader_same true s pushed gs e so = absurd (true≢false e)
reader_same false s pushed gs e so = rw so

-- a mode is one of both at most
bracketed_only : (m : Mode) → bracketed m ≡ true → commanded m ≡ false
bracketed_only Regular t = refl
bracketed_only Bracket t = refl
bracketed_only Metacommand t = absurd (true≢false (sym t))

module _ (sort c : ℕ) (fine : sort ≤ 2) (place : ℕ) (T S : List ℕ) (first : sort ≡ 0 → get_or T 0 0 ≡ c) (none : sort ≡ 0 → S ≡ []) where
  simple_is :
      (q : Reader) (m : Bool) → get_or T 0 0 ≡ c → worded m c ≡ true
      → (if m then command q place T else regular limits q place T) ≡ makes (entity 0 c m place T [] ∷ []) q
  simple_is q true e w = command_is c q place T e w
  simple_is q false e w = regular_is c q place T e w

  quoted_is :
      (m : Bool)
      → record { kind = string_kind m quoted; place = place; text = T; string = S; count = 0 } ≡ entity 1 c m place T S
  unfolding string_kind text_kind cut_of cut kind_of
  quoted_is true = refl
  quoted_is false = refl

  curly_is :
      (m : Bool)
      → record { kind = string_kind m curly; place = place; text = T; string = S; count = 0 } ≡ entity 2 c m place T S
  unfolding string_kind text_kind cut_of cut kind_of
  curly_is true = refl
  curly_is false = refl

  pub judged_is :
      (q : Reader) → (sort ≡ 0 → worded q.metacommand c ≡ true)
      → judged_as sort q place T S ≡ makes (entity sort c q.metacommand place T S ∷ []) q
  unfolding judged_as judged literal adds
  judged_is q w =
      either (eqb sort 0)
      (λ t.
      let zero-sort = eqb-true sort 0 t in
      rw (zero-sort, none zero-sort) (simple_is q q.metacommand (first zero-sort) (w zero-sort)))
      (λ t.
      either (eqb sort 1)
      (λ u. rw (eqb-true sort 1 u) (ap (λ x. makes (x ∷ []) q) (quoted_is q.metacommand)))
      (λ u.
      let two : sort ≡ 2 = omega (arith, eqb-false sort 0 t, eqb-false sort 1 u) in
      rw two (ap (λ x. makes (x ∷ []) q) (curly_is q.metacommand))))

  -- it is no `]` where it may bring a group
  not_closing : (sort ≡ 0 → worded false c ≡ true) → closing_as sort T ≡ false
  unfolding closing_as closing structural begins_of visible white atomic inclusive
  not_closing w =
      either (eqb sort 0) (λ t. rw (t, first (eqb-true sort 0 t)) (other c 0x5D (w (eqb-true sort 0 t)) refl)) (λ t. rw t)

  module _ (s : State) (list text groups : List ℕ) (own : sort ≡ 0 → worded (commanded s.mode) c ≡ true) where
    abbrev gs : List ℕ
    gs = open_groups groups s.depth

    abbrev brings : Bool
    brings = bracketed s.mode

    abbrev comes : Handled
    comes = handled limits (room_left s list text) (reader_of s groups) (closing_as sort T) place (λ q. judged_as sort q place T S)

    regularly : brings ≡ true → commanded s.mode ≡ false
    regularly t = bracketed_only s.mode t

    still_own : brings ≡ true → sort ≡ 0 → worded false c ≡ true
    still_own t z = rw (regularly t) at (own z)

    brings_is : (brings && not (closing_as sort T)) ≡ brings
    brings_is = either brings (λ t. rw (t, not_closing (still_own t))) (λ t. rw t)

    pub one_too_many :
        (brings && leb 64 s.depth) ≡ true → (groups' : List ℕ) → agrees comes (Stops 17 s) s list text list text groups' place
    one_too_many t =
        too_many s list text groups place (closing_as sort T) (λ q. judged_as sort q place T S)
        (ap (λ b. b && leb 64 s.depth) brings_is ∙ t)

    module _ (shallow : brings ≡ true → s.depth < 64) (pushed : List ℕ)
        (so : open_groups pushed (entered_by brings s).depth ≡ entered_groups brings gs) where
      reader-in : brings ≡ true → reader_of (entered_by brings s) pushed ≡ within_groups (1 ∷ gs)
      unfolding reader_of entered_by entered_groups within_groups
      reader-in t = rw t (rw (rw t at so))

      reader-out : brings ≡ false → reader_of (entered_by brings s) pushed ≡ reader_of s groups
      unfolding reader_of entered_by entered_groups
      reader-out t = reader_same brings s pushed gs t so

      judged-in :
          brings ≡ true
          → judged_as sort (within_groups (1 ∷ gs)) place T S
          ≡ makes (entity sort c (commanded s.mode) place T S ∷ []) (within_groups (1 ∷ gs))
      unfolding within_groups
      judged-in t = judged_is (within_groups (1 ∷ gs)) (still_own t) ∙ rw (regularly t)

      judged-out :
          judged_as sort (reader_of s groups) place T S ≡ makes (entity sort c (commanded s.mode) place T S ∷ []) (reader_of s groups)
      unfolding reader_of
      judged-out = judged_is (reader_of s groups) own

      comes_is :
          comes
          ≡ fitted (room_left s list text) (bares (lead_of brings) place)
          (makes (entity sort c (commanded s.mode) place T S ∷ []) (reader_of (entered_by brings s) pushed))
      unfolding handled reader_of bares kind_of room_left fitted shortage lead_of
      comes_is =
          either brings
          (λ t.
          let few = shallow t in
          rw (
            reader-in t,
            judged-in t,
            t,
            not_closing (still_own t),
            lt-ltb (length gs) 64 (omega (arith, so_many groups s.depth)),
          )
          (either (eqb (length list / 6 - s.entities) 0) (λ u. rw u) (λ u. rw u)))
          (λ t. rw (reader-out t, judged-out, t))

      same-room : room_left (entered_by brings s) list text ≡ room_left s list text
      unfolding room_left
      same-room = rw (entities_entered brings s list text groups place, text_entered brings s list text groups place)

      -- with the group open, or with none
      pub entered-one :
          (r : Took) (list' text' groups' : List ℕ)
          → agrees
          (fitted (room_left (entered_by brings s) list text) (bares (lead_of brings) place)
          (makes (entity sort c (commanded s.mode) place T S ∷ []) (reader_of (entered_by brings s) pushed))) r
          (entered_by brings s) list text
          list' text' groups' place
          → agrees comes r s list text list' text' groups' place
      entered-one r list' text' groups' a =
          rw comes_is
          (same_held s (entered_by brings s) (entities_entered brings s list text groups place)
          (text_entered brings s list text groups place) _ list text place r list' text' groups' (rw same-room at a))

-- there are three sorts
pub few : (sort : Sort) → sort_code sort ≤ 2
few Simple = omega arith
few Quoted = omega arith
few Curly = omega arith

-- a kind whose text loses a byte is a word's, which has one
pub cut_some :
    (sort c : ℕ) (m : Bool) (prefix : ℕ) → sort ≤ 2 → (sort ≡ 0 → 1 ≤ prefix) → cut_of (text_kind sort c m) ≡ 2 → 1 ≤ prefix
unfolding cut_of text_kind
cut_some sort c m prefix fine some e =
    either (eqb sort 0)
    (λ t. some (eqb-true sort 0 t))
    (λ t.
    let no : 1 ≡ 2 =
    either (eqb sort 1)
    (λ u. either m (λ v. rw (eqb-true sort 1 u, v) at e) (λ v. rw (eqb-true sort 1 u, v) at e))
    (λ u.
    let two : sort ≡ 2 = omega (arith, eqb-false sort 0 t, eqb-false sort 1 u) in
    either m (λ v. rw (two, v) at e) (λ v. rw (two, v) at e)) in
    absurd (omega arith))

-- a simple token's first byte is the draft's, and it has no data
module _ (draft : List ℕ) (place prefix from n : ℕ) (c : Contents draft place prefix from n) (sort : ℕ)
    (plain : sort ≡ 0 → (1 ≤ prefix) × (n ≡ 0)) where
  pub first_of : sort ≡ 0 → get_or (clean prefix (stream_at draft place)) 0 0 ≡ get_or draft place 0
  first_of e = ap (λ l. get_or l 0 0) (first_byte draft place prefix from n c (plain e).0)

  pub none_of : sort ≡ 0 → clean n (stream_at draft from) ≡ []
  none_of e = rw (plain e).1 (clean_zero (stream_at draft from))
