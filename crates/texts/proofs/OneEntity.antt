-- A token of one entity, whose text stands in the draft as it is and whose data is copied clean behind it, after an inserted begin group or
-- none, against Making: counting finds what does not fit, and what fits is its six numbers and its bytes.
use mathlib.Core.Path.{◌≡◌, refl, sym, ◌∙◌, ap}
use mathlib.Core.Bool.{false}
use mathlib.Core.List.{List, [], ◌∷◌, ◌++◌}
use Prim.Native.Nat.{ℕ, ◌+◌, ◌-◌, ◌*◌, ◌<◌, ◌≤◌, ◌/◌}
use native.Mathlib.Omega.{arith}
use lib.Dec.{ltb}
use lib.ListN.{length, take, drop, length-append, length-take, take-append-drop}
use borrow.Author.Tests.{lt-ltb, le-ltb}
use Rattle.chars.specs.Stream.{stream_at, clean}
use Rattle.std.specs.Prelude.{if◌then◌else◌}
use Rattle.chars.specs.Choice.{within}
use Rattle.chars.proofs.Cases.{either}
use Rattle.tokens.proofs.Clean.{clean_zero}
use Rattle.entities.specs.Entity.{Entity, kind_number, size, sizes}
use Rattle.entities.specs.Making.{Handled, fitted, makes, shortage}
use Rattle.entities.specs.Judging.{one, bares, cut, cut_of, cut_length, cut_from, kind_of, short_of, filled, written, text_written}
use Rattle.entities.specs.Stepping.{Contents, Ready, open_groups, room_left, reader_of, agrees, Goes, Stops}
use Rattle.entities.specs.declared.state.State.{State}
use Rattle.entities.proofs.Listing.{written_one, sizes_append}
use Rattle.entities.proofs.OpenGroups.{higher}
use Rattle.entities.proofs.Cutting.{cut_clean, cut_long, cut_raw, bare_first, bare_text, bare_sizes}
use Rattle.entities.proofs.Shortages.{one_counts, bare_counts, bare_one}
use Rattle.entities.proofs.Fitting.{stopped, went}
use Rattle.texts.proofs.Filling.{both_filled}

-- so many bytes of its text an entity of a kind leaves out
abbrev pub Cuts : (kind r : ℕ) → Type 0
Cuts kind r = (place prefix : ℕ) → (cut_from (cut_of kind) place ≡ place + r) × (cut_length (cut_of kind) prefix ≡ prefix - r)

-- no more than it has
pub cut_within : (kind r prefix : ℕ) → Cuts kind r → r ≤ 1 → (cut_of kind ≡ 2 → 1 ≤ prefix) → r ≤ prefix
unfolding cut_of cut_from
cut_within kind r prefix cuts few some =
    either (within 12 15 kind)
    (λ t. omega (arith, some (rw t)))
    (λ t. let none : 0 ≡ 0 + r = rw t at (cuts 0 0).0 in omega arith)

module _ (draft list text groups : List ℕ) (s : State) (lead kind place prefix from bytes r : ℕ)
    (c : Contents draft place prefix from bytes) (cuts : Cuts kind r) where
  abbrev own : Entity
  own =
      record {
        kind = kind_of kind;
        place = place;
        text = cut (cut_of kind) (clean prefix (stream_at draft place));
        string = clean bytes (stream_at draft from);
        count = 0;
      }

  abbrev cutout : Entity
  cutout = filled draft kind place (place + r) (prefix - r) from bytes 0

  own_is : own ≡ cutout
  unfolding filled
  own_is =
      let text_is : cut (cut_of kind) (clean prefix (stream_at draft place)) ≡ clean (prefix - r) (stream_at draft (place + r)) =
      cut_clean draft place prefix from bytes c (cut_of kind) ∙ rw ((cuts place prefix).0, (cuts place prefix).1) in
      rw text_is

  text_long : length (clean (prefix - r) (stream_at draft (place + r))) ≡ prefix - r
  text_long = rw ((cuts place prefix).0, (cuts place prefix).1) at (cut_long draft place prefix from bytes c (cut_of kind))

  text_raw : clean (prefix - r) (stream_at draft (place + r)) ≡ take (prefix - r) (drop (place + r) draft)
  text_raw = rw ((cuts place prefix).0, (cuts place prefix).1) at (cut_raw draft place prefix from bytes c (cut_of kind))

  -- the draft has as many bytes
  pub text_there : prefix - r ≤ length (drop (place + r) draft)
  text_there = omega (arith, text_long, ap length text_raw, length-take (prefix - r) (drop (place + r) draft))

  abbrev all : List Entity
  all = bares lead place ++ (cutout ∷ [])

  many : length all ≡ one lead + 1
  many = omega (arith, length-append (bares lead place) (cutout ∷ []), bare_one lead place)

  much : sizes all ≡ prefix - r + bytes
  unfolding filled sizes size
  much = omega (arith, sizes_append (bares lead place) (cutout ∷ []), bare_sizes lead place, text_long, c.string_long)

  abbrev comes : Handled
  comes = fitted (room_left s list text) (bares lead place) (makes (own ∷ []) (reader_of s groups))

  short_is :
      shortage (length list / 6 - s.entities) (length text - s.text) all
      ≡ (if ltb (length list / 6 - s.entities) (one lead + 1) then 18
      else if ltb (length text - s.text) (prefix - r + bytes) then 19 else 0)
  unfolding short_of
  short_is =
      bare_counts (length text - s.text) lead place (cutout ∷ []) (one_counts (length text - s.text) cutout)
      (length list / 6 - s.entities)
      ∙ rw (many, much)

  module _ (ready : Ready s list text groups place) where
    pub no_room : length list - 6 * s.entities < 6 * (one lead + 1) → agrees comes (Stops 18 s) s list text list text groups place
    no_room h =
        let few = lt-ltb (length list / 6 - s.entities) (one lead + 1) (omega (arith, ready.held)) in
        rw own_is
        (stopped s list text groups groups place lead (cutout ∷ []) (reader_of s groups) 18 (short_is ∙ rw few) (λ e. omega arith) s
        refl refl)

    module _ (room : 6 * (one lead + 1) ≤ length list - 6 * s.entities) where
      enough-list : ltb (length list / 6 - s.entities) (one lead + 1) ≡ false
      enough-list = le-ltb (length list / 6 - s.entities) (one lead + 1) (omega (arith, ready.held))

      pub no_bytes : length text - s.text < prefix - r + bytes → agrees comes (Stops 19 s) s list text list text groups place
      no_bytes h =
          rw own_is
          (stopped s list text groups groups place lead (cutout ∷ []) (reader_of s groups) 19
          (short_is ∙ rw (enough-list, lt-ltb (length text - s.text) (prefix - r + bytes) h)) (λ e. omega arith) s refl refl)

      module _ (free : prefix - r + bytes ≤ length text - s.text) where
        pub held_one :
            prefix ≤ 4096 → bytes ≤ 4096 → kind_number (kind_of kind) ≡ kind → (list₁ list' text₁ text' : List ℕ) (held : ℕ)
            → held ≡ s.entities + length (bares lead place) → list₁ ≡ written list s.entities s.text (bares lead place)
            → list' ≡ take (held * 6) list₁ ++ ((kind ∷ place ∷ s.text ∷ (prefix - r) ∷ bytes ∷ 0 ∷ []) ++ drop (held * 6 + 6) list₁)
            → text₁ ≡ take s.text text ++ (take (prefix - r) (drop (place + r) draft) ++ drop (s.text + (prefix - r)) text)
            → text'
            ≡ take (s.text + (prefix - r)) text₁
            ++ (clean bytes (stream_at draft from) ++ drop (s.text + (prefix - r) + bytes) text₁)
            → agrees comes
            (Goes (record { mode = s.mode; depth = s.depth; entities = held + 1; text = s.text + (prefix - r) + bytes })) s
            list text list' text' groups place
        unfolding filled reader_of
        held_one short_text short-data number list₁ list' text₁ text' held h l₁ l t₁ t =
            let numbers :
            (kind ∷ place ∷ s.text ∷ (prefix - r) ∷ bytes ∷ 0 ∷ [])
            ≡ (kind ∷ place ∷ s.text ∷ length (clean (prefix - r) (stream_at draft (place + r)))
            ∷ length (clean bytes (stream_at draft from)) ∷ 0 ∷ [])
            =
            rw (text_long, c.string_long) in
            let listed : list' ≡ written list s.entities s.text all =
            l
            ∙ (ap (λ x. take (held * 6) list₁ ++ (x ++ drop (held * 6 + 6) list₁)) numbers
            ∙ (written_one list₁ held s.text cutout kind number
            ∙ rw (l₁, h) (bare_first list s.entities s.text lead place (cutout ∷ [])
            (omega (arith, bare_one lead place, ready.held))))) in
            let middle :
            text₁ ≡ take s.text text ++ (clean (prefix - r) (stream_at draft (place + r)) ++ drop (s.text + (prefix - r)) text) =
            rw text_raw t₁ in
            let texted : text' ≡ text_written text s.text all =
            both_filled draft kind place (place + r) (prefix - r) from bytes 0 text s.text text₁ text' (omega (arith, ready.used))
            text_long c.string_long middle t
            ∙ sym (bare_text text s.text lead place (cutout ∷ [])) in
            let enough : shortage (length list / 6 - s.entities) (length text - s.text) all ≡ 0 =
            short_is ∙ rw (enough-list, le-ltb (length text - s.text) (prefix - r + bytes) free) in
            rw own_is
            (went s list text groups groups place lead (cutout ∷ []) (reader_of s groups) enough ready
            (record { mode = s.mode; depth = s.depth; entities = held + 1; text = s.text + (prefix - r) + bytes }) list' text' listed
            texted (omega (arith, h, many, bare_one lead place)) (omega (arith, much)) (omega (arith, much)) refl ready.deep
            ready.array (higher (open_groups groups s.depth) (place + 1) (place + 2) (omega arith) ready.numbers))

-- where there is no data the text alone is there
pub undone :
    (draft text₁ : List ℕ) (used from bytes : ℕ) → bytes ≡ 0
    → text₁ ≡ take used text₁ ++ (clean bytes (stream_at draft from) ++ drop (used + bytes) text₁)
undone draft text₁ used from bytes e =
    let same : used + 0 ≡ used = omega arith in
    rw (e, clean_zero (stream_at draft from), same) (sym (take-append-drop used text₁))
