-- A token with text, from the room for it to its entity: what refuses it before anything is written is what counting finds short, and
-- behind the
-- begin group that it brings, or none, its six numbers and its bytes are its entity.
use mathlib.Core.Path.{◌≡◌, refl, sym, ◌∙◌, ap}
use mathlib.Core.Bool.{Bool, true, false, true≢false}
use mathlib.Core.List.{List, [], ◌∷◌, ◌++◌}
use Prim.Native.Nat.{ℕ, ◌+◌, ◌-◌, ◌*◌, ◌<◌, ◌≤◌}
use native.Mathlib.Omega.{arith}
use lib.Seq.{length-take-le}
use lib.ListN.{length, get_or, take, drop, set, length-set}
use borrow.Author.Tests.{le-leb}
use Rattle.std.specs.Prelude.{Result, Ok, Err}
use Rattle.chars.specs.declared.refusal.Refusal.{Refusal}
use Rattle.chars.specs.declared.refusal.Refusal.TheVariants.{TooManyGroups, ListFull, TextFull}
use Rattle.chars.specs.Limits.{limits}
use Rattle.chars.specs.Stream.{stream_at, clean}
use Rattle.holding.specs.declared.rows.Row.{Row}
use Rattle.entities.specs.Entity.{kind_number}
use Rattle.entities.specs.Making.{Handled, stops, holds, handled}
use Rattle.entities.specs.Judging.{kind_of, bares, one, text_kind, written}
use Rattle.entities.specs.Stepping.{Contents, Ready, open_groups, room_left, reader_of, agrees, Goes, Stops, took, judged_as, closing_as}
use Rattle.entities.specs.Stepping.{bracketed, commanded, worded, entered_by, entered_groups, lead_of, led_by, Leads, Roomed, crowded, full, long, roomy}
use Rattle.entities.specs.declared.state.State.{State}
use Rattle.entities.specs.declared.state.Mode.TheVariants.{Regular}
use Rattle.entities.proofs.OpenGroups.{pushed}
use Rattle.entities.proofs.Listing.{written_none}
use Rattle.entities.proofs.Shortages.{bare_one}
use Rattle.entities.proofs.Entering.{ready_entered, entities_entered, text_entered}
use Rattle.texts.specs.Held.{Held, none, some}
use Rattle.texts.proofs.OneEntity.{Cuts, text_there, no_room, no_bytes, held_one}
use Rattle.texts.proofs.Worded.{first_of, none_of, one_too_many, entered-one}

-- a refusal tells a state by what it holds alone
restated :
    (h : Handled) (n : ℕ) (s t u : State) (list text groups' groups'' : List ℕ) (place : ℕ) → u.entities ≡ t.entities → u.text ≡ t.text
    → agrees h (Stops n t) s list text list text groups' place → agrees h (Stops n u) s list text list text groups'' place
unfolding agrees
restated (stops m) n s t u list text groups' groups'' place e f a = (a.0, a.1, a.2, e ∙ a.3, f ∙ a.4)
restated (holds es room q) n s t u list text groups' groups'' place e f a = a

-- the array with the group that a token brings, or as it was
opened : (b : Bool) → State → List ℕ → List ℕ
opened true s groups = set groups s.depth 1
opened false s groups = groups

opened_long : (b : Bool) (s : State) (groups : List ℕ) → length groups ≡ 64 → length (opened b s groups) ≡ 64
unfolding opened
opened_long true s groups h = length-set groups s.depth 1 ∙ h
opened_long false s groups h = h

opened_so :
    (b : Bool) (s : State) (groups : List ℕ) → length groups ≡ 64 → (b ≡ true → s.depth < 64)
    → open_groups (opened b s groups) (entered_by b s).depth ≡ entered_groups b (open_groups groups s.depth)
unfolding opened entered_by entered_groups
opened_so true s groups h shallow = let few = shallow refl in pushed groups s.depth 1 (omega arith)
opened_so false s groups h shallow = refl

-- the state in which it is written, beside the one in which it is judged
led_mode : (b : Bool) (s : State) → (led_by b s).mode ≡ (entered_by b s).mode
unfolding led_by entered_by
led_mode true s = refl
led_mode false s = refl

led_depth : (b : Bool) (s : State) → (led_by b s).depth ≡ (entered_by b s).depth
unfolding led_by entered_by
led_depth true s = refl
led_depth false s = refl

led_entities : (b : Bool) (s : State) → (led_by b s).entities ≡ s.entities + one (lead_of b)
unfolding led_by lead_of one
led_entities true s = refl
led_entities false s = omega arith

-- there is room for it, behind the group or without one
pub record Room-found (s : State) (list text groups : List ℕ) (place size : ℕ) (t : State) (list₁ pushed : List ℕ) : Type 0 where
  pub leads : Leads (bracketed s.mode) s list groups place (Ok t) list₁ pushed
  pub room : 6 * (one (lead_of (bracketed s.mode)) + 1) ≤ length list - 6 * s.entities
  pub free : size ≤ length text - s.text
  pub held : t.entities ≡ s.entities + one (lead_of (bracketed s.mode))

pub room_found :
    (s : State) (list text groups : List ℕ) (place size : ℕ) (t : State) (list₁ pushed : List ℕ)
    → Roomed s list text groups place size (Ok t) list₁ pushed → Room-found s list text groups place size t list₁ pushed
room_found s list text groups place size t list₁ pushed (crowded b is same) = absurd (cc is)
room_found s list text groups place size t list₁ pushed (full shallow few is same) = absurd (cc is)
room_found s list text groups place size t list₁ pushed (long shallow room few is same) = absurd (cc is)
room_found s list text groups place size t list₁ pushed (roomy l room free) =
    record {
      leads = l;
      room = room;
      free = free;
      held = let is : t ≡ led_by (bracketed s.mode) s = cc l.is in ap (λ z. z.entities) is ∙ led_entities (bracketed s.mode) s;
    }

module _ (draft : List ℕ) (s : State) (list text groups : List ℕ) (sort place prefix from bytes cut kind : ℕ) (fine : sort ≤ 2)
    (contents : Contents draft place prefix from bytes) (plain : sort ≡ 0 → (1 ≤ prefix) × (bytes ≡ 0))
    (own : sort ≡ 0 → worded (commanded s.mode) (get_or draft place 0) ≡ true)
    (of-kind : kind ≡ text_kind sort (get_or draft place 0) (commanded s.mode)) (cuts : Cuts kind cut)
    (ready : Ready s list text groups place) where
  abbrev b : Bool
  b = bracketed s.mode

  abbrev T : List ℕ
  T = clean prefix (stream_at draft place)

  abbrev S : List ℕ
  S = clean bytes (stream_at draft from)

  abbrev comes : Handled
  comes = handled limits (room_left s list text) (reader_of s groups) (closing_as sort T) place (λ q. judged_as sort q place T S)

  same_entities : (entered_by b s).entities ≡ s.entities
  same_entities = entities_entered b s list text groups place

  same_text : (entered_by b s).text ≡ s.text
  same_text = text_entered b s list text groups place

  module _ (shallow : b ≡ true → s.depth < 64) where
    ready_in : Ready (entered_by b s) list text (opened b s groups) place
    ready_in =
        ready_entered b s list text groups place shallow (opened b s groups) (opened_long b s groups ready.array)
        (opened_so b s groups ready.array shallow) ready

    -- nothing is written
    short :
        (n : ℕ) (groups' : List ℕ) → length list - 6 * s.entities < 6 * (one (lead_of b) + 1) → n ≡ 18
        → agrees comes (Stops n s) s list text list text groups' place
    short n groups' few is =
        rw is
        (restated comes 18 s (entered_by b s) s list text (opened b s groups) groups' place (sym same_entities) (sym same_text)
        (entered-one sort (get_or draft place 0) fine place T S (first_of draft place prefix from bytes contents sort plain)
        (none_of draft place prefix from bytes contents sort plain) s list text groups own shallow (opened b s groups)
        (opened_so b s groups ready.array shallow) (Stops 18 (entered_by b s)) list text (opened b s groups)
        (rw of-kind at
        (no_room draft list text (opened b s groups) (entered_by b s) (lead_of b) kind place prefix from bytes cut contents cuts ready_in
        (rw same_entities few)))))

    short_text :
        (n : ℕ) (groups' : List ℕ) → 6 * (one (lead_of b) + 1) ≤ length list - 6 * s.entities
        → length text - s.text < prefix - cut + bytes → n ≡ 19 → agrees comes (Stops n s) s list text list text groups' place
    short_text n groups' room few is =
        rw is
        (restated comes 19 s (entered_by b s) s list text (opened b s groups) groups' place (sym same_entities) (sym same_text)
        (entered-one sort (get_or draft place 0) fine place T S (first_of draft place prefix from bytes contents sort plain)
        (none_of draft place prefix from bytes contents sort plain) s list text groups own shallow (opened b s groups)
        (opened_so b s groups ready.array shallow) (Stops 19 (entered_by b s)) list text (opened b s groups)
        (rw of-kind at
        (no_bytes draft list text (opened b s groups) (entered_by b s) (lead_of b) kind place prefix from bytes cut contents cuts ready_in
        (rw same_entities room) (rw same_text few)))))

  pub stopped_room :
      (e : Refusal) (list₁ pushed : List ℕ) → Roomed s list text groups place (prefix - cut + bytes) (Err e) list₁ pushed
      → agrees comes (took s (Err e)) s list text list₁ text pushed place
  unfolding took
  stopped_room e list₁ pushed (crowded t is same) =
      let n : e ≡ TooManyGroups = cc is in
      rw (n, same)
      (one_too_many sort (get_or draft place 0) fine place T S (first_of draft place prefix from bytes contents sort plain)
      (none_of draft place prefix from bytes contents sort plain) s list text groups own t pushed)
  stopped_room e list₁ pushed (full shallow few is same) =
      let n : e ≡ ListFull = cc is in rw (n, same) (short shallow 18 pushed few refl)
  stopped_room e list₁ pushed (long shallow room few is same) =
      let n : e ≡ TextFull = cc is in rw (n, same) (short_text shallow 19 pushed room few refl)
  stopped_room e list₁ pushed (roomy l room free) = absurd (cc l.is)

  goes_is :
      (t : State) → t ≡ led_by b s
      → took s (Ok (record { mode = t.mode; depth = t.depth; entities = t.entities + 1; text = s.text + (prefix - cut) + bytes }))
      ≡ Goes
      (record {
        mode = (entered_by b s).mode;
        depth = (entered_by b s).depth;
        entities = t.entities + 1;
        text = (entered_by b s).text + (prefix - cut) + bytes;
      })
  unfolding took
  goes_is t is =
      let mode-is : t.mode ≡ (entered_by b s).mode = ap (λ z. z.mode) is ∙ led_mode b s in
      let depth_is : t.depth ≡ (entered_by b s).depth = ap (λ z. z.depth) is ∙ led_depth b s in
      rw (mode-is, depth_is, same_text)

  pub held_room :
      (t : State) (list₁ pushed list' text₁ text' : List ℕ)
      → Room-found s list text groups place (prefix - cut + bytes) t list₁ pushed
      → prefix ≤ 4096 → bytes ≤ 4096 → kind_number (kind_of kind) ≡ kind
      → list'
      ≡ take (t.entities * 6) list₁
      ++ ((kind ∷ place ∷ s.text ∷ (prefix - cut) ∷ bytes ∷ 0 ∷ []) ++ drop (t.entities * 6 + 6) list₁)
      → text₁ ≡ take s.text text ++ (take (prefix - cut) (drop (place + cut) draft) ++ drop (s.text + (prefix - cut)) text)
      → text'
      ≡ take (s.text + (prefix - cut)) text₁
      ++ (clean bytes (stream_at draft from) ++ drop (s.text + (prefix - cut) + bytes) text₁)
      → agrees comes
      (took s (Ok (record { mode = t.mode; depth = t.depth; entities = t.entities + 1; text = s.text + (prefix - cut) + bytes })))
      s list text list' text' pushed place
  held_room t list₁ pushed list' text₁ text' f short-prefix short-data number wrote t₁ t₂ =
      let l = f.leads in
      let is : t ≡ led_by b s = cc l.is in
      let held : t.entities ≡ (entered_by b s).entities + length (bares (lead_of b) place) =
      omega (arith, f.held, same_entities, bare_one (lead_of b) place) in
      rw (goes_is t is)
      (entered-one sort (get_or draft place 0) fine place T S (first_of draft place prefix from bytes contents sort plain)
      (none_of draft place prefix from bytes contents sort plain) s list text groups own l.shallow pushed l.opens
      (Goes
      (record {
        mode = (entered_by b s).mode;
        depth = (entered_by b s).depth;
        entities = t.entities + 1;
        text = (entered_by b s).text + (prefix - cut) + bytes;
      }))
      list' text' pushed
      (rw of-kind at
      (held_one draft list text pushed (entered_by b s) (lead_of b) kind place prefix from bytes cut contents cuts
      (ready_entered b s list text groups place l.shallow pushed l.array l.opens ready) (rw same_entities f.room)
      (rw same_text f.free) short-prefix short-data number list₁ list' text₁ text' t.entities held
      (rw (same_entities, same_text) l.list_is) (rw same_text wrote) (rw same_text t₁) (rw same_text t₂))))

  abbrev plain-row : Row
  plain-row = record { kind = kind; place = place; text_at = s.text; text_len = prefix - cut; data_len = bytes; count = 0 }

  unwritten :
      (e : Refusal) (list' pushed : List ℕ) → Held s list text groups plain-row (Err e) list' pushed
      → agrees comes (took s (Err e)) s list text list' text pushed place
  unwritten e list' pushed (none n x is) = let same : e ≡ n = cc is in rw same (stopped_room n list' pushed x)
  unwritten e list' pushed (some t list₁ x wrote is) = absurd (cc is)

  written_whole :
      (t : State) (list' pushed text₁ text' : List ℕ) → Held s list text groups plain-row (Ok t) list' pushed
      → prefix ≤ 4096 → bytes ≤ 4096 → kind_number (kind_of kind) ≡ kind
      → text₁ ≡ take s.text text ++ (take (prefix - cut) (drop (place + cut) draft) ++ drop (s.text + (prefix - cut)) text)
      → text'
      ≡ take (s.text + (prefix - cut)) text₁
      ++ (clean bytes (stream_at draft from) ++ drop (s.text + (prefix - cut) + bytes) text₁)
      → agrees comes (took s (Ok t)) s list text list' text' pushed place
  written_whole t list' pushed text₁ text' (none n x is) short-prefix short-data number t₁ t₂ = absurd (cc is)
  written_whole t list' pushed text₁ text' (some u list₁ x wrote is) short-prefix short-data number t₁ t₂ =
      let sum : s.text + (prefix - cut + bytes) ≡ s.text + (prefix - cut) + bytes = omega arith in
      let same :
      t ≡ record { mode = u.mode; depth = u.depth; entities = u.entities + 1; text = s.text + (prefix - cut + bytes) } = cc is in
      rw (same, sum)
      (held_room u list₁ pushed list' text₁ text'
      (room_found s list text groups place (prefix - cut + bytes) u list₁ pushed x) short-prefix short-data number wrote t₁ t₂)

  -- its row, and its own bytes of the draft
  module _ (raw : List ℕ) (raw_is : raw ≡ take (prefix - cut) (drop (place + cut) draft)) (row : Row)
      (row_is : row ≡ record { kind = kind; place = place; text_at = s.text; text_len = length raw; data_len = bytes; count = 0 }) where
    raw-long : length raw ≡ prefix - cut
    raw-long =
        ap length raw_is
        ∙ length-take-le (prefix - cut) (drop (place + cut) draft)
        (text_there draft list text groups s 0 kind place prefix from bytes cut contents cuts)

    own_row : row ≡ plain-row
    own_row = row_is ∙ rw raw-long

    -- where its row is not written, nothing is
    pub stopped_held :
        (e : Refusal) (list' pushed : List ℕ) → Held s list text groups row (Err e) list' pushed
        → agrees comes (took s (Err e)) s list text list' text pushed place
    stopped_held e list' pushed h = unwritten e list' pushed (rw own_row at h)

    -- behind its row, its text and data make it whole
    pub whole_held :
        (t : State) (list' pushed text₁ text' : List ℕ) → Held s list text groups row (Ok t) list' pushed
        → prefix ≤ 4096 → bytes ≤ 4096 → kind_number (kind_of kind) ≡ kind
        → text₁ ≡ take s.text text ++ (raw ++ drop (s.text + length raw) text)
        → text' ≡ take (s.text + length raw) text₁ ++ (clean bytes (stream_at draft from) ++ drop (s.text + length raw + bytes) text₁)
        → agrees comes (took s (Ok t)) s list text list' text' pushed place
    whole_held t list' pushed text₁ text' h short-prefix short-data number t₁ t₂ =
        written_whole t list' pushed text₁ text' (rw own_row at h) short-prefix short-data number
        (rw raw_is at (rw raw-long at t₁)) (rw raw-long at t₂)

-- where its row is written the text buffer has room
pub held_free :
    (s : State) (list text groups : List ℕ) (row : Row) (t : State) (list' pushed : List ℕ)
    → Held s list text groups row (Ok t) list' pushed → row.text_len + row.data_len ≤ length text - s.text
held_free s list text groups row t list' pushed (none n x is) = absurd (cc is)
held_free s list text groups row t list' pushed (some u list₁ x wrote is) =
    (room_found s list text groups row.place (row.text_len + row.data_len) u list₁ pushed x).free

-- What the tests of the code tell, without a begin group and with one.
module _ (s : State) (list text groups : List ℕ) (place size : ℕ) where
  module _ (out : bracketed s.mode ≡ false) (groups' : List ℕ) where
    pub full_bare :
        length list - 6 * s.entities < 6 → (r : Result State Refusal) → r ≡ Err ListFull
        → Roomed s list text groups place size r list groups'
    unfolding lead_of one
    full_bare few r is = full (λ t. absurd (true≢false (sym t ∙ out))) (rw out few) is refl

    module _ (enough : 6 ≤ length list - 6 * s.entities) where
      pub long-bare :
          length text - s.text < size → (r : Result State Refusal) → r ≡ Err TextFull
          → Roomed s list text groups place size r list groups'
      unfolding lead_of one
      long-bare few r is = long (λ t. absurd (true≢false (sym t ∙ out))) (rw out enough) few is refl

  pub roomy_bare :
      bracketed s.mode ≡ false → 6 ≤ length list - 6 * s.entities → size ≤ length text - s.text → length groups ≡ 64
      → Roomed s list text groups place size (Ok s) list groups
  unfolding lead_of one bares led_by entered_by entered_groups
  roomy_bare out enough free array =
      let f = out in
      roomy
      (record {
        shallow = λ t. absurd (true≢false (sym t ∙ out));
        is = rw f;
        list_is = rw f (sym (written_none list s.entities s.text));
        array = array;
        opens = rw f;
      })
      (rw f enough) free

  module _ (behind : bracketed s.mode ≡ true) (groups' : List ℕ) where
    pub crowded_led :
        64 ≤ s.depth → (r : Result State Refusal) → r ≡ Err TooManyGroups → Roomed s list text groups place size r list groups'
    crowded_led deep r is = crowded (rw behind (le-leb 64 s.depth deep)) is refl

    module _ (shallow : s.depth < 64) where
      pub full-led :
          length list - 6 * s.entities < 12 → (r : Result State Refusal) → r ≡ Err ListFull
          → Roomed s list text groups place size r list groups'
      unfolding lead_of one
      full-led few r is = full (λ t. shallow) (rw behind few) is refl

      module _ (enough : 12 ≤ length list - 6 * s.entities) where
        pub long-led :
            length text - s.text < size → (r : Result State Refusal) → r ≡ Err TextFull
            → Roomed s list text groups place size r list groups'
        unfolding lead_of one
        long-led few r is = long (λ t. shallow) (rw behind enough) few is refl

        pub roomy-led :
            size ≤ length text - s.text → (t : State) (list₁ : List ℕ)
            → t ≡ record { mode = Regular; depth = s.depth + 1; entities = s.entities + 1; text = s.text }
            → list₁ ≡ written list s.entities s.text (bares 6 place) → length groups' ≡ 64
            → open_groups groups' (s.depth + 1) ≡ 1 ∷ open_groups groups s.depth
            → Roomed s list text groups place size (Ok t) list₁ groups'
        unfolding lead_of one led_by entered_by entered_groups
        roomy-led free t list₁ is led array so =
            let b = behind in
            roomy
            (record { shallow = λ u. shallow; is = rw (b, is); list_is = rw b led; array = array; opens = rw b so })
            (rw b enough) free
