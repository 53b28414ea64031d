-- A token alone behind `[` brings a begin group, which is written before the token is ruled: all that can refuse the token there is known
-- by
-- its byte, so that nothing does once the group is written, and what the token then does is told of the state before both.
use mathlib.Core.Path.{◌≡◌, refl, sym, ◌∙◌, ap}
use mathlib.Core.Bool.{Bool, true, false, not, ◌&&◌, true≢false}
use mathlib.Core.List.{List, [], ◌∷◌, ◌++◌}
use Prim.Native.Nat.{ℕ, suc, ◌+◌, ◌-◌, ◌*◌, ◌<◌, ◌≤◌, ◌/◌}
use native.Mathlib.Omega.{arith}
use lib.Dec.{eqb, leb, ltb}
use lib.ListN.{length, get_or, length-append}
use borrow.Author.Tests.{ne_eqb, eqb-true, lt-ltb, le-ltb, le-leb, leb-true, leb-false, not-true}
use Rattle.chars.proofs.Cases.{either, both}
use Rattle.std.specs.Prelude.{Result, Ok, Err}
use Rattle.chars.specs.Refusal.{number_of}
use Rattle.chars.specs.declared.refusal.Refusal.{Refusal}
use Rattle.chars.specs.declared.refusal.Refusal.TheVariants.{SemicolonOutside, NoGroup, TooManyGroups, ListFull}
use Rattle.entities.specs.Entity.{Entity, bare, sizes}
use Rattle.entities.specs.Making.{Reader, Room, Judged, refuses, makes, holds, fitted, handled, within_groups, shortage}
use Rattle.entities.specs.Making.{group_begins, group_ends, element_ends, regular, judged, closing}
use Rattle.entities.specs.Judging.{bares, one, kind_of, written}
use Rattle.entities.specs.Stepping.{Ready, Steady, open_groups, below, room_left, reader_of, agrees, Took, Goes, Stops, took, judged_as}
use Rattle.entities.specs.Stepping.{closing_as, Ruled}
use Rattle.entities.specs.Stepping.{entered_by, entered_groups, lead_of, led_by, Leads, Led, refused, leads, brings_by, refused_behind}
use Rattle.entities.specs.Stepping.{own_behind, Told, structural, bracketed, commanded}
use Rattle.entities.specs.declared.state.State.{State}
use Rattle.entities.specs.declared.state.Mode.TheVariants.{Regular}
use Rattle.entities.proofs.OpenGroups.{so_many}
use Rattle.entities.proofs.Listing.{written_none, written_length}
use Rattle.entities.proofs.Cutting.{bare_first, bare_text}
use Rattle.entities.proofs.Shortages.{bare_one}
use Rattle.entities.proofs.Fitting.{Empty, nothing, more, empty_bares, empty_sizes, empty_short, stopped, went}
use Rattle.entities.proofs.Entering.{too_many, no_room}
use Rattle.structure.proofs.Alone.{one_of_seven, told, same_took}

-- What a token is judged to be with the begin group open that it brings: refused, or so many entities without text.
pub data Behind (c depth : ℕ) : Judged → Type 0 where
  no : (n : Refusal) → refused_behind c depth ≡ Err n → Behind c depth (refuses (number_of n))
  some :
      (es : List Entity) (q : Reader) → refused_behind c depth ≡ Ok tt → length es ≡ own_behind c → Empty es
      → Behind c depth (makes es q)

module _ (gs : List ℕ) (depth place : ℕ) (deep : length gs ≡ depth) where
  abbrev comes : (T : List ℕ) → Judged
  comes T = judged_as 0 (within_groups (1 ∷ gs)) place T []

  begins : (T : List ℕ) → get_or T 0 0 ≡ 0x28 → Behind 0x28 depth (comes T)
  unfolding judged_as judged regular within_groups group_begins refused_behind own_behind bare
  begins T e =
      rw e
      (either (leb 64 (depth + 1))
      (λ t.
      rw (le-ltb (suc (length gs)) 64 (omega (arith, leb-true 64 (depth + 1) t)))
      (no TooManyGroups (rw t)))
      (λ t.
      rw (lt-ltb (suc (length gs)) 64 (omega (arith, leb-false 64 (depth + 1) t)))
      (some _ _ (rw t) refl (more _ [] refl refl nothing))))

  ends : (T : List ℕ) → get_or T 0 0 ≡ 0x29 → Behind 0x29 depth (comes T)
  unfolding judged_as judged regular within_groups group_ends refused_behind
  ends T e = rw e (no NoGroup refl)

  opens : (T : List ℕ) → get_or T 0 0 ≡ 0x5B → Behind 0x5B depth (comes T)
  unfolding judged_as judged regular within_groups refused_behind own_behind
  opens T e = rw e (some [] _ refl refl nothing)

  next : (T : List ℕ) → get_or T 0 0 ≡ 0x2C → Behind 0x2C depth (comes T)
  unfolding judged_as judged regular within_groups element_ends refused_behind own_behind bare
  next T e = rw e (some _ _ refl refl (more _ _ refl refl (more _ [] refl refl nothing)))

  command : (T : List ℕ) → get_or T 0 0 ≡ 0x25 → Behind 0x25 depth (comes T)
  unfolding judged_as judged regular within_groups refused_behind own_behind bare
  command T e = rw e (some _ _ refl refl (more _ [] refl refl nothing))

  over : (T : List ℕ) → get_or T 0 0 ≡ 0x3B → Behind 0x3B depth (comes T)
  unfolding judged_as judged regular within_groups refused_behind
  over T e = rw e (no SemicolonOutside refl)

  -- each of the seven but `]`
  pub behind :
      (c : ℕ) → c < 256 → structural c ≡ true → eqb c 0x5D ≡ false → (T : List ℕ) → get_or T 0 0 ≡ c → Behind c depth (comes T)
  behind c h s f T e =
      let seven = one_of_seven c h s in
      either (eqb c 0x28) (λ t. let k = eqb-true c 0x28 t in rw k (begins T (e ∙ k)))
      (λ t1. either (eqb c 0x29) (λ t. let k = eqb-true c 0x29 t in rw k (ends T (e ∙ k)))
      (λ t2. either (eqb c 0x5B) (λ t. let k = eqb-true c 0x5B t in rw k (opens T (e ∙ k)))
      (λ t3. either (eqb c 0x2C) (λ t. let k = eqb-true c 0x2C t in rw k (next T (e ∙ k)))
      (λ t4. either (eqb c 0x25) (λ t. let k = eqb-true c 0x25 t in rw k (command T (e ∙ k)))
      (λ t5. let k = eqb-true c 0x3B (rw (t1, t2, t3, t4, f, t5) at seven) in rw k (over T (e ∙ k)))))))

refuses_of :
    (c depth : ℕ) (j : Judged) → Behind c depth j → (n : Refusal) → refused_behind c depth ≡ Err n → j ≡ refuses (number_of n)
refuses_of c depth j (no m e) n is = let same : m ≡ n = cc in rw same
refuses_of c depth j (some es q e many x) n is = absurd (cc)

-- it is so many entities without text
record Makes (c : ℕ) (j : Judged) : Type 0 where
  es : List Entity
  q : Reader
  is : j ≡ makes es q
  many : length es ≡ own_behind c
  empty : Empty es

makes_of : (c depth : ℕ) (j : Judged) → Behind c depth j → refused_behind c depth ≡ Ok tt → Makes c j
makes_of c depth j (no n e) none = absurd (cc)
makes_of c depth j (some es q e many x) none = record { es = es; q = q; is = refl; many = many; empty = x }

module _ (c : ℕ) (s : State) (list groups : List ℕ) (place : ℕ) where
  abbrev gs : List ℕ
  gs = open_groups groups s.depth

  brings_here : (T : List ℕ) → get_or T 0 0 ≡ c → (bracketed s.mode && not (closing_as 0 T)) ≡ brings_by s.mode c
  unfolding closing_as closing
  brings_here T e = rw e

  module _ (t : brings_by s.mode c ≡ true) (groups' : List ℕ) where
    pub too_deep : 64 ≤ s.depth → Told c s list groups place (Stops (number_of TooManyGroups) s) list groups'
    too_deep h T text e ready =
        too_many s list text groups place (closing_as 0 T) (λ q. judged_as 0 q place T [])
        (rw (brings_here T e ∙ t) (le-leb 64 s.depth h)) groups'

    module _ (shallow : s.depth < 64) where
      pub no_group : length list - 6 * s.entities < 6 → Told c s list groups place (Stops (number_of ListFull) s) list groups'
      no_group h T text e ready =
          no_room s list text groups place (closing_as 0 T) (λ q. judged_as 0 q place T []) (λ u. shallow) ready.held
          (rw (brings_here T e ∙ t) (lt-ltb (length list - 6 * s.entities) 6 h)) groups'

      module _ (range : c < 256) (alone : structural c ≡ true) (roomy : 6 ≤ length list - 6 * s.entities) where
        other : eqb c 0x5D ≡ false
        other = not-true (eqb c 0x5D) (both (bracketed s.mode) (not (eqb c 0x5D)) t).1

        judged_here : (T : List ℕ) → get_or T 0 0 ≡ c → Behind c s.depth (judged_as 0 (within_groups (1 ∷ gs)) place T [])
        judged_here T e = behind gs s.depth place (so_many groups s.depth) c range alone other T e

        pub by_its_rules :
            (n : Refusal) → refused_behind c s.depth ≡ Err n → Told c s list groups place (Stops (number_of n) s) list groups'
        unfolding handled reader_of room_left agrees fitted
        by_its_rules n is T text e ready =
            rw (
              brings_here T e ∙ t,
              lt-ltb (length gs) 64 (omega (arith, so_many groups s.depth)),
              ne_eqb (length list / 6 - s.entities) 0 (λ z. omega (arith, ready.held)),
              refuses_of c s.depth _ (judged_here T e) n is,
            ) (refl, refl, refl, refl, refl)

        pub no_rows :
            refused_behind c s.depth ≡ Ok tt → length list - 6 * s.entities < 6 + 6 * own_behind c
            → Told c s list groups place (Stops (number_of ListFull) s) list groups'
        unfolding handled reader_of room_left bares kind_of
        no_rows none few T text e ready =
            let m = makes_of c s.depth _ (judged_here T e) none in
            let all = empty_bares 6 place m.es m.empty in
            let count = length-append (bares 6 place) m.es in
            let scarce : shortage (length list / 6 - s.entities) (length text - s.text) (bares 6 place ++ m.es) ≡ 18 =
            empty_short (length text - s.text) (bares 6 place ++ m.es) all (length list / 6 - s.entities)
            ∙ rw (lt-ltb (length list / 6 - s.entities) (length (bares 6 place ++ m.es)) (omega (arith, m.many, ready.held))) in
            rw (
              brings_here T e ∙ t,
              lt-ltb (length gs) 64 (omega (arith, so_many groups s.depth)),
              ne_eqb (length list / 6 - s.entities) 0 (λ z. omega (arith, ready.held)),
              m.is,
            )
            (stopped s list text groups groups' place 6 m.es m.q 18 scarce (λ z. omega arith) s refl refl)

-- what is written behind the group is written with it
module _ (s inner t : State) (list list₁ text pushed groups' : List ℕ) (place : ℕ) (es : List Entity) (q : Reader) (x : Empty es)
    (k : inner.entities ≡ s.entities) (u : inner.text ≡ s.text) (k₁ : t.entities ≡ s.entities + 1) (u₁ : t.text ≡ s.text)
    (led : list₁ ≡ written list s.entities s.text (bares 6 place))
    (fits : 6 * (s.entities + 1 + length es) ≤ length list) (ready : Ready inner list text pushed place) where
  count : length (bares 6 place ++ es) ≡ 1 + length es
  unfolding one
  count = length-append (bares 6 place) es ∙ ap (λ n. n + length es) (bare_one 6 place)

  sizeless : sizes (bares 6 place ++ es) ≡ 0
  sizeless = empty_sizes (bares 6 place ++ es) (empty_bares 6 place es x)

  enough : shortage (length list / 6 - inner.entities) (length text - inner.text) (bares 6 place ++ es) ≡ 0
  enough =
      empty_short (length text - inner.text) (bares 6 place ++ es) (empty_bares 6 place es x) (length list / 6 - inner.entities)
      ∙ rw (le-ltb (length list / 6 - inner.entities) (length (bares 6 place ++ es)) (omega (arith, count, k)))

  first : s.entities + length (bares 6 place) ≡ s.entities + 1
  unfolding one
  first = omega (arith, bare_one 6 place)

  together : written list₁ (s.entities + 1) s.text es ≡ written list s.entities s.text (bares 6 place ++ es)
  together =
      rw led (rw first at (bare_first list s.entities s.text 6 place es (omega (arith, first, fits))))

  onward :
      (r : Took) (room : Room) (list' : List ℕ) → agrees (holds es room q) r t list₁ text list' text groups' place
      → agrees (fitted (room_left inner list text) (bares 6 place) (makes es q)) r inner list text list' text groups' place
  unfolding agrees
  onward (Stops m v) room list' a = absurd a
  onward (Goes v) room list' a =
      let e = empty_sizes es x in
      let next : place + 2 ≡ place + 1 + 1 = omega arith in
      went inner list text pushed groups' place 6 es q enough ready v list' text
      (rw (k, u) ((rw (k₁, u₁) at a.0) ∙ together))
      (rw u ((rw u₁ at a.1) ∙ sym (bare_text text s.text 6 place es)))
      (omega (arith, a.2, count)) (omega (arith, a.3, sizeless, e)) (omega (arith, sizeless)) a.4 a.6.deep a.6.array
      (rw next a.6.numbers)

-- entities without text that fit are held
held :
    (t : State) (list text : List ℕ) (es : List Entity) (q : Reader) (x : Empty es) → 6 * (t.entities + length es) ≤ length list
    → (place : ℕ) (r : Took) (list' groups' : List ℕ)
    → agrees (fitted (room_left t list text) (bares 0 place) (makes es q)) r t list text list' text groups' place
    → agrees
    (holds es (record { entities = length list / 6 - t.entities - length es; text = length text - t.text - sizes es }) q) r t list text
    list' text groups' place
unfolding fitted room_left bares
held t list text es q x fits place r list' groups' a =
    let enough : shortage (length list / 6 - t.entities) (length text - t.text) es ≡ 0 =
    empty_short (length text - t.text) es x (length list / 6 - t.entities)
    ∙ rw (le-ltb (length list / 6 - t.entities) (length es) (omega arith)) in
    rw enough at a

-- the group itself fits
group_fits :
    (s : State) (list : List ℕ) (n place : ℕ) → 6 * (s.entities + 1 + n) ≤ length list
    → 6 * (s.entities + length (bares 6 place)) ≤ length list
unfolding one
group_fits s list n place fits = omega (arith, bare_one 6 place)

-- with the group written all is as steady as before
steady_led :
    (b : Bool) (s : State) (list list₁ groups pushed : List ℕ) (place : ℕ) → (b ≡ true → s.depth < 64)
    → (b ≡ true → 6 * (s.entities + 1) ≤ length list) → length list₁ ≡ length list → commanded s.mode ≡ false → length pushed ≡ 64
    → open_groups pushed (entered_by b s).depth ≡ entered_groups b (open_groups groups s.depth) → Steady s list groups place
    → (commanded (led_by b s).mode ≡ false) × Steady (led_by b s) list₁ pushed place
unfolding led_by entered_by entered_groups below
steady_led true s list list₁ groups pushed place shallow fits long regularly array so steady =
    let few = shallow refl in
    let enough = fits refl in (
      refl,
      record {
        deep = omega arith;
        array = array;
        held = omega arith;
        small = steady.small;
        numbers = rw so (omega arith, steady.numbers);
      },
    )
steady_led false s list list₁ groups pushed place shallow fits long regularly array so steady = (
  regularly,
  record {
    deep = steady.deep;
    array = array;
    held = omega (arith, steady.held);
    small = steady.small;
    numbers = rw so steady.numbers;
  },
)

-- Ruled behind the group that was written, it is ruled with it.
module _ (c : ℕ) (range : c < 256) (alone : structural c ≡ true) (place : ℕ) where
  no_lead : (list : List ℕ) (k t : ℕ) → written list k t (bares 0 place) ≡ list
  unfolding bares
  no_lead list k t = written_none list k t

  raised_behind :
      (r : Result State Refusal) (list' groups' : List ℕ) (s : State) (list list₁ groups pushed : List ℕ) → eqb c 0x5D ≡ false
      → list₁ ≡ written list s.entities s.text (bares 6 place)
      → open_groups pushed (s.depth + 1) ≡ 1 ∷ open_groups groups s.depth → refused_behind c s.depth ≡ Ok tt
      → 6 * (s.entities + 1 + own_behind c) ≤ length list
      → Ruled c 0 (record { mode = Regular; depth = s.depth + 1; entities = s.entities + 1; text = s.text }) list₁ pushed place r list'
      groups'
      → Ruled c 6 (record { mode = Regular; depth = s.depth + 1; entities = s.entities; text = s.text }) list pushed place r list' groups'
  unfolding Ruled reader_of within_groups
  raised_behind r list' groups' s list list₁ groups pushed other led so none fits ruled T text e ready =
      let gs = open_groups groups s.depth in
      let m = makes_of c s.depth _ (behind gs s.depth place (so_many groups s.depth) c range alone other T e) none in
      let inner : State = record { mode = Regular; depth = s.depth + 1; entities = s.entities; text = s.text } in
      let t : State = record { mode = Regular; depth = s.depth + 1; entities = s.entities + 1; text = s.text } in
      let long : length list₁ ≡ length list = rw led (written_length list s.entities s.text (bares 6 place) (group_fits s list
      (own_behind c) place fits)) in
      let room_in : length list₁ / 6 ≡ length list / 6 = rw long in
      let all : 6 * (s.entities + 1 + length m.es) ≤ length list = rw m.many fits in
      let done =
      ruled T text e
      (record {
        deep = ready.deep;
        array = ready.array;
        held = omega (arith, long, all);
        used = ready.used;
        small = ready.small;
        numbers = ready.numbers;
      }) in
      let here = rw (so, m.is) at done in
      rw (so, m.is)
      (same_took t inner _ r list text list' text groups' place
      (onward s inner t list list₁ text pushed groups' place m.es m.q m.empty refl refl refl refl led all ready (took t r) _ list'
      (held t list₁ text m.es m.q m.empty (omega (arith, long, all)) place (took t r) list' groups' here)))

  pub raised :
      (r : Result State Refusal) (list' groups' : List ℕ) (b : Bool) (s : State) (list list₁ groups pushed : List ℕ)
      → (b ≡ true → eqb c 0x5D ≡ false)
      → list₁ ≡ written list s.entities s.text (bares (lead_of b) place)
      → open_groups pushed (entered_by b s).depth ≡ entered_groups b (open_groups groups s.depth)
      → (b ≡ true → (refused_behind c s.depth ≡ Ok tt) × (6 * (s.entities + 1 + own_behind c) ≤ length list))
      → Ruled c 0 (led_by b s) list₁ pushed place r list' groups' → Ruled c (lead_of b) (entered_by b s) list pushed place r list' groups'
  unfolding led_by entered_by entered_groups lead_of
  raised r list' groups' false s list list₁ groups pushed other led so may ruled =
      rw (led ∙ no_lead list s.entities s.text) at ruled
  raised r list' groups' true s list list₁ groups pushed other led so may ruled =
      let says = may refl in
      raised_behind r list' groups' s list list₁ groups pushed (other refl) led so says.0 says.1 ruled

  module _ (s : State) (list groups : List ℕ) where
    pub led_stopped :
        (n : Refusal) (list₁ pushed : List ℕ) → Led c s list groups place (Err n) list₁ pushed
        → Told c s list groups place (took s (Err n)) list₁ pushed
    unfolding took
    led_stopped n list₁ pushed (refused m is told) = let same : n ≡ m = cc is in rw same told
    led_stopped n list₁ pushed (leads l may) = absurd (cc l.is)

    pub led_leads :
        (t : State) (list₁ pushed : List ℕ) → Led c s list groups place (Ok t) list₁ pushed
        → Leads (brings_by s.mode c) s list groups place (Ok t) list₁ pushed
    led_leads t list₁ pushed (refused n is told) = absurd (cc is)
    led_leads t list₁ pushed (leads l may) = l

    led_fits :
        (t : State) (list₁ pushed : List ℕ) → Led c s list groups place (Ok t) list₁ pushed → brings_by s.mode c ≡ true
        → 6 * (s.entities + 1) ≤ length list
    led_fits t list₁ pushed (refused n is told) b = absurd (cc is)
    led_fits t list₁ pushed (leads l may) b = let says = may b in omega (arith, says.1)

    -- what is ready to be ruled
    pub led_steady :
        (t : State) (list₁ pushed : List ℕ) → Led c s list groups place (Ok t) list₁ pushed → length list₁ ≡ length list
        → commanded s.mode ≡ false → Steady s list groups place → (commanded t.mode ≡ false) × Steady t list₁ pushed place
    led_steady t list₁ pushed led long regularly steady =
        let l = led_leads t list₁ pushed led in
        let is : t ≡ led_by (brings_by s.mode c) s = cc l.is in
        rw is
        (steady_led (brings_by s.mode c) s list list₁ groups pushed place l.shallow (led_fits t list₁ pushed led) long regularly
        l.array l.opens steady)

    -- what the token did
    pub led_told :
        (r : Result State Refusal) (list' groups' : List ℕ) (t : State) (list₁ pushed : List ℕ)
        → Led c s list groups place (Ok t) list₁ pushed
        → Ruled c 0 t list₁ pushed place r list' groups' → Told c s list groups place (took s r) list' groups'
    led_told r list' groups' t list₁ pushed (refused n is told) ruled = absurd (cc is)
    led_told r list' groups' t list₁ pushed (leads l may) ruled =
        let b = brings_by s.mode c in
        let is : t ≡ led_by b s = cc l.is in
        let other : b ≡ true → eqb c 0x5D ≡ false =
        λ t. not-true (eqb c 0x5D) (both (bracketed s.mode) (not (eqb c 0x5D)) t).1 in
        let free : (b && ltb (length list - 6 * s.entities) 6) ≡ false =
        either b
        (λ t. let says = may t in rw t (le-ltb (length list - 6 * s.entities) 6 (omega (arith, says.1))))
        (λ t. rw t) in
        told s list groups place c b refl l.shallow free (entered_by b s) refl pushed l.array l.opens (lead_of b) refl r list'
        groups'
        (raised r list' groups' b s list list₁ groups pushed other l.list_is l.opens may (rw is at ruled))

-- no begin group is brought
pub not_led :
    (c : ℕ) (s : State) (list groups : List ℕ) (place : ℕ) → brings_by s.mode c ≡ false → length groups ≡ 64
    → Led c s list groups place (Ok s) list groups
unfolding led_by entered_by entered_groups lead_of bares
not_led c s list groups place f array =
    leads
    (record {
      shallow = λ t. absurd (true≢false (sym t ∙ f));
      is = rw f;
      list_is = rw f (sym (written_none list s.entities s.text));
      array = array;
      opens = rw f;
    })
    (λ t. absurd (true≢false (sym t ∙ f)))

-- one is brought and written
pub is_led :
    (c : ℕ) (s : State) (list groups : List ℕ) (place : ℕ) → brings_by s.mode c ≡ true → s.depth < 64
    → refused_behind c s.depth ≡ Ok tt → 6 * (s.entities + 1 + own_behind c) ≤ length list → (t : State) (list₁ pushed : List ℕ)
    → t ≡ record { mode = Regular; depth = s.depth + 1; entities = s.entities + 1; text = s.text }
    → list₁ ≡ written list s.entities s.text (bares 6 place) → length pushed ≡ 64
    → open_groups pushed (s.depth + 1) ≡ 1 ∷ open_groups groups s.depth
    → Led c s list groups place (Ok t) list₁ pushed
unfolding led_by entered_by entered_groups lead_of
is_led c s list groups place b shallow none fits t list₁ pushed is led array so =
    leads
    (record { shallow = λ u. shallow; is = rw (b, is); list_is = rw b led; array = array; opens = rw b so })
    (λ u. (none, fits))

pub own_few : (c : ℕ) → own_behind c ≤ 2
unfolding own_behind
own_few c =
    either (eqb c 0x5B) (λ t. rw t (omega arith)) (λ t. rw t (either (eqb c 0x2C) (λ u. rw u (omega arith)) (λ u. rw u (omega arith))))
