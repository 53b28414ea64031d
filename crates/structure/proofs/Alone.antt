-- The tokens alone that bring no text, and the last token, against Making: a token alone that is none of the six others is `;`, and what is
-- ruled of one behind the begin group that it brings is told of the state before. The last token is refused with anything open.
use mathlib.Core.Path.{◌≡◌, refl, sym, ◌∙◌}
use mathlib.Core.Bool.{Bool, true, false, not, ◌&&◌, ◌||◌}
use mathlib.Core.List.{List, [], ◌∷◌}
use Prim.Native.Nat.{ℕ, ◌-◌, ◌*◌, ◌<◌, ◌≤◌, ◌/◌}
use native.Mathlib.Omega.{arith}
use lib.Dec.{ltb, eqb}
use lib.ListN.{length, get_or}
use borrow.Author.Tests.{eqb-true, ne_eqb, lt-ltb, le-leb, ltb-false}
use Rattle.std.specs.Prelude.{Result, Ok, Err}
use Rattle.chars.specs.Limits.{limits}
use Rattle.chars.specs.declared.refusal.Refusal.{Refusal}
use Rattle.chars.specs.declared.refusal.Refusal.TheVariants.{SemicolonOutside, LastInMetacommand, LastInGroup, TooManyGroups, ListFull}
use Rattle.tokens.specs.Sorts.{visible, white, atomic, inclusive}
use Rattle.tokens.proofs.Table.{implied}
use Rattle.runs.specs.Bytes.{begins_of}
use Rattle.entities.specs.Entity.{bare}
use Rattle.entities.specs.Making.{Handled, stops, holds, fitted, handled, regular, judged, judged_last, closing, within_groups, adds}
use Rattle.entities.specs.Judging.{bares, counting, kind_of}
use Rattle.entities.specs.Stepping.{Ready, open_groups, room_left, reader_of, agrees, took, judged_as, closing_as, Fits, Ruled, structural}
use Rattle.entities.specs.Stepping.{below, entered_by, entered_groups, lead_of, bracketed, commanded}
use Rattle.entities.specs.declared.state.State.{State}
use Rattle.entities.specs.declared.state.Mode.TheVariants.{Regular, Bracket, Metacommand}
use Rattle.entities.proofs.OpenGroups.{so_many}
use Rattle.entities.proofs.Fitting.{nothing, empty_bares, empty_counting, fits_agrees}
use Rattle.entities.proofs.Entering.{too_many, no_room, entered, ready_entered}

-- the seven
abbrev seven : ℕ → Bool
seven k = eqb k 0x28 || (eqb k 0x29 || (eqb k 0x5B || (eqb k 0x2C || (eqb k 0x5D || (eqb k 0x25 || eqb k 0x3B)))))

pub one_of_seven : (c : ℕ) → c < 256 → structural c ≡ true → seven c ≡ true
unfolding structural begins_of white inclusive atomic visible
one_of_seven = implied structural seven 256 refl

-- below `*`
pub percent : (c : ℕ) → c < 256 → structural c ≡ true → c < 0x2A → (c ≡ 0x28 → ⊥) → (c ≡ 0x29 → ⊥) → c ≡ 0x25
unfolding structural begins_of white inclusive atomic visible
percent c h t low begins ends =
    eqb-true c 0x25
    (implied (λ k. structural k && (ltb k 0x2A && (not (eqb k 0x28) && not (eqb k 0x29)))) (λ k. eqb k 0x25) 256 refl c h
    (rw (t, lt-ltb c 0x2A low, ne_eqb c 0x28 begins, ne_eqb c 0x29 ends)))

-- none of the six others
pub semicolon :
    (c : ℕ) → c < 256 → structural c ≡ true → (c ≡ 0x28 → ⊥) → (c ≡ 0x29 → ⊥) → (c ≡ 0x5B → ⊥) → (c ≡ 0x2C → ⊥) → (c ≡ 0x5D → ⊥)
    → (c ≡ 0x25 → ⊥) → c ≡ 0x3B
semicolon c h t begins ends opens next closes command =
    eqb-true c 0x3B
    (rw (
      ne_eqb c 0x28 begins,
      ne_eqb c 0x29 ends,
      ne_eqb c 0x5B opens,
      ne_eqb c 0x2C next,
      ne_eqb c 0x5D closes,
      ne_eqb c 0x25 command,
    ) at (one_of_seven c h t))

module _ (lead : ℕ) (s : State) (list groups : List ℕ) (place : ℕ) (c : ℕ) where
  -- what is ruled of a byte is ruled of that token
  pub of_byte :
      (k : ℕ) → c ≡ k → (r : Result State Refusal) (list' groups' : List ℕ) → Ruled k lead s list groups place r list' groups'
      → Ruled c lead s list groups place r list' groups'
  of_byte k e r list' groups' x = rw e x

  -- `;` is refused where no metacommand is open
  pub stray : c ≡ 0x3B → commanded s.mode ≡ false → Ruled c lead s list groups place (Err SemicolonOutside) list groups
  unfolding Ruled took agrees judged_as judged regular reader_of fitted
  stray e regularly T text first ready = rw (regularly, first, e) (refl, refl, refl, refl, refl)

-- of a refusal only what is held is told
pub same_took :
    (t s : State) (h : Handled) (r : Result State Refusal) (list text list' text' groups' : List ℕ) (place : ℕ)
    → agrees h (took t r) s list text list' text' groups' place → agrees h (took s r) s list text list' text' groups' place
unfolding took agrees
same_took t s (stops n) (Ok v) list text list' text' groups' place a = a
same_took t s (stops n) (Err e) list text list' text' groups' place a = (a.0, a.1, a.2, refl, refl)
same_took t s (holds es room q) (Ok v) list text list' text' groups' place a = a
same_took t s (holds es room q) (Err e) list text list' text' groups' place a = a

-- room for the group
pub roomy_enough :
    (b : Bool) (s : State) (list : List ℕ) → 6 * s.entities ≤ length list → (b && ltb (length list - 6 * s.entities) 6) ≡ false → b ≡ true
    → length list / 6 - s.entities ≡ 0 → ⊥
roomy_enough b s list h f t none = omega (arith, ltb-false (length list - 6 * s.entities) 6 (rw t at f))

-- A token alone: `b` says whether it brings a begin group.
module _ (s : State) (list groups : List ℕ) (place c : ℕ) (b : Bool) (e : b ≡ (bracketed s.mode && not (eqb c 0x5D))) where
  brings_here : (T : List ℕ) → get_or T 0 0 ≡ c → (bracketed s.mode && not (closing_as 0 T)) ≡ b
  unfolding closing_as closing
  brings_here T first = rw first (sym e)

  abbrev Told : Result State Refusal → (list' groups' : List ℕ) → Type 0
  Told r list' groups' =
      (T text : List ℕ) → get_or T 0 0 ≡ c → Ready s list text groups place
      → agrees
      (handled limits (room_left s list text) (reader_of s groups) (closing_as 0 T) place (λ q. judged_as 0 q place T []))
      (took s r) s list text list' text groups' place

  module _ (shallow : b ≡ true → s.depth < 64) where
    pub told :
        (b && ltb (length list - 6 * s.entities) 6) ≡ false → (inner : State) → inner ≡ entered_by b s → (pushed : List ℕ)
        → length pushed ≡ 64 → open_groups pushed inner.depth ≡ entered_groups b (open_groups groups s.depth) → (lead : ℕ)
        → lead ≡ lead_of b → (r : Result State Refusal) (list' groups' : List ℕ) → Ruled c lead inner list pushed place r list' groups'
        → Told r list' groups'
    unfolding Ruled
    told f inner within pushed long so lead led r list' groups' ruled T text first ready =
        let same = brings_here T first in
        let so-here = rw within at so in
        let here = rw (led, within) at ruled in
        let done = here T text first (ready_entered b s list text groups place shallow pushed long so-here ready) in
        same_took (entered_by b s) s _ r list text list' text groups' place
        (entered s list text groups place (closing_as 0 T) (λ q. judged_as 0 q place T []) (λ u. shallow (sym same ∙ u))
        (λ u. roomy_enough b s list ready.held f (sym same ∙ u)) pushed (rw same so-here) (took (entered_by b s) r)
        list' text groups' (rw same done))

-- the last token
abbrev Ended : State → (list groups : List ℕ) → (place : ℕ) → Result State Refusal → (list' : List ℕ) → Type 0
Ended s list groups place r list' =
    (text : List ℕ) → Ready s list text groups place
    → agrees
    (handled limits (room_left s list text) (reader_of s groups) false place (λ q. judged_last q place))
    (took s r) s list text list' text groups place

module _ {s : State} {list groups : List ℕ} {place : ℕ} where
  -- behind `[` it brings a group: 17 and 18 for that one, and else that one is open
  module _ (opened : s.mode ≡ Bracket) where
    pub ended_17 : 64 ≤ s.depth → Ended s list groups place (Err TooManyGroups) list
    unfolding took
    ended_17 deep text ready =
        too_many s list text groups place false (λ q. judged_last q place) (rw opened (le-leb 64 s.depth deep)) groups

    pub ended_18 : s.depth < 64 → length list - 6 * s.entities < 6 → Ended s list groups place (Err ListFull) list
    unfolding took
    ended_18 shallow few text ready =
        no_room s list text groups place false (λ q. judged_last q place) (λ u. shallow) ready.held
        (rw opened (lt-ltb (length list - 6 * s.entities) 6 few)) groups

    pub ended_array : s.depth < 64 → 6 ≤ length list - 6 * s.entities → Ended s list groups place (Err LastInGroup) list
    unfolding took handled reader_of room_left within_groups judged_last fitted agrees
    ended_array shallow many text ready =
        rw (
          opened,
          lt-ltb (length (open_groups groups s.depth)) 64 (omega (arith, so_many groups s.depth)),
          ne_eqb (length list / 6 - s.entities) 0 (λ none. omega (arith, ready.held)),
          lt-ltb 0 (length (1 ∷ open_groups groups s.depth)) (omega arith),
        ) (refl, refl, refl, refl, refl)

  pub ended_metacommand : s.mode ≡ Metacommand → Ended s list groups place (Err LastInMetacommand) list
  unfolding took handled reader_of judged_last fitted agrees
  ended_metacommand m text ready = rw m (refl, refl, refl, refl, refl)

  module _ (regular : s.mode ≡ Regular) where
    pub ended_open : (s.depth ≡ 0 → ⊥) → Ended s list groups place (Err LastInGroup) list
    unfolding took handled reader_of judged_last fitted agrees
    ended_open deep text ready =
        rw (regular, lt-ltb 0 (length (open_groups groups s.depth)) (omega (arith, so_many groups s.depth)))
        (refl, refl, refl, refl, refl)

    -- nothing is open before it, and nothing is behind it
    pub ended :
        {r : Result State Refusal} {list' : List ℕ} → Fits s list (counting 17 place 0 ∷ []) Regular 0 list' r → s.depth ≡ 0
        → Ended s list groups place r list'
    unfolding handled reader_of judged_last adds bare bares counting kind_of open_groups below
    ended {r} {list'} x flat text ready =
        let empty = empty_bares 0 place (counting 17 place 0 ∷ []) (empty_counting 17 place 0 [] nothing) in
        rw (regular, flat)
        (rw (regular, flat) at
        (fits_agrees s list text groups groups place 0 (counting 17 place 0 ∷ []) (reader_of s groups) empty ready Regular 0 list' r x
        (rw (regular, flat)) (omega arith) ready.array tt))
