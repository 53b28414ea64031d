-- What a token comes to: entities at its own place, or a refusal of 10 to 19. Each rule gives it that place, and so does an inserted begin
-- group.
use mathlib.Core.Path.{◌≡◌, refl}
use mathlib.Core.Bool.{Bool, true, false, not, ◌&&◌, ◌||◌}
use mathlib.Core.List.{List, [], ◌∷◌, ◌++◌}
use Prim.Native.Nat.{ℕ, zero, suc, ◌-◌, ◌≤◌}
use native.Mathlib.Omega.{arith}
use lib.Dec.{ltb, eqb}
use lib.ListN.{length, get_or}
use borrow.Author.Tests.{eqb-false}
use Rattle.chars.specs.Limits.{Limits}
use Rattle.std.specs.Prelude.{if◌then◌else◌}
use Rattle.chars.specs.Choice.{within, among, ascii}
use Rattle.chars.proofs.Cases.{either}
use Rattle.tokens.specs.Tokens.{Sort, simple, quoted, curly, Whole}
use Rattle.entities.specs.Entity.{Entity, size, bare, begin_group}
use Rattle.entities.specs.Making.{Reader, Judged, refuses, makes, within_groups, adds, group_begins, group_ends, element_ends}
use Rattle.entities.specs.Making.{counted, array_ends, named, word, regular, command, literal, closing, judged, judged_last}
use Rattle.entities.specs.Making.{Room, shortage, Handled, stops, holds, fitted, handled}
use Rattle.reading.specs.Reading.{text_of, string_of}

-- entities that all stand at one place
pub data All (place : ℕ) : List Entity → Type 0 where
  nothing : All place []
  also : (e : Entity) (es : List Entity) → e.place ≡ place → All place es → All place (e ∷ es)

all_append : (place : ℕ) (es more : List Entity) → All place es → All place more → All place (es ++ more)
all_append place es more nothing b = b
all_append place es more (also e es' is a) b = also e (es' ++ more) is (all_append place es' more a b)

-- what does not fit is 18 or 19
shortage_number :
    (n bytes : ℕ) (es : List Entity) → (shortage n bytes es ≡ 0 → ⊥)
    → (10 ≤ shortage n bytes es) × (shortage n bytes es ≤ 19)
unfolding shortage
shortage_number n bytes [] = λ z. absurd (z refl)
shortage_number n bytes (e ∷ es) =
    either (eqb n 0)
    (λ t. rw t (λ z. omega arith))
    (λ t. rw t (either (ltb bytes (size e))
    (λ u. rw u (λ z. omega arith))
    (λ u. rw u (shortage_number (n - 1) (bytes - size e) es))))

module _ (place : ℕ) where
  -- what a token is judged to be has the token's place
  data Here : Judged → Type 0 where
    no_more : (n : ℕ) → (10 ≤ n) × (n ≤ 17) → Here (refuses n)
    some : (es : List Entity) (r : Reader) → All place es → Here (makes es r)

  one : (e : Entity) → e.place ≡ place → All place (e ∷ [])
  one e is = also e [] is nothing

  either_way : (t : Bool) {x y : Judged} → Here x → Here y → Here (if t then x else y)
  either_way true a b = a
  either_way false a b = b

  group_ends_here : (groups : List ℕ) → Here (group_ends groups place)
  unfolding group_ends bare
  group_ends_here [] = no_more 14 (omega arith)
  group_ends_here (zero ∷ groups) = some _ _ (one _ refl)
  group_ends_here (suc n ∷ groups) = no_more 14 (omega arith)

  element_ends_here : (groups : List ℕ) → Here (element_ends groups place)
  unfolding element_ends bare
  element_ends_here [] = no_more 15 (omega arith)
  element_ends_here (zero ∷ groups) = no_more 15 (omega arith)
  element_ends_here (suc n ∷ groups) = some _ _ (also _ _ refl (one _ refl))

  array_ends_here : (opened : Bool) (groups : List ℕ) → Here (array_ends opened groups place)
  unfolding array_ends bare counted
  array_ends_here true groups = some _ _ (one _ refl)
  array_ends_here false [] = no_more 16 (omega arith)
  array_ends_here false (zero ∷ groups) = no_more 16 (omega arith)
  array_ends_here false (suc n ∷ groups) = some _ _ (also _ _ refl (one _ refl))

  word_here : (text : List ℕ) → (word place text).place ≡ place
  unfolding word named
  word_here text =
      let c = get_or text 0 0 in
      either (among c (ascii "+-") || within 0x30 0x39 c) (λ t. rw t)
      (λ t. rw t (either (eqb c 0x3F) (λ t. rw t)
      (λ t. rw t (either (eqb c 0x40) (λ t. rw t)
      (λ t. rw t (either (eqb c 0x3D) (λ t. rw t) (λ t. rw t (either (eqb c 0x3A) (λ t. rw t) (λ t. rw t)))))))))

  regular_here : (L : Limits) (r : Reader) (text : List ℕ) → Here (regular L r place text)
  unfolding regular group_begins adds bare
  regular_here L r text =
      let c = get_or text 0 0 in
      either_way (eqb c 0x25) (some _ _ (one _ refl))
      (either_way (eqb c 0x3B) (no_more 11 (omega arith))
      (either_way (eqb c 0x28)
      (either_way (ltb (length r.groups) L.groups) (some _ _ (one _ refl)) (no_more 17 (omega arith)))
      (either_way (eqb c 0x29) (group_ends_here r.groups)
      (either_way (eqb c 0x5B) (some _ _ nothing)
      (either_way (eqb c 0x2C) (element_ends_here r.groups)
      (either_way (eqb c 0x5D) (array_ends_here r.opened r.groups) (some _ _ (one _ (word_here text)))))))))

  command_here : (r : Reader) (text : List ℕ) → Here (command r place text)
  unfolding command adds bare named
  command_here r text =
      let c = get_or text 0 0 in
      either_way (eqb c 0x25) (no_more 10 (omega arith))
      (either_way (eqb c 0x3B) (some _ _ (one _ refl)) (some _ _ (one _ refl)))

  judged_here : (L : Limits) (sort : Sort) (r : Reader) (text string : List ℕ) → Here (judged L sort r place text string)
  unfolding judged literal adds
  judged_here L simple r text string = either_way r.metacommand (command_here r text) (regular_here L r text)
  judged_here L quoted r text string = some _ _ (one _ refl)
  judged_here L curly r text string = some _ _ (one _ refl)

  last_here : (r : Reader) → Here (judged_last r place)
  unfolding judged_last adds bare
  last_here r =
      either_way r.metacommand (no_more 12 (omega arith))
      (either_way (ltb 0 (length r.groups)) (no_more 13 (omega arith)) (some _ _ (one _ refl)))

  -- and so has what is held of it, or it is refused
  abbrev pub Held : Handled → Type 0
  Held (stops n) = (10 ≤ n) × (n ≤ 19)
  Held (holds es left r) = All place es

  fitted_held : (room : Room) (inserted : List Entity) (j : Judged) → All place inserted → Here j → Held (fitted room inserted j)
  unfolding fitted
  fitted_held room inserted j a (no_more n h) = (h.0, omega arith)
  fitted_held room inserted j a (some es r b) =
      let all = inserted ++ es in
      let short = shortage room.entities room.text all in
      either (eqb short 0)
      (λ t. rw t (all_append place inserted es a b))
      (λ t. rw t (shortage_number room.entities room.text all (eqb-false short 0 t)))

  handled_held :
      (L : Limits) (room : Room) (r : Reader) (closes : Bool) (judge : Reader → Judged) → ((r' : Reader) → Here (judge r'))
      → Held (handled L room r closes place judge)
  unfolding handled bare
  handled_held L room r closes judge f =
      either (r.opened && not closes)
      (λ t. rw t (either (ltb (length r.groups) L.groups)
      (λ u. rw u (either (eqb room.entities 0)
      (λ z. rw z (omega arith))
      (λ z. rw z (fitted_held room (bare begin_group place ∷ []) _ (one _ refl) (f (within_groups (1 ∷ r.groups)))))))
      (λ u. rw u (omega arith))))
      (λ t. rw t (fitted_held room [] _ nothing (f r)))

-- a token and `|;`, as they are handled
pub token_held :
    (L : Limits) (draft : List ℕ) (room : Room) (r : Reader) (w : Whole)
    → Held w.place
    (handled L room r (closing w.sort (text_of draft w)) w.place
    (λ r. judged L w.sort r w.place (text_of draft w) (string_of draft w)))
token_held L draft room r w =
    handled_held w.place L room r (closing w.sort (text_of draft w)) _
    (λ r. judged_here w.place L w.sort r (text_of draft w) (string_of draft w))

pub last_held :
    (L : Limits) (room : Room) (r : Reader) (place : ℕ) → Held place (handled L room r false place (λ r. judged_last r place))
last_held L room r place = handled_held place L room r false _ (last_here place)
