-- A reading that succeeds gives entities that are well made. Reader and entities go together: the mode is metacommand where a metacommand
-- is open, and as many groups are open as have begun and not ended; `|;` is refused unless both are as at the start.
use mathlib.Core.Path.{◌≡◌, refl, sym, ◌∙◌}
use mathlib.Core.Bool.{Bool, true, false, not, ◌&&◌, ◌||◌}
use mathlib.Core.List.{List, [], ◌∷◌, ◌++◌, append_assoc}
use Prim.Native.Nat.{ℕ, zero, suc, ◌-◌, ◌<◌, ◌≤◌}
use native.Mathlib.Omega.{arith}
use lib.Dec.{ltb, eqb}
use lib.ListN.{length, get_or}
use borrow.Author.Tests.{ltb-true, ltb-false, lt-ltb, eqb-false}
use Rattle.chars.specs.Limits.{Limits}
use Rattle.std.specs.Prelude.{if◌then◌else◌}
use Rattle.chars.specs.Choice.{within, among, ascii}
use Rattle.chars.specs.Stream.{start, stream_at}
use Rattle.chars.proofs.Cases.{either, both}
use Rattle.tokens.specs.Tokens.{Sort, simple, quoted, curly, Tokens, token, last, refused, tokens, between}
use Rattle.tokens.proofs.Refused.{Numbered, numbered}
use Rattle.entities.specs.Entity.{Entity, kind_number, bare, begin_group, end-group}
use Rattle.entities.specs.Making.{Reader, fresh, Judged, refuses, makes, within_groups, adds, group_begins, group_ends, element_ends}
use Rattle.entities.specs.Making.{counted, array_ends, named, word, regular, command, string_kind, literal, closing, judged}
use Rattle.entities.specs.Making.{judged_last}
use Rattle.entities.specs.Making.{Room, shortage, Handled, stops, holds, fitted, handled}
use Rattle.reading.specs.Reading.{Read, refusal, success, before, taken, text_of, string_of, entities, read_with}
use Rattle.reading.specs.WellMade.{made, well_made}

module _ (L : Limits) where
  -- what holds of every reader that is met
  record Sane (r : Reader) : Type 0 where
    few : length r.groups ≤ L.groups
    regularly : r.opened ≡ true → r.metacommand ≡ false

  -- entities that are well made from what a reader has open on
  abbrev Made : Reader → List Entity → Type 0
  Made r es = made L.groups r.metacommand (length r.groups) es ≡ true

  -- What is made of a token, and then, by `K`, of what is behind it.
  module _ (K : Reader → List Entity → Type 0) where
    abbrev Leads : Reader → Judged → Type 0
    Leads r (refuses n) = 0 < n
    Leads r (makes es r') = (rest : List Entity) → K r' rest → Made r (es ++ rest)

    abbrev Holds : Reader → Handled → Type 0
    Holds r (stops n) = 0 < n
    Holds r (holds es left r') = (rest : List Entity) → K r' rest → Made r (es ++ rest)

    fitted_holds :
        (room : Room) (inserted : List Entity) (r r' : Reader) (j : Judged)
        → ((rest : List Entity) → Made r' rest → Made r (inserted ++ rest)) → Leads r' j → Holds r (fitted room inserted j)
    unfolding fitted
    fitted_holds room inserted r r' (refuses n) f g = g
    fitted_holds room inserted r r' (makes es r'') f g =
        let short = shortage room.entities room.text (inserted ++ es) in
        either (eqb short 0)
        (λ t. rw t (λ rest k. rw append_assoc (f (es ++ rest) (g rest k))))
        (λ t. rw t (omega (arith, eqb-false short 0 t)))

    handled_holds :
        (room : Room) (r : Reader) (closes : Bool) (place : ℕ) (judge : Reader → Judged) → Sane r
        → ((r' : Reader) → Sane r' → Leads r' (judge r')) → Holds r (handled L room r closes place judge)
    unfolding handled made kind_number bare within_groups
    handled_holds room r closes place judge s f =
        either (r.opened && not closes)
        (λ t. rw t (either (ltb (length r.groups) L.groups)
        (λ u. rw u (either (eqb room.entities 0)
        (λ z. rw z (omega arith))
        (λ z. rw z (fitted_holds room (bare begin_group place ∷ []) r (within_groups (1 ∷ r.groups))
        (judge (within_groups (1 ∷ r.groups)))
        (λ rest m. rw (s.regularly (both r.opened (not closes) t).0, u) m)
        (f (within_groups (1 ∷ r.groups))
        (record { few = ltb-true (length r.groups) L.groups u; regularly = λ e. refl }))))))
        (λ u. rw u (omega arith))))
        (λ t. rw t (fitted_holds room [] r r (judge r) (λ rest m. m) (f r s)))

    taken_made :
        (r : Reader) (place : ℕ) (h : Handled) (rest : Room → Reader → Read) → Holds r h
        → ((left : Room) (r' : Reader) → (rest left r').number ≡ 0 → K r' (rest left r').entities)
        → (taken place h rest).number ≡ 0 → Made r (taken place h rest).entities
    unfolding taken refusal before
    taken_made r place (stops n) rest m f z = absurd (omega arith)
    taken_made r place (holds es left r') rest m f z = m (rest left r').entities (f left r' z)

  -- behind a token its reader goes on
  abbrev On : Reader → List Entity → Type 0
  On r es = Sane r → Made r es

  -- behind `|;` nothing does
  abbrev Over : Reader → List Entity → Type 0
  Over r es = es ≡ []

  -- an entity of kinds 8 to 16, which leaves what is open as it is
  record Plain (e : Entity) : Type 0 where
    passes : (depth : ℕ) (rest : List Entity) → made L.groups false depth (e ∷ rest) ≡ made L.groups false depth rest

  either_way : (t : Bool) {x y : Entity} → Plain x → Plain y → Plain (if t then x else y)
  either_way true a b = a
  either_way false a b = b

  word_plain : (place : ℕ) (text : List ℕ) → Plain (word place text)
  unfolding word named made kind_number
  word_plain place text =
      let c = get_or text 0 0 in
      either_way (among c (ascii "+-") || within 0x30 0x39 c) (record { passes = λ depth rest. refl })
      (either_way (eqb c 0x3F) (record { passes = λ depth rest. refl })
      (either_way (eqb c 0x40) (record { passes = λ depth rest. refl })
      (either_way (eqb c 0x3D) (record { passes = λ depth rest. refl })
      (either_way (eqb c 0x3A) (record { passes = λ depth rest. refl }) (record { passes = λ depth rest. refl })))))

  literal_passes :
      (metacommand : Bool) (sort : Sort) (place : ℕ) (text string : List ℕ) (depth : ℕ) (rest : List Entity)
      → made L.groups metacommand depth
      (record { kind = string_kind metacommand sort; place = place; text = text; string = string; count = 0 } ∷ rest)
      ≡ made L.groups metacommand depth rest
  unfolding made kind_number string_kind
  literal_passes true simple place text string depth rest = refl
  literal_passes true quoted place text string depth rest = refl
  literal_passes true curly place text string depth rest = refl
  literal_passes false simple place text string depth rest = refl
  literal_passes false quoted place text string depth rest = refl
  literal_passes false curly place text string depth rest = refl

  literal_leads : (sort : Sort) (r : Reader) (place : ℕ) (text string : List ℕ) → Sane r → Leads On r (literal sort r place text string)
  unfolding literal adds
  literal_leads sort r place text string s rest k =
      literal_passes r.metacommand sort place text string (length r.groups) rest ∙ k s

  -- the same groups open, or others, in regular mode
  regular_sane : (groups : List ℕ) → length groups ≤ L.groups → Sane (within_groups groups)
  unfolding within_groups
  regular_sane groups h = record { few = h; regularly = λ e. refl }

  -- in regular mode, with these groups open
  abbrev From : List ℕ → Judged → Type 0
  From groups (refuses n) = 0 < n
  From groups (makes es r') = (rest : List Entity) → On r' rest → made L.groups false (length groups) (es ++ rest) ≡ true

  group_begins_from : (r : Reader) (place : ℕ) → From r.groups (group_begins L r place)
  unfolding group_begins made kind_number bare within_groups
  group_begins_from r place =
      either (ltb (length r.groups) L.groups)
      (λ t. rw t (λ rest k. rw t (k (regular_sane (0 ∷ r.groups) (ltb-true (length r.groups) L.groups t)))))
      (λ t. rw t (omega arith))

  ended :
      (depth place : ℕ) (rest : List Entity)
      → made L.groups false (suc depth) (bare end-group place ∷ rest) ≡ made L.groups false depth rest
  unfolding made kind_number bare
  ended depth place rest =
      let less : suc depth - 1 ≡ depth = omega arith in rw (lt-ltb 0 (suc depth) (omega arith), less)

  group_ends_from : (groups : List ℕ) (place : ℕ) → length groups ≤ L.groups → From groups (group_ends groups place)
  unfolding group_ends made kind_number bare within_groups
  group_ends_from [] place h = omega arith
  group_ends_from (zero ∷ groups) place h = λ rest k. ended (length groups) place rest ∙ k (regular_sane groups (omega arith))
  group_ends_from (suc n ∷ groups) place h = omega arith

  element_ends_from : (groups : List ℕ) (place : ℕ) → length groups ≤ L.groups → From groups (element_ends groups place)
  unfolding element_ends made kind_number bare within_groups
  element_ends_from [] place h = omega arith
  element_ends_from (zero ∷ groups) place h = omega arith
  element_ends_from (suc n ∷ groups) place h =
      λ rest k.
      ended (length groups) place (bare begin_group place ∷ rest)
      ∙ rw (lt-ltb (length groups) L.groups h) (k (regular_sane (suc (suc n) ∷ groups) h))

  array_ends_from :
      (opened : Bool) (groups : List ℕ) (place : ℕ) → length groups ≤ L.groups → From groups (array_ends opened groups place)
  unfolding array_ends made kind_number bare counted within_groups
  array_ends_from true groups place h = λ rest k. k (regular_sane groups h)
  array_ends_from false [] place h = omega arith
  array_ends_from false (zero ∷ groups) place h = omega arith
  array_ends_from false (suc n ∷ groups) place h =
      λ rest k. ended (length groups) place (counted place (suc n) ∷ rest) ∙ k (regular_sane groups (omega arith))

  regular_from : (r : Reader) (place : ℕ) (text : List ℕ) → Sane r → r.metacommand ≡ false → From r.groups (regular L r place text)
  unfolding regular made kind_number bare adds
  regular_from r place text s m =
      let c = get_or text 0 0 in
      either (eqb c 0x25) (λ t. rw t (λ rest k. k (record { few = s.few; regularly = λ e. sym e })))
      (λ t. rw t (either (eqb c 0x3B) (λ t. rw t (omega arith))
      (λ t. rw t (either (eqb c 0x28) (λ t. rw t (group_begins_from r place))
      (λ t. rw t (either (eqb c 0x29) (λ t. rw t (group_ends_from r.groups place s.few))
      (λ t. rw t (either (eqb c 0x5B) (λ t. rw t (λ rest k. k (record { few = s.few; regularly = λ e. refl })))
      (λ t. rw t (either (eqb c 0x2C) (λ t. rw t (element_ends_from r.groups place s.few))
      (λ t. rw t (either (eqb c 0x5D) (λ t. rw t (array_ends_from r.opened r.groups place s.few))
      (λ t. rw t (λ rest k. (word_plain place text).passes (length r.groups) rest ∙ rw m at (k s)))))))))))))))

  from_leads : (r : Reader) (j : Judged) → r.metacommand ≡ false → From r.groups j → Leads On r j
  from_leads r (refuses n) m f = f
  from_leads r (makes es r') m f = λ rest k. rw m (f rest k)

  command_leads : (r : Reader) (place : ℕ) (text : List ℕ) → Sane r → r.metacommand ≡ true → Leads On r (command r place text)
  unfolding command made kind_number bare adds named within_groups
  command_leads r place text s m =
      let c = get_or text 0 0 in
      either (eqb c 0x25) (λ t. rw t (omega arith))
      (λ t. rw t (either (eqb c 0x3B)
      (λ t. rw t (λ rest k. rw m (k (regular_sane r.groups s.few))))
      (λ t. rw t (λ rest k. rw m (rw m at (k s))))))

  by_mode :
      (r : Reader) (t : Bool) (x y : Judged) → (t ≡ true → Leads On r x) → (t ≡ false → Leads On r y)
      → Leads On r (if t then x else y)
  by_mode r true x y a b = a refl
  by_mode r false x y a b = b refl

  judged_leads :
      (sort : Sort) (r : Reader) (place : ℕ) (text string : List ℕ) → Sane r → Leads On r (judged L sort r place text string)
  unfolding judged
  judged_leads simple r place text string s =
      by_mode r r.metacommand (command r place text) (regular L r place text)
      (λ t. command_leads r place text s t)
      (λ t. from_leads r (regular L r place text) t (regular_from r place text s t))
  judged_leads quoted r place text string s = literal_leads quoted r place text string s
  judged_leads curly r place text string s = literal_leads curly r place text string s

  last_leads : (r : Reader) (place : ℕ) → Leads Over r (judged_last r place)
  unfolding judged_last made kind_number bare adds
  last_leads r place =
      either r.metacommand
      (λ t. rw t (omega arith))
      (λ t. rw t (either (ltb 0 (length r.groups))
      (λ u. rw u (omega arith))
      (λ u. rw u (λ rest k. let none : length r.groups ≡ 0 = omega (arith, ltb-false 0 (length r.groups) u) in rw (none, k)))))

  entities_made :
      (draft : List ℕ) (room : Room) (r : Reader) (ts : Tokens) → Sane r → Numbered ts
      → (entities L draft room r ts).number ≡ 0 → Made r (entities L draft room r ts).entities
  unfolding entities refusal success
  entities_made draft room r (refused number place) s n z = absurd (omega arith)
  entities_made draft room r (last place after) s n z =
      taken_made Over r place _ _
      (handled_holds Over room r false place (λ r. judged_last r place) s (λ r s. last_leads r place))
      (λ left r z. refl) z
  entities_made draft room r (token w rest) s n z =
      taken_made On r w.place _ _
      (handled_holds On room r (closing w.sort (text_of draft w)) w.place
      (λ r. judged L w.sort r w.place (text_of draft w) (string_of draft w)) s
      (λ r s. judged_leads w.sort r w.place (text_of draft w) (string_of draft w) s))
      (λ left r z s. entities_made draft left r rest s n z) z

  pub closed : (room : Room) (draft : List ℕ) → (read_with L room draft).number ≡ 0 → well_made L (read_with L room draft).entities ≡ true
  unfolding read_with well_made refusal
  closed room draft =
      either (ltb L.draft (length draft))
      (λ t. rw t (λ z. absurd (omega arith)))
      (λ t. rw t (λ z. entities_made draft room fresh (tokens L between (stream_at draft (start draft)))
      (record { few = omega arith; regularly = λ e. refl }) (numbered L draft (start draft)) z))
