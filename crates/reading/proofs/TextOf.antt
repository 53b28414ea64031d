-- What holds of every token's text, of that without its first byte and of its data, and of nothing, holds of all text and data of the
-- entities: an entity has its token's text, or that without its first byte, or none, and its token's data or none.
use mathlib.Core.Path.{◌≡◌, refl, sym, subst}
use mathlib.Core.Bool.{Bool, true, false, not, ◌&&◌, ◌||◌}
use mathlib.Core.List.{List, [], ◌∷◌, ◌++◌, tail}
use Prim.Native.Nat.{ℕ, zero, suc}
use lib.Dec.{ltb, eqb}
use lib.ListN.{length, get_or}
use Rattle.chars.specs.Limits.{Limits}
use Rattle.std.specs.Prelude.{if◌then◌else◌}
use Rattle.chars.specs.Choice.{within, among, ascii}
use Rattle.chars.proofs.Cases.{either}
use Rattle.tokens.specs.Tokens.{Sort, simple, quoted, curly, Tokens, token, last, refused}
use Rattle.entities.specs.Entity.{Entity, bare, begin_group}
use Rattle.entities.specs.Making.{Reader, Judged, refuses, makes, within_groups, adds, group_begins, group_ends, element_ends}
use Rattle.entities.specs.Making.{counted, array_ends, named, word, regular, command, literal, closing, judged, judged_last}
use Rattle.entities.specs.Making.{Room, shortage, Handled, stops, holds, fitted, handled}
use Rattle.reading.specs.Reading.{Read, refusal, success, before, taken, text_of, string_of, entities}

module _ (P Q : List ℕ → Type 0) where
  -- entities of which all text is P and all data is Q
  pub record Fine (e : Entity) : Type 0 where
    pub text : P e.text
    pub string : Q e.string

  pub data Every : List Entity → Type 0 where
    nothing : Every []
    also : (e : Entity) (es : List Entity) → Fine e → Every es → Every (e ∷ es)

  every_append : (es others : List Entity) → Every es → Every others → Every (es ++ others)
  every_append es others nothing b = b
  every_append es others (also e es' f a) b = also e (es' ++ others) f (every_append es' others a b)

  one_entity : (e : Entity) → Fine e → Every (e ∷ [])
  one_entity e f = also e [] f nothing

  -- tokens of which as much holds
  abbrev pub Clear : (draft : List ℕ) → Tokens → Type 0
  Clear draft (token w rest) = P (text_of draft w) × P (tail (text_of draft w)) × Q (string_of draft w) × Clear draft rest
  Clear draft (last place after) = Unit
  Clear draft (refused number place) = Unit

  module _ (no_text : P []) (no-string : Q []) where
    bare_fine : {e : Entity} → e.text ≡ [] → e.string ≡ [] → Fine e
    bare_fine t s = record { text = subst P (sym t) no_text; string = subst Q (sym s) no-string }

    -- what a token is judged to be
    data Made : Judged → Type 0 where
      no_more : (n : ℕ) → Made (refuses n)
      some : (es : List Entity) (r : Reader) → Every es → Made (makes es r)

    either_way : (t : Bool) {x y : Judged} → Made x → Made y → Made (if t then x else y)
    either_way true a b = a
    either_way false a b = b

    either_entity : (t : Bool) {x y : Entity} → Fine x → Fine y → Fine (if t then x else y)
    either_entity true a b = a
    either_entity false a b = b

    module _ (place : ℕ) where
      group-ends-made : (groups : List ℕ) → Made (group_ends groups place)
      unfolding group_ends bare
      group-ends-made [] = no_more 14
      group-ends-made (zero ∷ groups) = some _ _ (one_entity _ (bare_fine refl refl))
      group-ends-made (suc n ∷ groups) = no_more 14

      element-ends-made : (groups : List ℕ) → Made (element_ends groups place)
      unfolding element_ends bare
      element-ends-made [] = no_more 15
      element-ends-made (zero ∷ groups) = no_more 15
      element-ends-made (suc n ∷ groups) = some _ _ (also _ _ (bare_fine refl refl) (one_entity _ (bare_fine refl refl)))

      array-ends-made : (opened : Bool) (groups : List ℕ) → Made (array_ends opened groups place)
      unfolding array_ends bare counted
      array-ends-made true groups = some _ _ (one_entity _ (bare_fine refl refl))
      array-ends-made false [] = no_more 16
      array-ends-made false (zero ∷ groups) = no_more 16
      array-ends-made false (suc n ∷ groups) = some _ _ (also _ _ (bare_fine refl refl) (one_entity _ (bare_fine refl refl)))

      module _ (text : List ℕ) (whole : P text) (but_first : P (tail text)) where
        word-fine : Fine (word place text)
        unfolding word named
        word-fine =
            let c = get_or text 0 0 in
            either_entity (among c (ascii "+-") || within 0x30 0x39 c) (record { text = whole; string = no-string })
            (either_entity (eqb c 0x3F) (record { text = but_first; string = no-string })
            (either_entity (eqb c 0x40) (record { text = but_first; string = no-string })
            (either_entity (eqb c 0x3D) (record { text = but_first; string = no-string })
            (either_entity (eqb c 0x3A) (record { text = but_first; string = no-string }) (record { text = whole; string = no-string })))))

        regular-made : (L : Limits) (r : Reader) → Made (regular L r place text)
        unfolding regular group_begins adds bare
        regular-made L r =
            let c = get_or text 0 0 in
            either_way (eqb c 0x25) (some _ _ (one_entity _ (bare_fine refl refl)))
            (either_way (eqb c 0x3B) (no_more 11)
            (either_way (eqb c 0x28)
            (either_way (ltb (length r.groups) L.groups) (some _ _ (one_entity _ (bare_fine refl refl))) (no_more 17))
            (either_way (eqb c 0x29) (group-ends-made r.groups)
            (either_way (eqb c 0x5B) (some _ _ nothing)
            (either_way (eqb c 0x2C) (element-ends-made r.groups)
            (either_way (eqb c 0x5D) (array-ends-made r.opened r.groups) (some _ _ (one_entity _ word-fine))))))))

        command-made : (r : Reader) → Made (command r place text)
        unfolding command adds bare named
        command-made r =
            let c = get_or text 0 0 in
            either_way (eqb c 0x25) (no_more 10)
            (either_way (eqb c 0x3B) (some _ _ (one_entity _ (bare_fine refl refl)))
            (some _ _ (one_entity _ (record { text = whole; string = no-string }))))

        judged-made :
            (L : Limits) (sort : Sort) (r : Reader) (string : List ℕ) → Q string → Made (judged L sort r place text string)
        unfolding judged literal adds
        judged-made L simple r string s = either_way r.metacommand (command-made r) (regular-made L r)
        judged-made L quoted r string s = some _ _ (one_entity _ (record { text = whole; string = s }))
        judged-made L curly r string s = some _ _ (one_entity _ (record { text = whole; string = s }))

      last_made : (r : Reader) → Made (judged_last r place)
      unfolding judged_last adds bare
      last_made r =
          either_way r.metacommand (no_more 12)
          (either_way (ltb 0 (length r.groups)) (no_more 13) (some _ _ (one_entity _ (bare_fine refl refl))))

    -- and what is held of it
    abbrev Keeps : Handled → Type 0
    Keeps (stops n) = Unit
    Keeps (holds es left r) = Every es

    fitted_keeps : (room : Room) (inserted : List Entity) (j : Judged) → Every inserted → Made j → Keeps (fitted room inserted j)
    unfolding fitted
    fitted_keeps room inserted j a (no_more n) = tt
    fitted_keeps room inserted j a (some es r b) =
        either (eqb (shortage room.entities room.text (inserted ++ es)) 0)
        (λ t. rw t (every_append inserted es a b))
        (λ t. rw t tt)

    handled_keeps :
        (L : Limits) (room : Room) (r : Reader) (closes : Bool) (place : ℕ) (judge : Reader → Judged) → ((r' : Reader) → Made (judge r'))
        → Keeps (handled L room r closes place judge)
    unfolding handled bare
    handled_keeps L room r closes place judge f =
        either (r.opened && not closes)
        (λ t. rw t (either (ltb (length r.groups) L.groups)
        (λ u. rw u (either (eqb room.entities 0)
        (λ z. rw z tt)
        (λ z.
        rw z (fitted_keeps room (bare begin_group place ∷ []) _ (one_entity _ (bare_fine refl refl)) (f (within_groups (1 ∷ r.groups)))))))
        (λ u. rw u tt)))
        (λ t. rw t (fitted_keeps room [] _ nothing (f r)))

    taken_keeps :
        (place : ℕ) (h : Handled) (rest : Room → Reader → Read) → Keeps h
        → ((left : Room) (r : Reader) → Every (rest left r).entities) → Every (taken place h rest).entities
    unfolding taken refusal before
    taken_keeps place (stops n) rest w f = nothing
    taken_keeps place (holds es left r) rest w f = every_append es _ w (f left r)

    pub all_clear :
        (L : Limits) (draft : List ℕ) (room : Room) (r : Reader) (ts : Tokens) → Clear draft ts
        → Every (entities L draft room r ts).entities
    unfolding entities refusal success
    all_clear L draft room r (refused number place) c = nothing
    all_clear L draft room r (last place after) c =
        taken_keeps place _ _ (handled_keeps L room r false place _ (last_made place)) (λ left r. nothing)
    all_clear L draft room r (token w rest) c =
        taken_keeps w.place _ _
        (handled_keeps L room r (closing w.sort (text_of draft w)) w.place _
        (λ r. judged-made w.place (text_of draft w) c.0 c.1 L w.sort r (string_of draft w) c.2))
        (λ left r. all_clear L draft left r rest c.3)
