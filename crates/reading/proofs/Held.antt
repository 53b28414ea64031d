-- What is held fits the room. A token's entities are held only where none of them is short of room, and what they take is taken off the
-- room before the next token; the two buffers hold as many numbers and bytes as that counts.
use mathlib.Core.Bool.{Bool, false, not, ◌&&◌}
use mathlib.Core.List.{List, [], ◌∷◌, ◌++◌}
use Prim.Native.Nat.{ℕ, ◌+◌, ◌*◌, ◌≤◌}
use native.Mathlib.Omega.{arith}
use lib.Dec.{ltb, eqb}
use lib.ListN.{length, length-append}
use borrow.Author.Tests.{eqb-true}
use Rattle.chars.specs.Limits.{Limits}
use Rattle.chars.specs.Stream.{start, stream_at}
use Rattle.chars.proofs.Cases.{either}
use Rattle.tokens.specs.Tokens.{Tokens, token, last, refused, tokens, between}
use Rattle.entities.specs.Entity.{Entity, bare, sizes, texts, rows, begin_group}
use Rattle.entities.specs.Making.{Reader, fresh, closing, Judged, refuses, makes, judged, judged_last, within_groups}
use Rattle.entities.specs.Making.{Room, shortage, Handled, stops, holds, fitted, handled}
use Rattle.entities.proofs.Listing.{texts_length, rows_length, sizes_append}
use Rattle.entities.proofs.Shortages.{fits}
use Rattle.reading.specs.Reading.{Read, refusal, success, before, taken, text_of, string_of, entities, read_with}

-- entities of which none is short of room
pub record Fits (room : Room) (es : List Entity) : Type 0 where
  pub few : length es ≤ room.entities
  pub brief : sizes es ≤ room.text

-- what a token holds, and the room left behind it
abbrev Within : Room → Handled → Type 0
Within room (stops n) = Unit
Within room (holds es left r) = (length es + left.entities ≤ room.entities) × (sizes es + left.text ≤ room.text)

fitted_within : (room : Room) (inserted : List Entity) (j : Judged) → Within room (fitted room inserted j)
unfolding fitted
fitted_within room inserted (refuses n) = tt
fitted_within room inserted (makes es r) =
    let all = inserted ++ es in
    either (eqb (shortage room.entities room.text all) 0)
    (λ t.
    let fit = fits room.entities room.text all (eqb-true (shortage room.entities room.text all) 0 t) in
    rw t (omega arith, omega arith))
    (λ t. rw t tt)

handled_within :
    (L : Limits) (room : Room) (r : Reader) (closes : Bool) (place : ℕ) (judge : Reader → Judged)
    → Within room (handled L room r closes place judge)
unfolding handled
handled_within L room r closes place judge =
    either (r.opened && not closes)
    (λ t. rw t (either (ltb (length r.groups) L.groups)
    (λ u. rw u (either (eqb room.entities 0)
    (λ z. rw z tt)
    (λ z. rw z (fitted_within room (bare begin_group place ∷ []) (judge (within_groups (1 ∷ r.groups)))))))
    (λ u. rw u tt)))
    (λ t. rw t (fitted_within room [] (judge r)))

taken_fits :
    (room : Room) (place : ℕ) (h : Handled) (rest : Room → Reader → Read) → Within room h
    → ((left : Room) (r : Reader) → Fits left (rest left r).entities) → Fits room (taken place h rest).entities
unfolding taken refusal before sizes
taken_fits room place (stops n) rest w f = record { few = omega arith; brief = omega arith }
taken_fits room place (holds es left r) rest w f =
    let behind = f left r in
    let more = (rest left r).entities in
    record {
      few = omega (arith, length-append es more);
      brief = omega (arith, sizes_append es more);
    }

pub entities_fit :
    (L : Limits) (draft : List ℕ) (room : Room) (r : Reader) (ts : Tokens) → Fits room (entities L draft room r ts).entities
unfolding entities refusal success sizes
entities_fit L draft room r (refused number place) = record { few = omega arith; brief = omega arith }
entities_fit L draft room r (last place after) =
    taken_fits room place _ _ (handled_within L room r false place (λ r. judged_last r place))
    (λ left r. record { few = omega arith; brief = omega arith })
entities_fit L draft room r (token w rest) =
    taken_fits room w.place _ _
    (handled_within L room r (closing w.sort (text_of draft w)) w.place
    (λ r. judged L w.sort r w.place (text_of draft w) (string_of draft w)))
    (λ left r. entities_fit L draft left r rest)

pub read_fits : (L : Limits) (room : Room) (draft : List ℕ) → Fits room (read_with L room draft).entities
unfolding read_with refusal sizes
read_fits L room draft =
    either (ltb L.draft (length draft))
    (λ t. rw t (record { few = omega arith; brief = omega arith }))
    (λ t. rw t (entities_fit L draft room fresh (tokens L between (stream_at draft (start draft)))))

-- so the bytes of text held have room
pub texts_fit : (L : Limits) (room : Room) (draft : List ℕ) → length (texts (read_with L room draft).entities) ≤ room.text
texts_fit L room draft =
    let es = (read_with L room draft).entities in omega (arith, texts_length es, (read_fits L room draft).brief)

pub rows_fit :
    (L : Limits) (room : Room) (draft : List ℕ) → length (rows 0 (read_with L room draft).entities) ≤ 6 * room.entities
rows_fit L room draft =
    let es = (read_with L room draft).entities in omega (arith, rows_length 0 es, (read_fits L room draft).few)
