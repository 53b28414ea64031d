-- More room changes nothing but refusals for want of it, 18 and 19. What a token comes to asks the room only whether its entities fit, and
-- what fits a room fits a larger one and leaves no less of it; every other refusal is given without a look at the room.
use mathlib.Core.Path.{◌≡◌, refl, ap}
use mathlib.Core.Bool.{Bool, false, not, ◌&&◌}
use mathlib.Core.List.{List, [], ◌∷◌, ◌++◌}
use Prim.Native.Nat.{ℕ, ◌-◌, ◌/◌, ◌≤◌}
use native.Mathlib.Omega.{arith}
use lib.Dec.{ltb, eqb}
use lib.ListN.{length}
use borrow.Author.Tests.{eq-eqb, ne_eqb, le-ltb, ltb-false, eqb-true, eqb-false}
use Rattle.chars.specs.Limits.{Limits}
use Rattle.chars.specs.Stream.{start, stream_at}
use Rattle.chars.proofs.Cases.{either}
use Rattle.tokens.specs.Tokens.{Tokens, token, last, refused, tokens, between}
use Rattle.entities.specs.Entity.{Entity, bare, size, sizes, begin_group}
use Rattle.entities.specs.Making.{Reader, fresh, closing, Judged, refuses, makes, judged, judged_last, within_groups}
use Rattle.entities.specs.Making.{Room, shortage, Handled, stops, holds, fitted, handled}
use Rattle.reading.specs.Reading.{Read, refusal, before, taken, success, text_of, string_of, entities, read_with}
use Rattle.reading.specs.Reading.{answered, room_of, reading}
use Rattle.reading.proofs.Alike.{Alike, reading_alike}

-- a number that tells of no want of room
pub record Other (n : ℕ) : Type 0 where
  pub no_list : n ≡ 18 → ⊥
  pub no_text : n ≡ 19 → ⊥

-- a room and one that is no smaller
pub record Roomier (room room' : Room) : Type 0 where
  pub more : room.entities ≤ room'.entities
  pub longer : room.text ≤ room'.text

-- what fits a room fits a larger one
still_none :
    (E T E' T' : ℕ) (es : List Entity) → E ≤ E' → T ≤ T' → shortage E T es ≡ 0 → shortage E' T' es ≡ 0
unfolding shortage
still_none E T E' T' [] a b = λ z. refl
still_none E T E' T' (e ∷ es) a b =
    either (eqb E 0)
    (λ t. rw t (λ z. absurd (omega arith)))
    (λ t. rw (t, ne_eqb E' 0 (λ z. omega (arith, eqb-false E 0 t)))
    (either (ltb T (size e))
    (λ u. rw u (λ z. absurd (omega arith)))
    (λ u. rw (u, le-ltb T' (size e) (omega (arith, ltb-false T (size e) u)))
    (still_none (E - 1) (T - size e) (E' - 1) (T' - size e) es (omega arith) (omega arith)))))

-- what does not fit is 18 or 19
wanting : (E T : ℕ) (es : List Entity) → (shortage E T es ≡ 0 → ⊥) → Other (shortage E T es) → ⊥
unfolding shortage
wanting E T [] = λ z o. z refl
wanting E T (e ∷ es) =
    either (eqb E 0)
    (λ t. rw t (λ z o. o.no_list refl))
    (λ t. rw t (either (ltb T (size e))
    (λ u. rw u (λ z o. o.no_text refl))
    (λ u. rw u (wanting (E - 1) (T - size e) es))))

-- what a token comes to in a room, and in a larger one
data Grown : Handled → Handled → Type 0 where
  short : (n : ℕ) (h : Handled) → (Other n → ⊥) → Grown (stops n) h
  alike : (n : ℕ) → Grown (stops n) (stops n)
  roomier : (es : List Entity) (left left' : Room) (r : Reader) → Roomier left left' → Grown (holds es left r) (holds es left' r)

-- the room that entities leave
abbrev less : Room → List Entity → Room
less room es = record { entities = room.entities - length es; text = room.text - sizes es }

module _ (room room' : Room) (m : Roomier room room') where
  less_roomier : (es : List Entity) → Roomier (less room es) (less room' es)
  less_roomier es =
      let a = m.more in
      let b = m.longer in
      record { more = omega arith; longer = omega arith }

  fitted_grown : (inserted : List Entity) (j : Judged) → Grown (fitted room inserted j) (fitted room' inserted j)
  unfolding fitted
  fitted_grown inserted (refuses n) = alike n
  fitted_grown inserted (makes es r) =
      let all = inserted ++ es in
      let wants = shortage room.entities room.text all in
      either (eqb wants 0)
      (λ t.
      let none = still_none room.entities room.text room'.entities room'.text all m.more m.longer (eqb-true wants 0 t) in
      rw (t, eq-eqb (shortage room'.entities room'.text all) 0 none)
      (roomier all (less room all) (less room' all) r (less_roomier all)))
      (λ t. rw t (short wants _ (wanting room.entities room.text all (eqb-false wants 0 t))))

  handled_grown :
      (L : Limits) (r : Reader) (closes : Bool) (place : ℕ) (judge : Reader → Judged)
      → Grown (handled L room r closes place judge) (handled L room' r closes place judge)
  unfolding handled
  handled_grown L r closes place judge =
      either (r.opened && not closes)
      (λ t. rw t (either (ltb (length r.groups) L.groups)
      (λ u. rw u (either (eqb room.entities 0)
      (λ z. rw z (short 18 _ (λ o. o.no_list refl)))
      (λ z. rw (z, ne_eqb room'.entities 0 (λ e. omega (arith, m.more, eqb-false room.entities 0 z)))
      (fitted_grown (bare begin_group place ∷ []) (judge (within_groups (1 ∷ r.groups)))))))
      (λ u. rw u (alike 17))))
      (λ t. rw t (fitted_grown [] (judge r)))

-- what is read behind a token alike is read alike with it
taken_grown :
    (place : ℕ) (h h' : Handled) (rest : Room → Reader → Read) → Grown h h'
    → ((left left' : Room) (r : Reader) → Roomier left left' → Other (rest left r).number → rest left' r ≡ rest left r)
    → Other (taken place h rest).number → taken place h' rest ≡ taken place h rest
unfolding taken refusal before
taken_grown place h h' rest (short n _ never) f o = absurd (never o)
taken_grown place h h' rest (alike n) f o = refl
taken_grown place h h' rest (roomier es left left' r m) f o = ap (before es) (f left left' r m o)

entities_grown :
    (L : Limits) (draft : List ℕ) (room room' : Room) (r : Reader) (ts : Tokens) → Roomier room room'
    → Other (entities L draft room r ts).number → entities L draft room' r ts ≡ entities L draft room r ts
unfolding entities
entities_grown L draft room room' r (refused number place) m o = refl
entities_grown L draft room room' r (last place after) m o =
    taken_grown place _ _ (λ room r. success after)
    (handled_grown room room' m L r false place (λ r. judged_last r place)) (λ left left' r m o. refl) o
entities_grown L draft room room' r (token w rest) m o =
    taken_grown w.place _ _ (λ room r. entities L draft room r rest)
    (handled_grown room room' m L r (closing w.sort (text_of draft w)) w.place
    (λ r. judged L w.sort r w.place (text_of draft w) (string_of draft w)))
    (λ left left' r m o. entities_grown L draft left left' r rest m o) o

-- a reading that was not refused for want of room is the same with more
pub read_roomier :
    (L : Limits) (draft : List ℕ) (room room' : Room) → Roomier room room' → Other (read_with L room draft).number
    → read_with L room' draft ≡ read_with L room draft
unfolding read_with
read_roomier L draft room room' m =
    either (ltb L.draft (length draft))
    (λ t. rw t (λ o. refl))
    (λ t. rw t (entities_grown L draft room room' fresh (tokens L between (stream_at draft (start draft))) m))

-- so the call, with larger buffers, has the same answer, and holds the same
module _ (L : Limits) (draft list text list' text' : List ℕ) (more : length list / 6 ≤ length list' / 6)
    (longer : length text ≤ length text') where
  pub reading_roomier :
      Other (reading L draft list text).answer.number → Alike (reading L draft list text) (reading L draft list' text')
  unfolding reading answered room_of
  reading_roomier o =
      reading_alike list text list' text' L draft draft
      (read_roomier L draft (room_of list text) (room_of list' text') (record { more = more; longer = longer }) o)
