-- Two drafts that agree through an accepted `|;` are read alike, whatever follows: their tokens, with their bytes and data, are the same,
-- and a reading looks at nothing else of a draft.
use mathlib.Core.Path.{◌≡◌, refl, sym, ◌∙◌, ap}
use mathlib.Core.Bool.{true, true≢false}
use mathlib.Core.List.{List, [], ◌∷◌}
use Prim.Native.Nat.{ℕ, ◌/◌, ◌<◌, ◌≤◌}
use native.Mathlib.Omega.{arith}
use lib.Dec.{leb, ltb, eqb}
use lib.ListN.{length, get_or, take}
use lib.Seq.{get_or-take}
use borrow.Author.Tests.{leb-true, leb-false, le-ltb, eqb-true}
use Rattle.chars.specs.Limits.{Limits}
use Rattle.chars.specs.Choice.{same}
use Rattle.chars.specs.Stream.{start, stream_at, mark}
use Rattle.chars.proofs.Cases.{either, both, by_bound}
use Rattle.tokens.specs.Tokens.{Tokens, token, last, refused, tokens, between, step, begins, follows}
use Rattle.tokens.proofs.Agreed.{Ends, behind, Alike as TokensAlike, agreed}
use Rattle.tokens.proofs.Classes.{foreign}
use Rattle.tokens.proofs.Refused.{Numbered, numbered}
use Rattle.tokens.proofs.Skipping.{by_character, own_byte}
use Rattle.tokens.proofs.Spans.{fewer}
use Rattle.entities.specs.Making.{Reader, fresh, Room, Handled, stops, holds}
use Rattle.reading.specs.Reading.{Read, refusal, success, before, taken, text_of, string_of, entities, read_with}
use Rattle.reading.specs.Reading.{answered, room_of, reading}
use Rattle.reading.proofs.Alike.{Alike, reading_alike}
use Rattle.reading.proofs.Handled.{Held, token_held, last_held}

-- a token behind which a reading succeeds was held
goes_on :
    {P : Type 0} (place : ℕ) (h : Handled) (rest : Room → Reader → Read) (c : ℕ) → Held place h → (taken place h rest).number ≡ 0
    → (taken place h rest).consumed ≡ c
    → ((left : Room) (r : Reader) → (rest left r).number ≡ 0 → (rest left r).consumed ≡ c → P) → P
unfolding taken refusal before
goes_on place (stops n) rest c held z e f = absurd (omega arith)
goes_on place (holds es left r) rest c held z e f = f left r z e

-- the tokens of a reading that succeeds end by `|;`
ended :
    (L : Limits) (draft : List ℕ) (room : Room) (r : Reader) (ts : Tokens) (c : ℕ) → Numbered ts
    → (entities L draft room r ts).number ≡ 0 → (entities L draft room r ts).consumed ≡ c → Ends c ts
unfolding entities refusal success
ended L draft room r (refused number place) c n z e = absurd (omega arith)
ended L draft room r (last place after) c n z e =
    goes_on place _ _ c (last_held L room r place) z e (λ left r z e. e)
ended L draft room r (token w rest) c n z e =
    goes_on w.place _ _ c (token_held L draft room r w) z e (λ left r z e. ended L draft left r rest c n z e)

-- what is read behind a token alike is read alike
pub taken_same :
    (place : ℕ) (h : Handled) (f g : Room → Reader → Read) → ((left : Room) (r : Reader) → f left r ≡ g left r)
    → taken place h f ≡ taken place h g
unfolding taken
taken_same place (stops n) f g e = refl
taken_same place (holds es left r) f g e = ap (before es) (e left r)

entities_same :
    (L : Limits) (d e : List ℕ) (c : ℕ) (same : take c d ≡ take c e) (room : Room) (r : Reader) (ts : Tokens)
    → TokensAlike L d e c same ts → entities L e room r ts ≡ entities L d room r ts
unfolding entities text_of string_of
entities_same L d e c same room r (refused number place) a = refl
entities_same L d e c same room r (last place after) a = refl
entities_same L d e c same room r (token w rest) a =
    rw (a.0, a.1) (taken_same w.place _ _ _ (λ left r. entities_same L d e c same left r rest a.2))

-- A draft that begins with the first byte of a byte order mark, and is read from there on, has no token.
marked : (L : Limits) (c : ℕ) (draft : List ℕ) → get_or draft 0 0 ≡ 0xEF → Ends c (tokens L between (stream_at draft 0)) → ⊥
unfolding tokens step begins follows
marked L c draft first ends =
    by_character draft 0
    (λ number after is here.
    by_bound number 0x80
    (λ l. absurd (omega (arith, (own_byte draft 0 number after is l (λ z. omega arith)).1)))
    (λ g.
    let out = foreign number g in
    rw (here, out.no_white, out.no_remark, out.no_visible) at ends))
    (λ refusal place here. rw here at ends)

first_of_mark : (draft : List ℕ) → same (take 3 draft) mark ≡ true → get_or draft 0 0 ≡ 0xEF
first_of_mark [] t = absurd (true≢false (sym t))
first_of_mark (b ∷ bytes) t = eqb-true b 0xEF (both (eqb b 0xEF) _ t).0

by_start :
    {P : Type 0} (draft : List ℕ) → (same (take 3 draft) mark ≡ true → start draft ≡ 3 → P) → (start draft ≡ 0 → P) → P
unfolding start
by_start draft yes_way no_way = either (same (take 3 draft) mark) (λ t. yes_way t (rw t)) (λ t. no_way (rw t))

-- so both drafts begin alike
start_same :
    (L : Limits) (d e : List ℕ) (c : ℕ) → take c d ≡ take c e → Ends c (tokens L between (stream_at d (start d)))
    → start e ≡ start d
unfolding start
start_same L d e c alike ends =
    let past = behind L d c (length d) (start d) between (omega arith) tt ends in
    let h : 0 < c = omega arith in
    let first : get_or d 0 0 ≡ get_or e 0 0 =
    sym (get_or-take c d 0 0 h) ∙ ap (λ l. get_or l 0 0) alike ∙ get_or-take c e 0 0 h in
    either (leb 3 c)
    (λ t. rw (fewer d e 3 c (leb-true 3 c t) alike))
    (λ t.
    by_start d
    (λ m three. absurd (omega (arith, leb-false 3 c t)))
    (λ none.
    by_start e
    (λ m three. absurd (marked L c d (first ∙ first_of_mark e m) (rw none at ends)))
    (λ none'. none' ∙ sym none)))

module _ (L : Limits) (d e : List ℕ) (c : ℕ) (there : length e ≤ L.draft) (alike : take c d ≡ take c e) where
  pub through :
      (room : Room) → (read_with L room d).number ≡ 0 → (read_with L room d).consumed ≡ c → read_with L room e ≡ read_with L room d
  unfolding read_with refusal
  through room =
      either (ltb L.draft (length d))
      (λ t. rw t (λ z e. absurd (omega arith)))
      (λ t. rw (t, le-ltb L.draft (length e) there) (λ z is.
      let i = start d in
      let ends = ended L d room fresh (tokens L between (stream_at d i)) c (numbered L d i) z is in
      let both-same = agreed L d e c alike i ends in
      rw (start_same L d e c alike ends, both-same.0)
      (entities_same L d e c alike room fresh (tokens L between (stream_at d i)) both-same.1)))

  -- so with equal room the answer is the same, and both buffers hold the same
  pub read_through :
      (list text list' text' : List ℕ) → length list' / 6 ≡ length list / 6 → length text' ≡ length text
      → (reading L d list text).answer.number ≡ 0 → (reading L d list text).answer.consumed ≡ c
      → Alike (reading L d list text) (reading L e list' text')
  unfolding reading answered room_of
  read_through list text list' text' rooms long z is =
      reading_alike list text list' text' L d e (rw (rooms, long) (through (room_of list text) z is))
