-- Reading as `read_with` defines it, computed in one walk over the draft. The definition cuts each token's bytes from the draft's start;
-- here
-- the bytes from the last token on are carried along, and so is the draft's length. Long drafts are computed with it.
use mathlib.Core.Path.{◌≡◌, refl, ap}
use mathlib.Core.Bool.{true, false}
use mathlib.Core.List.{List}
use Prim.Native.Nat.{ℕ, ◌+◌, ◌-◌, min}
use native.Mathlib.Omega.{arith}
use lib.Dec.{leb, ltb}
use lib.ListN.{length, drop}
use lib.Seq.{drop-drop}
use borrow.Author.Tests.{leb-true}
use Rattle.chars.specs.Limits.{Limits}
use Rattle.std.specs.Prelude.{if◌then◌else◌}
use Rattle.chars.specs.Stream.{start, stream, stream_at, clean}
use Rattle.chars.proofs.Cases.{either}
use Rattle.tokens.specs.Tokens.{Tokens, token, last, refused, tokens, between}
use Rattle.entities.specs.Making.{Reader, fresh, closing, judged, judged_last, Room, handled}
use Rattle.reading.specs.Reading.{Read, refusal, success, taken, text_of, string_of, entities, read_with}
use Rattle.reading.specs.Reading.{Reading, answered, room_of, reading}
use Rattle.reading.proofs.Through.{taken_same}

-- the draft's bytes from a place on, given those from `p` on
unfoldable pub reached : (draft : List ℕ) → (p : ℕ) → (bytes : List ℕ) → (place : ℕ) → List ℕ
reached draft p bytes place = elim (leb p place) [ true ↦ drop (place - p) bytes | false ↦ drop place draft ]

-- `entities` of a draft of `n` bytes, given its bytes from `p` on
unfoldable pub entities_once :
    Limits → (draft : List ℕ) → (n p : ℕ) → (bytes : List ℕ) → Room → Reader → Tokens → Read
entities_once L draft n p bytes room r (refused number place) = refusal number place
entities_once L draft n p bytes room r (last place after) =
    taken place (handled L room r false place (λ r. judged_last r place)) (λ room r. success after)
entities_once L draft n p bytes room r (token w rest) =
    let here = reached draft p bytes w.place in
    let text = clean w.prefix (stream 0 (min w.place n) here) in
    taken w.place
    (handled L room r (closing w.sort text) w.place (λ r. judged L w.sort r w.place text
    (clean w.length (stream 0 (min w.from n) (reached draft w.place here w.from)))))
    (λ room r. entities_once L draft n w.place here room r rest)

unfoldable pub read_once : Limits → Room → (draft : List ℕ) → Read
read_once L room draft =
    if ltb L.draft (length draft) then refusal 1 0
    else entities_once L draft (length draft) 0 draft room fresh (tokens L between (stream_at draft (start draft)))

-- the call, by it
unfoldable pub reading_once : Limits → (draft list text : List ℕ) → Reading
reading_once L draft list text = answered list text (read_once L (room_of list text) draft)

module _ (L : Limits) (draft : List ℕ) where
  reached_is : (p place : ℕ) → reached draft p (drop p draft) place ≡ drop place draft
  unfolding reached
  reached_is p place =
      either (leb p place)
      (λ t.
      let h : p + (place - p) ≡ place = omega (arith, leb-true p place t) in
      rw (t, reached, drop-drop (place - p) p draft, h))
      (λ t. rw (t, reached))

  once : (p : ℕ) (room : Room) (r : Reader) (ts : Tokens)
      → entities_once L draft (length draft) p (drop p draft) room r ts ≡ entities L draft room r ts
  unfolding entities_once entities text_of string_of stream_at
  once p room r (refused number place) = refl
  once p room r (last place after) = refl
  once p room r (token w rest) =
      rw (reached_is p w.place, reached_is w.place w.from)
      (taken_same w.place _ _ _ (λ left r. once w.place left r rest))

-- it is what the definition says
pub read_once_lem : (L : Limits) (room : Room) (draft : List ℕ) → read_once L room draft ≡ read_with L room draft
unfolding read_once read_with
read_once_lem L room draft = ap (λ r. if ltb L.draft (length draft) then refusal 1 0 else r) (once L draft 0 room fresh _)

pub reading_once_lem : (L : Limits) (draft list text : List ℕ) → reading_once L draft list text ≡ reading L draft list text
unfolding reading_once reading
reading_once_lem L draft list text = ap (answered list text) (read_once_lem L (room_of list text) draft)

-- Naming `computes` on an `unfolding` line has all of this compute there.
unfoldable pub computes : Unit {0}
unfolding reached entities_once read_once reading_once
computes = tt
