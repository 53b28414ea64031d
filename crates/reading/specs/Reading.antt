-- Reading: from a draft and two lent buffers to one answer and the buffers' later contents (document 01).
use Rattle.std.specs.Prelude.{ℕ, ◌*◌, ◌/◌, false, List, [], ◌++◌, ltb, length, drop, if◌then◌else◌}
use Rattle.chars.specs.Limits.{Limits}
use Rattle.chars.specs.Stream.{start, stream_at, clean}
use Rattle.tokens.specs.Tokens.{Whole, Tokens, token, last, refused, tokens, between}
use Rattle.entities.specs.Entity.{Entity, sizes, texts, rows}
use Rattle.entities.specs.Making.{Reader, fresh, closing, judged, judged_last, Room, Handled, stops, holds, handled}
use Rattle.reading.specs.declared.Answer.{Answer}

-- What was read: the entities held, and then the byte after `;`, or a refusal with its place.
pub record Read : Type 0 where
  pub number : ℕ
  pub place : ℕ
  pub consumed : ℕ
  pub entities : List Entity

unfoldable pub refusal : (number place : ℕ) → Read
refusal number place = record { number = number; place = place; consumed = 0; entities = [] }

unfoldable pub success : (consumed : ℕ) → Read
success consumed = record { number = 0; place = 0; consumed = consumed; entities = [] }

-- entities before what was read behind them
unfoldable pub before : List Entity → Read → Read
before es r = record { number = r.number; place = r.place; consumed = r.consumed; entities = es ++ r.entities }

-- what a token at `place` came to, and what is read behind it
unfoldable pub taken : (place : ℕ) → Handled → (Room → Reader → Read) → Read
taken place (stops number) rest = refusal number place
taken place (holds es room r) rest = before es (rest room r)

-- a token's own bytes: of a simple token all, of a string token its prefix
unfoldable pub text_of : (draft : List ℕ) → Whole → List ℕ
text_of draft w = clean w.prefix (stream_at draft w.place)

-- a string token's clean data
unfoldable pub string_of : (draft : List ℕ) → Whole → List ℕ
string_of draft w = clean w.length (stream_at draft w.from)

-- the entities of a draft's tokens
unfoldable pub entities : Limits → (draft : List ℕ) → Room → Reader → Tokens → Read
entities L draft room r (refused number place) = refusal number place
entities L draft room r (last place after) =
    taken place (handled L room r false place (λ r. judged_last r place)) (λ room r. success after)
entities L draft room r (token w rest) =
    let text = text_of draft w in
    taken w.place
    (handled L room r (closing w.sort text) w.place (λ r. judged L w.sort r w.place text (string_of draft w)))
    (λ room r. entities L draft room r rest)

-- a draft read with room for so many entities and so many bytes of text: 1, then by place
unfoldable pub read_with : Limits → Room → (draft : List ℕ) → Read
read_with L room draft =
    if ltb L.draft (length draft) then refusal 1 0
    else entities L draft room fresh (tokens L between (stream_at draft (start draft)))

-- The answer, and what the list and the text buffer hold afterwards: past what is held every number and byte is as before.
pub record Reading : Type 0 where
  pub answer : Answer
  pub list : List ℕ
  pub text : List ℕ

unfoldable pub answered : (list text : List ℕ) → Read → Reading
answered list text r =
    record {
      answer = record {
        number = r.number;
        place = r.place;
        entities = length r.entities;
        text = sizes r.entities;
        consumed = r.consumed;
        steps = 0;
        cells = 0;
      };
      list = rows 0 r.entities ++ drop (6 * length r.entities) list;
      text = texts r.entities ++ drop (sizes r.entities) text;
    }

-- the list has room for an entity in every six of its numbers
unfoldable pub room_of : (list text : List ℕ) → Room
room_of list text = record { entities = length list / 6; text = length text }

-- the call
unfoldable pub reading : Limits → (draft list text : List ℕ) → Reading
reading L draft list text = answered list text (read_with L (room_of list text) draft)
