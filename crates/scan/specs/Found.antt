-- What the straight ways find of a token. Nothing here says more of the format than Tokens does.
use Rattle.std.specs.Prelude.{ℕ, ◌+◌, ◌-◌, ◌<◌, ◌≤◌, ◌≡◌, Bool, false, List, length, get_or}
use Rattle.chars.specs.Limits.{limits}
use Rattle.chars.specs.Stream.{stream_at}
use Rattle.tokens.specs.Tokens.{tokens, between, word, string, closed, first, shown, token_at}
use Rattle.tokens.specs.Runs.{opened_as}
use Rattle.tokens.specs.Tokens.{Token}
use Rattle.tokens.specs.Tokens.{Simple, Quoted, Curly, Last, Refused}
use Rattle.runs.specs.Bytes.{ends_of, goes_on, Passed}

-- a string whose data begins at `from` is closed by the byte before `after`, behind `n` clean bytes, whatever its prefix
pub record Closed (draft : List ℕ) (curly : Bool) (from after n : ℕ) : Type 0 where
  pub on : from < after
  pub there : after ≤ length draft
  pub closes :
      (place prefix : ℕ)
      → first (tokens limits (string (opened_as curly place prefix from) 0 1 false) (stream_at draft from))
      ≡ shown (closed (opened_as curly place prefix from) after n)

-- bytes from `at` on that go on with a token that began at `begun`, up to `i`, where one stands that says `how`, within the limit
pub record Stops (draft : List ℕ) (begun at i how : ℕ) : Type 0 where
  pub passed : Passed goes_on draft at i
  pub there : i < length draft
  pub ends : ends_of (get_or draft i 0) ≡ how
  pub short : i - begun ≤ 255

-- a token that began at `begun` and goes on up to `i`, where US-ASCII stands that ends it (`how` is 1) or opens a string (2)
pub record Worded (draft : List ℕ) (begun i how : ℕ) : Type 0 where
  pub on : begun < i
  pub there : i < length draft
  pub same :
      tokens limits (word begun 1) (stream_at draft (begun + 1)) ≡ tokens limits (word begun (i - begun)) (stream_at draft i)
  pub ends : ends_of (get_or draft i 0) ≡ how

-- What stands at a place, taken apart: of sort 0 a simple token, 1 a quoted one, 2 a curly one, 3 the last, 4 a refusal, and 5 whitespace or
-- a comment.
pub record Piece : Type 0 where
  pub sort : ℕ
  pub place : ℕ
  pub after : ℕ
  pub prefix : ℕ
  pub from : ℕ
  pub bytes : ℕ
  pub number : ℕ

-- a token taken apart: 4 stands for a refusal, and a part that it has not is 0
unfoldable pub piece_of : Token → Piece
piece_of (Simple place after length) =
    record { sort = 0; place = place; after = after; prefix = length; from = 0; bytes = 0; number = 0 }
piece_of (Quoted place after prefix from length) =
    record { sort = 1; place = place; after = after; prefix = prefix; from = from; bytes = length; number = 0 }
piece_of (Curly place after prefix from length) =
    record { sort = 2; place = place; after = after; prefix = prefix; from = from; bytes = length; number = 0 }
piece_of (Last place after) =
    record { sort = 3; place = place; after = after; prefix = 0; from = 0; bytes = 0; number = 0 }
piece_of (Refused number place) =
    record { sort = 4; place = place; after = 0; prefix = 0; from = 0; bytes = 0; number = number }

-- What is found at a place: whitespace or a comment up to `after`, behind which the tokens are the same, or the first token,
-- which begins right there, unless it is a refusal.
pub data Finds (draft : List ℕ) (at : ℕ) (p : Piece) : Type 0 where
  passes :
      p.sort ≡ 5 → at < p.after → p.after ≤ length draft
      → tokens limits between (stream_at draft at) ≡ tokens limits between (stream_at draft p.after) → Finds draft at p
  tells : p ≡ piece_of (token_at limits draft at) → ((p.sort ≡ 4 → ⊥) → p.place ≡ at) → Finds draft at p
