-- Step: one token after another from an opened draft (document 01, "The calls").
use Rattle.std.specs.Prelude.{ℕ, zero, suc, List, ltb, length, if◌then◌else◌}
use Rattle.chars.specs.Limits.{Limits}
use Rattle.chars.specs.Stream.{start}
use Rattle.tokens.specs.Tokens.{token_at}
use Rattle.tokens.specs.Tokens.{Token}
use Rattle.tokens.specs.Tokens.{Simple, Quoted, Curly, Last, Refused}

-- where the next token is looked for: at the draft's start a byte order mark is lost
unfoldable pub reached : (draft : List ℕ) → (place : ℕ) → ℕ
reached draft zero = start draft
reached draft (suc place) = suc place

-- the answer of step: refusal 1 for a draft over the limit, else the first token from the place reached
unfoldable pub stepped : Limits → (draft : List ℕ) → (place : ℕ) → Token
stepped L draft place =
    if ltb L.draft (length draft) then Refused 1 0
    else token_at L draft (reached draft place)

-- the place reached after an answer: behind a token; after `|;` or a refusal it stays, so that the answer is repeated
unfoldable pub onward : (place : ℕ) → Token → ℕ
onward place (Simple begun after prefix) = after
onward place (Quoted begun after prefix from n) = after
onward place (Curly begun after prefix from n) = after
onward place (Last begun after) = place
onward place (Refused number bad) = place

-- What document 01 tells of each answer: the number of refusal and the place; of a token the byte after, its sort (0 simple, 1
-- quoted, 2 curly, 3 last), and the lengths of prefix and clean data.
pub record Told : Type 0 where
  pub number : ℕ
  pub place : ℕ
  pub after : ℕ
  pub sort : ℕ
  pub prefix : ℕ
  pub length : ℕ

unfoldable pub told : Token → Told
told (Simple place after prefix) =
    record { number = 0; place = place; after = after; sort = 0; prefix = prefix; length = 0 }
told (Quoted place after prefix from n) =
    record { number = 0; place = place; after = after; sort = 1; prefix = prefix; length = n }
told (Curly place after prefix from n) =
    record { number = 0; place = place; after = after; sort = 2; prefix = prefix; length = n }
told (Last place after) = record { number = 0; place = place; after = after; sort = 3; prefix = 0; length = 0 }
told (Refused number place) = record { number = number; place = place; after = 0; sort = 0; prefix = 0; length = 0 }
