-- From characters to tokens, a character at a time (004, sections 3.2 and 3.3; document 01, "From characters to tokens").
use Rattle.std.specs.Prelude.{ℕ, suc, ◌+◌, ◌-◌, Bool, false, not, ◌&&◌, List, ltb, eqb, length, if◌then◌else◌}
use Rattle.chars.specs.Limits.{Limits}
use Rattle.chars.specs.Character.{encoded}
use Rattle.chars.specs.Stream.{Stream, next, stop, stream_at}
use Rattle.tokens.specs.Sorts.{visible, white, atomic, exclusive, inclusive, legal}

-- What the characters from a place of a draft on come to first. A place is a token's first byte.
pub data Token : Type 0 where
  -- a simple token: the byte after it, and how many bytes it has
  Simple : (place after length : ℕ) → Token
  -- a quoted string: the byte after its closing quote, the bytes of its prefix, its data's first byte in the draft, and how many bytes
  -- the clean data has
  Quoted : (place after prefix from length : ℕ) → Token
  -- a curly string, likewise
  Curly : (place after prefix from length : ℕ) → Token
  -- the last token, `|;`
  Last : (place after : ℕ) → Token
  -- a refusal of 2 to 9, with its place; of step also 1
  Refused : (number place : ℕ) → Token

pub data Sort : Type 0 where
  simple quoted curly : Sort

-- A token that is whole, `|;` apart. For a simple token `prefix` is its own length, and it has no data.
pub record Whole : Type 0 where
  pub sort : Sort
  -- its first byte
  pub place : ℕ
  -- the byte after it
  pub after : ℕ
  -- how many bytes its prefix has
  pub prefix : ℕ
  -- its data's first byte in the draft
  pub from : ℕ
  -- how many bytes its clean data has
  pub length : ℕ

-- a simple token of `n` bytes
unfoldable pub simply : (place after n : ℕ) → Whole
simply place after n = record { sort = simple; place = place; after = after; prefix = n; from = 0; length = 0 }

-- Tokens, and then how they end: by `|;`, or by a refusal of 2 to 9 with its place.
pub data Tokens : Type 0 where
  token : Whole → Tokens → Tokens
  last : (place after : ℕ) → Tokens
  refused : (number place : ℕ) → Tokens

-- a string that has been opened
pub record Opened : Type 0 where
  pub sort : Sort
  pub place : ℕ
  pub prefix : ℕ
  pub from : ℕ

-- the string once it is closed, with `n` clean bytes of data
unfoldable pub closed : Opened → (after n : ℕ) → Whole
closed o after n =
    record { sort = o.sort; place = o.place; after = after; prefix = o.prefix; from = o.from; length = n }

-- What the characters so far are part of.
pub data State : Type 0 where
  -- whitespace, or the draft's start
  between : State
  comment : State
  -- `|` at a token's start
  bar : (place : ℕ) → State
  -- a simple token or a prefix, and its bytes so far
  word : (place length : ℕ) → State
  -- string data: its clean bytes so far, the nesting level, and whether an odd run of backslashes stands right before
  string : Opened → (length level : ℕ) → (odd : Bool) → State

-- What one character comes to.
pub data Outcome : Type 0 where
  goes : State → Outcome
  gives : Whole → Outcome → Outcome
  ends : (place after : ℕ) → Outcome
  refuses : (number place : ℕ) → Outcome

-- A token's `"` or `{`, after a prefix: it opens a string, whose data starts at level 1 (3.3).
unfoldable pub opens : (number begun prefix after : ℕ) → Outcome
opens number begun prefix after =
    goes
    (string
    (record { sort = if eqb number 0x22 then quoted else curly; place = begun; prefix = prefix; from = after })
    0
    1
    false)

-- A character where no token has begun (3.2, rules 1 to 4). Refusal 6 for an illegal one.
unfoldable pub begins : (number place after : ℕ) → Outcome
begins number place after =
    if white number then goes between
    else if eqb number 0x23 then goes comment
    else if not (visible number) then refuses 6 place
    else if inclusive number then opens number place 0 after
    else if atomic number then gives (simply place after 1) (goes between)
    else if eqb number 0x7C then goes (bar place)
    else goes (word place 1)

-- the curly that takes the level up: `{` in a curly string, nothing in a quoted one
unfoldable pub up : Sort → ℕ → Bool
up simple number = false
up quoted number = false
up curly number = eqb number 0x7B

-- what takes the level down: `"` in a quoted string, `}` in a curly one
unfoldable pub down : Sort → ℕ → Bool
down simple number = false
down quoted number = eqb number 0x22
down curly number = eqb number 0x7D

-- the nesting level behind a character of string data that no odd run of backslashes stands before
unfoldable pub nested : Sort → (level number : ℕ) → ℕ
nested sort level number = if up sort number then suc level else if down sort number then level - 1 else level

module _ (L : Limits) where
  -- A character behind `n` bytes of a token that began at `begun` (3.2, rule 4). An exclusive one ends the token, left out, and is
  -- then handled as where no token has begun; an inclusive one ends it, kept. Refusal 6, then 8 for a byte over the limit.
  unfoldable pub continues : (begun n number place after : ℕ) → Outcome
  continues begun n number place after =
      if not (legal number) then refuses 6 place
      else if exclusive number then gives (simply begun place n) (begins number place after)
      else if inclusive number then opens number begun n after
      else if ltb n L.token then goes (word begun (suc n))
      else refuses 8 place

  -- A character of string data behind `n` clean bytes (3.3). Behind an odd run of backslashes it is data whatever it is. What takes
  -- the level from 1 to 0 closes the string. Refusal 9 for a character that takes the data over the limit.
  unfoldable pub inside : Opened → (n level : ℕ) → (odd : Bool) → (number place after : ℕ) → Outcome
  inside o n level odd number place after =
      if not odd && down o.sort number && eqb level 1 then gives (closed o after n) (goes between)
      else if ltb L.string (n + length (encoded number)) then refuses 9 place
      else goes
      (string o (n + length (encoded number)) (if odd then level else nested o.sort level number)
      (not odd && eqb number 0x5C))

  -- One character, by what it is part of. A comment runs to LF (3.1). `|` with `;` right after it, at a token's start, is the last
  -- token; any other `|` there begins a token like any other character (3.2, rules 3 and 4).
  unfoldable pub step : State → (number place after : ℕ) → Outcome
  step between number place after = begins number place after
  step comment number place after = if eqb number 0x0A then goes between else goes comment
  step (bar begun) number place after =
      if eqb number 0x3B then ends begun after else continues begun 1 number place after
  step (word begun n) number place after = continues begun n number place after
  step (string o n level odd) number place after = inside o n level odd number place after

-- what a character comes to, and the tokens behind it
unfoldable pub follows : Outcome → (State → Tokens) → Tokens
follows (goes state) rest = rest state
follows (gives whole outcome) rest = token whole (follows outcome rest)
follows (ends place after) rest = last place after
follows (refuses number place) rest = refused number place

-- The tokens of a stream. The end of the draft ends no token.
unfoldable pub tokens : Limits → State → Stream → Tokens
tokens L state (stop refusal place) = refused refusal place
tokens L state (next number place after rest) = follows (step L state number place after) (λ state. tokens L state rest)

-- a whole token as the code answers it
unfoldable pub shown : Whole → Token
shown w =
    elim w.sort [
      | simple ↦ Simple w.place w.after w.prefix
      | quoted ↦ Quoted w.place w.after w.prefix w.from w.length
      | curly ↦ Curly w.place w.after w.prefix w.from w.length
    ]

-- the first of the tokens
unfoldable pub first : Tokens → Token
first (token whole rest) = shown whole
first (last place after) = Last place after
first (refused number place) = Refused number place

-- the first token from a place of a draft on
unfoldable pub token_at : Limits → (draft : List ℕ) → (place : ℕ) → Token
token_at L draft place = first (tokens L between (stream_at draft place))
