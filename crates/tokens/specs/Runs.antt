-- What the loops of the code answer. Nothing here says more of the format than Tokens does: laws in proofs/ tie each of these to it.
use Rattle.std.specs.Prelude.{ℕ, zero, suc, ◌+◌, ◌/◌, ◌%◌, ◌≤◌, ◌≡◌, Bool, true, false, not, ◌&&◌, ◌||◌, List, [], ◌∷◌, leb, eqb, take, drop, if◌then◌else◌}
use Rattle.chars.specs.Choice.{within}
use Rattle.chars.specs.Character.{told}
use Rattle.chars.specs.Rfc3629.{utf8_char}
use Rattle.chars.specs.Stream.{Stream, next, stop}
use Rattle.chars.specs.Character.{Character}
use Rattle.tokens.specs.Tokens.{Sort, quoted, curly, Opened}
use Rattle.tokens.specs.Tokens.{Token}
use Rattle.tokens.specs.Tokens.{Refused}
use Rattle.tokens.specs.Sorts.{visible, white, atomic, exclusive, inclusive, legal}

-- The class of a byte, numbered so that each loop passes over the bytes of a range of classes.
unfoldable pub class_of : (b : ℕ) → ℕ
class_of b =
    -- nul, CR and all that is not US-ASCII: cleaning decides
    if eqb b 0 || (eqb b 0x0D || leb 0x80 b) then 0
    -- `}`, which ends a curly string and is an atomic character
    else if eqb b 0x7D then 1
    -- `"` and `{`
    else if inclusive b then 2
    -- backslash
    else if eqb b 0x5C then 3
    -- any other visible character that ends no token
    else if visible b && not (exclusive b) then 4
    -- illegal outside comments and strings
    else if not (legal b) then 5
    else if eqb b 0x23 then 6
    else if atomic b then 7
    -- HT and SP, and then LF
    else if not (eqb b 0x0A) then 8
    else 9

-- how many bytes, at most `n`, have a class from `low` to `high`
unfoldable pub run : (low high n : ℕ) → List ℕ → ℕ
run low high zero bytes = 0
run low high (suc n) [] = 0
run low high (suc n) (b ∷ bytes) = if within low high (class_of b) then suc (run low high n bytes) else 0

-- the `n` low bytes of a number, the lowest first
unfoldable pub bytes_of : (n w : ℕ) → List ℕ
bytes_of zero w = []
bytes_of (suc n) w = w % 256 ∷ bytes_of n (w / 256)

-- the stream behind whitespace
unfoldable pub past_blanks : Stream → Stream
past_blanks (stop refusal place) = stop refusal place
past_blanks (next number place after rest) = if white number then past_blanks rest else next number place after rest

-- the stream behind the LF that ends a comment
unfoldable pub past_comment : Stream → Stream
past_comment (stop refusal place) = stop refusal place
past_comment (next number place after rest) = if eqb number 0x0A then rest else past_comment rest

-- the stream behind whitespace and comments, inside a comment or not
unfoldable pub past_all : (comment : Bool) → Stream → Stream
past_all comment (stop refusal place) = stop refusal place
past_all true (next number place after rest) = past_all (not (eqb number 0x0A)) rest
past_all false (next number place after rest) =
    if white number then past_all false rest
    else if eqb number 0x23 then past_all true rest
    else next number place after rest

-- the sort of a string, as the code has it: curly or not
unfoldable pub sort_of : (is-curly : Bool) → Sort
sort_of true = curly
sort_of false = quoted

-- a string that has been opened
unfoldable pub opened_as : (is-curly : Bool) → (place prefix from : ℕ) → Opened
opened_as is-curly place prefix from = record { sort = sort_of is-curly; place = place; prefix = prefix; from = from }

-- a character that is none, as a refusal with the number and place that document 01 gives it
unfoldable pub refusal_of : (length : ℕ) → Character → Token
refusal_of length answer = Refused (told length answer).refusal (told length answer).place

-- one character above US-ASCII by RFC 3629: the `r` bytes from `at` on, the last of them before `end`
pub record Wide (draft : List ℕ) (at end r : ℕ) : Type 0 where
  pub several : 2 ≤ r
  pub there : at + r ≤ end
  pub grammar : utf8_char (take r (drop at draft)) ≡ true
