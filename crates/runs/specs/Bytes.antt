-- Sorts of bytes that the straight ways ask for, in the words of 004, section 3.1. Nothing here says more of the format than Sorts does.
use Rattle.std.specs.Prelude.{ℕ, suc, ◌+◌, ◌/◌, ◌^◌, ◌<◌, ◌≤◌, ◌≡◌, Bool, true, not, ◌&&◌, List, [], ◌∷◌, eqb, leb, length, get_or, if◌then◌else◌}
use Rattle.std.specs.Int.Bits.{bit_and}
use Rattle.chars.specs.Choice.{within}
use Rattle.tokens.specs.Sorts.{visible, white, atomic, exclusive, inclusive}
use Rattle.tokens.specs.Runs.{bytes_of}

-- What a byte begins where no token has begun: 1 whitespace, 2 a comment, 3 one of ( ) [ ] , % ; which are tokens alone, 4 a string, 5
-- `|`, which may begin the last token, 6 any other token, 7 `}`, which is a token alone too; and 0 is illegal or not US-ASCII.
unfoldable pub begins_of : (b : ℕ) → ℕ
begins_of b =
    if white b then 1
    else if eqb b 0x23 then 2
    else if inclusive b then 4
    else if eqb b 0x7C then 5
    else if eqb b 0x7D then 7
    else if atomic b then 3
    else if visible b then 6
    else 0

-- The same of the byte at a place, but that `|` is 5 only where `;` stands right behind it: there it begins the last token, and elsewhere
-- any other one.
unfoldable pub begins_at : (draft : List ℕ) → (at : ℕ) → ℕ
begins_at draft at =
    let begins = begins_of (get_or draft at 0) in
    if eqb begins 5 then if eqb (get_or draft (at + 1) 0) 0x3B then 5 else 6
    else begins

-- how many bytes of whitespace stand first
unfoldable pub blanks : (bytes : List ℕ) → ℕ
blanks [] = 0
blanks (b ∷ bytes) = if white b then suc (blanks bytes) else 0

-- What a byte is behind a token's first: 1 ends it, left out, 2 opens a string, 3 goes on with it; and 0 is illegal or not US-ASCII.
unfoldable pub ends_of : (b : ℕ) → ℕ
ends_of b =
    if exclusive b then 1
    else if inclusive b then 2
    else if visible b then 3
    else 0

-- what goes on with a token
unfoldable pub goes_on : (b : ℕ) → Bool
goes_on b = eqb (ends_of b) 3

-- Visible, and not listed: a list has a bit for each character, `below` those below `@` and `from` those from there on.
unfoldable pub unlisted : (below from b : ℕ) → Bool
unlisted below from b =
    let listed = if leb 0x40 b then from else below in visible b && eqb (bit_and (listed / 2 ^ bit_and b 0x3F) 1) 0

-- what comments are mostly made of: SP, visible characters and DEL
unfoldable pub remark : (b : ℕ) → Bool
remark b = within 0x20 0x7F b

-- What string data is mostly made of: in a quoted string SP, visible characters and DEL, but for `"` and backslash; in a curly string SP
-- and visible characters, but for backslash and all from `{` on.
unfoldable pub plain : (curly : Bool) → (b : ℕ) → Bool
plain curly b =
    if curly then within 0x20 0x7A b && not (eqb b 0x5C)
    else within 0x20 0x7F b && (not (eqb b 0x22) && not (eqb b 0x5C))

-- what cleaning leaves as it is wherever it stands in well-formed text: all but CR, and ED, with which surrogates begin
unfoldable pub settled : (b : ℕ) → Bool
settled b = not (eqb b 0x0D) && not (eqb b 0xED)

-- Of eight bytes as one number, `flags` has a byte of 0 only where a byte of `w` passes a test.
abbrev pub Flags : (test : ℕ → Bool) → (w flags : ℕ) → Type 0
Flags test w flags =
    (i : ℕ) → i < 8 → get_or (bytes_of 8 flags) i 0 ≡ 0 → test (get_or (bytes_of 8 w) i 0) ≡ true

-- Likewise of the eight bytes of a draft from `at` on.
abbrev pub Looked : (test : ℕ → Bool) → (draft : List ℕ) → (at flags : ℕ) → Type 0
Looked test draft at flags =
    (i : ℕ) → i < 8 → get_or (bytes_of 8 flags) i 0 ≡ 0 → test (get_or draft (at + i) 0) ≡ true

-- bytes of a draft from `at` up to `r`, each of which passes a test
pub record Passed (test : ℕ → Bool) (draft : List ℕ) (at r : ℕ) : Type 0 where
  pub on : at ≤ r
  pub there : r ≤ length draft
  pub each : (i : ℕ) → at ≤ i → i < r → test (get_or draft i 0) ≡ true

-- What a function answers of a byte is what a test says of it.
abbrev pub Tests : (test : ℕ → Bool) → (answers : ℕ → Bool → Type 0) → Type 0
Tests test answers = (b : ℕ) (r : Bool) → b < 256 → answers b r → r ≡ test b

-- What a function answers of eight bytes as one number are flags for a test.
abbrev pub FlagsOf : (test : ℕ → Bool) → (answers : ℕ → ℕ → Type 0) → Type 0
FlagsOf test answers = (w r : ℕ) → w < 2 ^ 64 → answers w r → Flags test w r
