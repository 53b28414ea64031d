-- What the straight ways know of a token before its end. Nothing here says more of the format than Tokens does.
use Rattle.std.specs.Prelude.{ℕ, ◌+◌, ◌-◌, ◌<◌, ◌≤◌, ◌≡◌, false, List, Option, Some, None, IfSome, Ok, eqb, length, get_or}
use Rattle.chars.specs.Limits.{limits}
use Rattle.chars.specs.Character.{character_at}
use Rattle.chars.specs.Stream.{stream_at}
use Rattle.chars.specs.Character.{Clean}
use Rattle.tokens.specs.Sorts.{white}
use Rattle.tokens.specs.Tokens.{tokens, word, string, first, token_at}
use Rattle.tokens.specs.Runs.{opened_as}
use Rattle.tokens.specs.Tokens.{Simple as SimpleToken}
use Rattle.scan.specs.Found.{Finds}
use Rattle.scan.specs.Told.{told_piece}
use Rattle.scan.specs.declared.Piece.{Piece}
use Rattle.scan.specs.declared.Ended.{Ended as EndedAt}
use Rattle.scan.specs.declared.How.{How}
use Rattle.scan.specs.declared.How.TheVariants.{Simple, Prefix}

-- what a straight way says, if it says anything
abbrev pub Known : (draft : List ℕ) → (at : ℕ) → Option Piece → Type 0
Known draft at told = IfSome told (λ p. Finds draft at (told_piece (Ok p)))

-- neither whitespace nor a comment begins at `at`
pub record Stands (draft : List ℕ) (at : ℕ) : Type 0 where
  pub neither : (number after : ℕ) → character_at draft at ≡ Clean number after → (white number ≡ false) × (eqb number 0x23 ≡ false)

-- the token at `at` is a string that the byte at `i` opens, behind a prefix
pub record Opens (draft : List ℕ) (at i : ℕ) : Type 0 where
  pub is :
      token_at limits draft at
      ≡ first
      (tokens limits (string (opened_as (eqb (get_or draft i 0) 0x7B) at (i - at) (i + 1)) 0 1 false) (stream_at draft (i + 1)))

-- the token at `at` has bytes of its own up to `i`, where it goes on
pub record Goes (draft : List ℕ) (at i : ℕ) : Type 0 where
  pub is : token_at limits draft at ≡ first (tokens limits (word at (i - at)) (stream_at draft i))

-- The character at `i` behind a token's own bytes: it ends the token (`how` is 1), which then has some, or opens a string (2).
pub record Ends (draft : List ℕ) (at i how : ℕ) : Type 0 where
  pub on : at ≤ i
  pub there : i < length draft
  pub some : how ≡ 1 → at < i
  pub simple : how ≡ 1 → token_at limits draft at ≡ SimpleToken at i (i - at)
  pub opened : how ≡ 2 → Opens draft at i

-- the numbers of what a token's own bytes are
unfoldable pub how_code : How → ℕ
how_code Simple = 1
how_code Prefix = 2

-- likewise where a character stands behind them that is illegal or not US-ASCII, which is 0
abbrev pub stop_code : Option How → ℕ
stop_code (Some how) = how_code how
stop_code None = 0

-- what is known of a token's own bytes, if anything is
abbrev pub Ended : (draft : List ℕ) → (at : ℕ) → Option EndedAt → Type 0
Ended draft at told = IfSome told (λ e. Ends draft at e.at (how_code e.how))
