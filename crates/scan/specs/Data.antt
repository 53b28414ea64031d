-- String data, as far as it has been gone through.
use Rattle.std.specs.Prelude.{ℕ, ◌+◌, ◌-◌, ◌≤◌, ◌≡◌, Bool, false, List, eqb, length}
use Rattle.chars.specs.Limits.{limits}
use Rattle.chars.specs.Stream.{stream_at}
use Rattle.tokens.specs.Tokens.{tokens, string, up, down}
use Rattle.tokens.specs.Runs.{sort_of, opened_as}

-- a character that takes the level neither up nor down and is no backslash
pub record Even (curly : Bool) (number : ℕ) : Type 0 where
  pub no_up : up (sort_of curly) number ≡ false
  pub no_down : down (sort_of curly) number ≡ false
  pub no_backslash : eqb number 0x5C ≡ false

-- From `at` up to `i`, of which cleaning takes `less` bytes away, and the level goes from `level` to `deep`: whatever the string, its
-- tokens are those from `i` on, behind as many more clean bytes, if the limit lets it go so far.
pub record Goes (draft : List ℕ) (curly : Bool) (at level i deep less : ℕ) : Type 0 where
  pub on : at + less ≤ i
  pub there : i ≤ length draft
  pub same :
      (place prefix from n : ℕ) → n + (i - at - less) ≤ 4096
      → tokens limits (string (opened_as curly place prefix from) n level false) (stream_at draft at)
      ≡ tokens limits (string (opened_as curly place prefix from) (n + (i - at - less)) deep false) (stream_at draft i)
