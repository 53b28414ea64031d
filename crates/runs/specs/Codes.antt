-- The numbers of what a byte begins, and of what it is behind a token's first, as Bytes has them.
use Rattle.std.specs.Prelude.{ℕ}
use Rattle.runs.specs.declared.sorts.Begins.{Begins}
use Rattle.runs.specs.declared.sorts.Begins.TheVariants.{Nothing, Whitespace, Comment, Atomic, Opening, Bar, Word, RightCurly}
use Rattle.runs.specs.declared.sorts.Ends.{Ends}
use Rattle.runs.specs.declared.sorts.Ends.TheVariants.{Illegal, Exclusive, Inclusive, GoesOn}

-- what a byte begins
unfoldable pub begins_code : Begins → ℕ
begins_code Nothing = 0
begins_code Whitespace = 1
begins_code Comment = 2
begins_code Atomic = 3
begins_code Opening = 4
begins_code Bar = 5
begins_code Word = 6
begins_code RightCurly = 7

-- what it is behind a token's first
unfoldable pub ends_code : Ends → ℕ
ends_code Illegal = 0
ends_code Exclusive = 1
ends_code Inclusive = 2
ends_code GoesOn = 3
