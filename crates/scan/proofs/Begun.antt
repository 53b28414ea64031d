-- What a byte begins, by its number.
use mathlib.Core.Path.{◌≡◌, refl}
use mathlib.Core.Bool.{false}
use Prim.Native.Nat.{◌<◌}
use native.Mathlib.Omega.{arith}
use lib.Dec.{eqb, ltb}
use Rattle.runs.specs.Codes.{begins_code}
use Rattle.runs.specs.declared.sorts.Begins.{Begins}
use Rattle.runs.specs.declared.sorts.Begins.TheVariants.{Nothing, Whitespace, Comment, Atomic, Opening, Bar, Word, RightCurly}

-- what begins no token, and neither whitespace nor a comment
pub no_blank : (b : Begins) → begins_code b < 3 → (b ≡ Whitespace → ⊥) → (b ≡ Comment → ⊥) → begins_code b ≡ 0
unfolding begins_code
no_blank Nothing l w c = refl
no_blank Whitespace l w c = absurd (w refl)
no_blank Comment l w c = absurd (c refl)
no_blank Atomic l w c = absurd (omega arith)
no_blank Opening l w c = absurd (omega arith)
no_blank Bar l w c = absurd (omega arith)
no_blank Word l w c = absurd (omega arith)
no_blank RightCurly l w c = absurd (omega arith)

pub token_code : (b : Begins) → (b ≡ Nothing → ⊥) → (b ≡ Whitespace → ⊥) → (b ≡ Comment → ⊥) → false ≡ ltb (begins_code b) 3
unfolding begins_code
token_code Nothing n w c = absurd (n refl)
token_code Whitespace n w c = absurd (w refl)
token_code Comment n w c = absurd (c refl)
token_code Atomic n w c = refl
token_code Opening n w c = refl
token_code Bar n w c = refl
token_code Word n w c = refl
token_code RightCurly n w c = refl

pub no_bar : (b : Begins) → (b ≡ Bar → ⊥) → eqb (begins_code b) 5 ≡ false
unfolding begins_code
no_bar Nothing n = refl
no_bar Whitespace n = refl
no_bar Comment n = refl
no_bar Atomic n = refl
no_bar Opening n = refl
no_bar Bar n = absurd (n refl)
no_bar Word n = refl
no_bar RightCurly n = refl
