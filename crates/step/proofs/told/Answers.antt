-- The place reached is the one part that the conversion leaves at 0.
use Rattle.std.proofs.Common.{◌≡◌, ℕ, refl}
use Rattle.tokens.specs.Tokens.{Token}
use Rattle.tokens.specs.Told.{told_token}
use Rattle.step.specs.Answer.{answered}
use Rattle.step.specs.declared.Answer.{Answer}
use Rattle.step.proofs.told.Goals as goal

with_next : (next : ℕ) (a : Answer) (t : Token) → a ≡ answered 0 t → record a { next = next } ≡ answered next t
unfolding answered
with_next next a t e = rw e refl

pub returns : goal.returns
returns c = λ plain. with_next c.args.next c.from.result (told_token c.args.token) (c.from.ensures plain)
