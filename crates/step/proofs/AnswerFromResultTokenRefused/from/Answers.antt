-- Each arm tells what the definition tells of its variant. Of a whole token that is a case for each sort, and a simple one has no data.
use Rattle.std.proofs.Common.{◌≡◌, ℕ, refl, rules, Ok}
use denote.Enum.Declared.{tag_of}
use Rattle.tokens.specs.Step.{told}
use Rattle.tokens.specs.Tokens.{shown}
use Rattle.tokens.specs.Told.{whole_of, NoData}
use Rattle.tokens.specs.contracts.Sort.{the_type}
use Rattle.tokens.specs.declared.Sort.{Sort}
use Rattle.tokens.specs.declared.Sort.TheVariants.{Simple, Quoted, Curly}
use Rattle.tokens.specs.declared.Token.TheVariants.{Whole as IsWhole, Last}
use Rattle.tokens.specs.declared.Whole.{Whole}
use Rattle.step.specs.Answer.{answered}
use Rattle.step.specs.declared.Answer.{Answer}
use Rattle.step.proofs.AnswerFromResultTokenRefused.from.Goals as goal

module _ (place after prefix from : ℕ) where
  abbrev found : (sort : Sort) → (length : ℕ) → Whole
  found sort length =
      record { sort = sort; place = place; after = after; prefix = prefix; from = from; length = length }

  abbrev tells : (sort : Sort) → (length : ℕ) → Answer
  tells sort length =
      record { number = 0; place = place; after = after; sort = tag_of the_type sort; prefix = prefix; length = length; next = 0 }

  by_sort : (sort : Sort) (length : ℕ) → NoData (found sort length) → tells sort length ≡ answered 0 (shown (whole_of (found sort length)))
  unfolding told answered shown
  by_sort Simple length none = rw (none refl).1
  by_sort Quoted length none = refl
  by_sort Curly length none = refl

pub returns-in-Ok-Whole : goal.returns-in-Ok-Whole
returns-in-Ok-Whole c =
    let w = c.in-Ok-Whole.w in
    let e : c.args.token ≡ Ok (IsWhole w) = search rules in
    rw e (by_sort w.place w.after w.prefix w.from w.sort w.length)

pub returns-in-Ok-Last : goal.returns-in-Ok-Last
unfolding told answered
returns-in-Ok-Last c =
    let l = c.in-Ok-Last in
    let e : c.args.token ≡ Ok (Last l.place l.after) = search rules in
    rw e (λ plain. refl)

pub returns-in-Err : goal.returns-in-Err
unfolding told answered
returns-in-Err c = rw (c.in-Err.is, c.number.ensures) (λ plain. refl)
