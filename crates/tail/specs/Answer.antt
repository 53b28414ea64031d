-- The answer of tail as the code gives it.
use Rattle.std.specs.Prelude.{ℕ, Option, Some, None, Result, Ok, Err}
use Rattle.chars.specs.Refusal.{number_of}
use Rattle.chars.specs.declared.refusal.Refusal.{Refusal}
use Rattle.tokens.specs.Tail.{Tail}
use Rattle.tail.specs.declared.Answer.{Answer}

unfoldable pub answer_of : Tail → Answer
answer_of t = record { number = t.number; yes = t.yes; place = t.place }

-- the first place that is not whitespace, or none, which is yes
abbrev pub said : Result (Option ℕ) Refusal → Tail
said (Ok None) = record { number = 0; yes = 1; place = 0 }
said (Ok (Some place)) = record { number = 0; yes = 0; place = place }
said (Err refusal) = record { number = number_of refusal; yes = 0; place = 0 }
