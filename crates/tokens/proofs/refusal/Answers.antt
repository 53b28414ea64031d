-- `tokens::refusal` meets its contract: cleaning's refusal goes on, and what is neither a refusal nor a character is the draft's end.
-- Assumes nothing.
use mathlib.Core.Path.{◌≡◌, refl}
use Rattle.std.proofs.Common.{ℕ, Option, Some, None, Ok}
use Rattle.chars.specs.Character.{Clean, seen, told}
use Rattle.chars.specs.declared.Clean.{Clean as Cleaned}
use Rattle.tokens.specs.Runs.{refusal_of}
use Rattle.tokens.specs.Tokens.{Refused}
use Rattle.tokens.proofs.refusal.Goals as goal

pub returns-in-Err : goal.returns-in-Err
unfolding refusal_of told
returns-in-Err c = λ none. rw c.in-Err.is refl

ended :
    (length : ℕ) (o : Option Cleaned) → ((number after : ℕ) → seen (Ok o) ≡ Clean number after → ⊥)
    → refusal_of length (seen (Ok o)) ≡ Refused 7 length
unfolding refusal_of told
ended length (Some c) none = absurd (none c.number c.after refl)
ended length None none = refl

pub returns-in-Ok : goal.returns-in-Ok
returns-in-Ok c =
    λ none. rw (c.in-Ok.is, c.at.ensures) (ended c.args.length c.in-Ok.field-0 (λ number after e. none number after (rw c.in-Ok.is e)))
