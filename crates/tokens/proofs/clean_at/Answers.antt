-- `tokens::clean_at` meets its contract: cleaning's refusal goes on, the draft's end is refused at its length, and a character stays.
-- Assumes nothing.
use mathlib.Core.Path.{◌≡◌, sym}
use Rattle.std.proofs.Common.{ℕ, List, length, Option, Some, None, Ok, Err, rules}
use Rattle.std.specs.Option.{ok_or}
use Rattle.chars.specs.Character.{Refused, seen, character_at, told}
use Rattle.chars.specs.Refusal.{number_of}
use Rattle.chars.specs.declared.Clean.{Clean as Cleaned}
use Rattle.chars.specs.declared.refusal.Refused.{Refused as Refusing}
use Rattle.chars.specs.declared.refusal.Refusal.TheVariants.{DraftEnds}
use Rattle.tokens.specs.Runs.{refusal_of}
use Rattle.tokens.specs.Told.{CleanAt}
use Rattle.tokens.proofs.clean_at.Goals as goal

refused :
    (draft : List ℕ) (place : ℕ) (r : Refusing) → Refused (number_of r.refusal) r.place ≡ character_at draft place
    → CleanAt draft place (Err r)
unfolding refusal_of told
refused draft place r e = (rw (← e), λ number after f. cc)

present :
    (draft : List ℕ) (place : ℕ) (o : Option Cleaned) → seen (Ok o) ≡ character_at draft place
    → CleanAt draft place (ok_or o (record { refusal = DraftEnds; place = length draft }))
unfolding refusal_of told
present draft place (Some c) e = sym e
present draft place None e = (rw (← e), λ number after f. cc)

pub returns-in_err-character_at : goal.returns-in_err-character_at
returns-in_err-character_at c =
    let e : c.from_residual.result ≡ Err c.in_err-character_at.field-0.0 = search rules in
    rw e (refused c.args.draft.now c.args.at c.in_err-character_at.field-0.0 c.in_err-character_at.ensures)

pub returns : goal.returns
returns c =
    rw (c.ok_or.ensures.value, c.at.ensures)
    (present c.args.draft.now c.args.at c.in_ok-character_at.field-0 c.in_ok-character_at.ensures)
