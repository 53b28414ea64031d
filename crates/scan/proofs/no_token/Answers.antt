-- `scan::no_token` meets its contract: antt computes both sides for each. Assumes nothing.
use mathlib.Core.Path.{refl}
use mathlib.Core.Logic.{inl, inr}
use Rattle.runs.specs.Codes.{begins_code}
use Rattle.scan.proofs.Begun.{token_code}
use Rattle.scan.proofs.no_token.Goals as goal

pub returns-in-Nothing : goal.returns-in-Nothing
unfolding begins_code
returns-in-Nothing c =
    elim c.in-Nothing.is [
      | inl e ↦ rw e refl
      | inr rest ↦ elim rest [ inl e ↦ rw e refl | inr e ↦ rw e refl ]
    ]

pub returns-in_default : goal.returns-in_default
returns-in_default c = token_code c.args.begins c.in_default.not-Nothing c.in_default.not-Whitespace c.in_default.not-Comment
