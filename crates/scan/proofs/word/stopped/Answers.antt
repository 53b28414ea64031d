-- `scan::word::stopped` meets its contract: each sort of end is told under its number, and `GoesOn` says nothing. Assumes nothing.
use mathlib.Core.Path.{◌≡◌, refl, sym, ◌∙◌, ap}
use native.Mathlib.Omega.{arith}
use Rattle.runs.specs.Codes.{ends_code}
use Rattle.runs.specs.declared.sorts.Ends.{Ends}
use Rattle.runs.specs.declared.sorts.Ends.TheVariants.{GoesOn}
use Rattle.scan.specs.Opens.{how_code}
use Rattle.scan.proofs.word.stopped.Goals as goal

-- another end is not `GoesOn`
said : (e other : Ends) → e ≡ other → (ends_code other ≡ 3 → ⊥) → e ≡ GoesOn → ⊥
unfolding ends_code
said e other is differ goes = differ (ap ends_code (sym is ∙ goes))

pub returns-in-Exclusive : goal.returns-in-Exclusive
unfolding ends_code how_code
returns-in-Exclusive c = (refl, rw c.in-Exclusive.is refl, said _ _ c.in-Exclusive.is (λ e. omega arith))

pub returns-in-Inclusive : goal.returns-in-Inclusive
unfolding ends_code how_code
returns-in-Inclusive c = (refl, rw c.in-Inclusive.is refl, said _ _ c.in-Inclusive.is (λ e. omega arith))

pub returns-in-Illegal : goal.returns-in-Illegal
unfolding ends_code how_code
returns-in-Illegal c = (refl, rw c.in-Illegal.is refl, said _ _ c.in-Illegal.is (λ e. omega arith))
