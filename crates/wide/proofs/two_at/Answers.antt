-- `wide::two_at` meets its contract: what the grammar takes is one character. Assumes nothing.
use mathlib.Core.Path.{refl, sym, ◌∙◌}
use native.Mathlib.Omega.{arith}
use Rattle.wide.proofs.Widths.{of_two}
use Rattle.wide.proofs.two_at.Goals as goal

pub returns : goal.returns
returns c = (refl, refl, of_two c.args.draft.now c.args.at (omega arith) (sym c.two.ensures ∙ c.if-not-two.false))
