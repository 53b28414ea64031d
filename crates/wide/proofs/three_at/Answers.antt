-- `wide::three_at` meets its contract: what the grammar takes is one character. Assumes nothing.
use mathlib.Core.Path.{refl, sym, ◌∙◌}
use native.Mathlib.Omega.{arith}
use Rattle.wide.proofs.Widths.{of_three}
use Rattle.wide.proofs.three_at.Goals as goal

pub returns : goal.returns
returns c = (refl, refl, of_three c.args.draft.now c.args.at (omega arith) (sym c.three.ensures ∙ c.if-not-three.false))
