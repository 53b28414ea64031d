-- `wide::four_at` meets its contract: what the grammar takes is one character. Assumes nothing.
use mathlib.Core.Path.{refl, sym, ◌∙◌}
use mathlib.Core.Bool.{or-true}
use native.Mathlib.Omega.{arith}
use Rattle.chars.specs.Rfc3629.{utf8_char}
use Rattle.wide.proofs.Widths.{of_four}
use Rattle.wide.proofs.four_at.Goals as goal

pub returns : goal.returns
unfolding utf8_char
returns c =
    let e = sym c.four.ensures ∙ c.if-not-four.false in
    (refl, refl, of_four c.args.draft.now c.args.at 4 (omega arith) (omega arith) (omega arith) (simp (e, or-true)))
