-- `wide::pair_at` meets its contract: each test of the code is one of those that make two surrogates one character. Assumes nothing.
use mathlib.Core.Path.{sym, ◌∙◌}
use native.Mathlib.Omega.{arith}
use Rattle.wide.proofs.Widths.{by_pair}
use Rattle.wide.proofs.pair_at.Goals as goal

pub returns : goal.returns
returns c =
    let a = c.args in
    let c2 = sym c.within.ensures ∙ c.if-not-within.false in
    let c3 = sym c.within-else-not-within.ensures ∙ c.if-not-within-2.false in
    let c5 = sym c.within-else-draft-at-2.ensures ∙ c.if-not-within-3.false in
    let c6 = sym c.within-else-not-within-3.ensures ∙ c.if-not-within-4.false in
    by_pair a.draft.now a.at (omega arith) c.if-draft-at.false c2 c3 c.if-draft-at-2.false c5 c6
