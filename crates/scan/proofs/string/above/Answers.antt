-- `scan::string::above` meets its contract: characters above US-ASCII are data. Assumes nothing.
use native.Mathlib.Omega.{arith}
use Rattle.scan.proofs.Comments.{forth}
use Rattle.scan.proofs.Data.{wides}
use Rattle.scan.proofs.string.above.Goals as goal

pub returns-then-narrow-i : goal.returns-then-narrow-i
returns-then-narrow-i c =
    let a = c.args in
    let w = c.past_narrow-narrow.ensures.0 in
    (omega (arith, forth w, c.if-narrow-i.true), λ curly level. wides a.draft.now curly a.i _ _ level (omega arith) w)

pub returns-then-pairs-i : goal.returns-then-pairs-i
returns-then-pairs-i c =
    let a = c.args in
    let w = c.past_pairs-pairs.ensures.0 in
    (omega (arith, forth w, c.if-pairs-i.true), λ curly level. wides a.draft.now curly a.i _ _ level (omega arith) w)

pub returns : goal.returns
returns c =
    let a = c.args in
    let w = c.past_wide-reach.ensures.0 in
    (omega (arith, forth w, c.if-reach-i.false), λ curly level. wides a.draft.now curly a.i _ _ level (omega arith) w)
