-- `runs::byte::goes_on` meets its contract: antt computes both sides at every byte. Assumes nothing.
use mathlib.Core.Path.{refl, ◌∙◌}
use mathlib.Core.Bool.{true}
use borrow.Author.Rules.{rules}
use Rattle.tokens.specs.Sorts.{visible, exclusive, inclusive}
use Rattle.runs.specs.Bytes.{ends_of, goes_on, unlisted}
use Rattle.runs.proofs.Bytes.{agree}
use Rattle.runs.proofs.byte.goes_on.Goals as goal

pub returns : goal.returns
unfolding unlisted goes_on ends_of visible exclusive inclusive
returns c =
    let b = c.args.b in
    c.unlisted.ensures ∙ agree (unlisted 0x800132c00000000 0x2800000028000000) (goes_on) (λ k. true) refl b (search rules) refl
