-- `runs::byte::begins_word` meets its contract: antt computes both sides at every byte. Assumes nothing.
use mathlib.Core.Path.{refl, ◌∙◌}
use mathlib.Core.Bool.{true}
use lib.Dec.{eqb}
use borrow.Author.Rules.{rules}
use Rattle.tokens.specs.Sorts.{visible, white, atomic, inclusive}
use Rattle.runs.specs.Bytes.{begins_of, unlisted}
use Rattle.runs.proofs.Bytes.{agree}
use Rattle.runs.proofs.byte.begins_word.Goals as goal

pub returns : goal.returns
unfolding unlisted begins_of visible white atomic inclusive
returns c =
    let b = c.args.b in
    c.unlisted.ensures ∙ agree (unlisted 0x800132c00000000 0x3800000028000000) (λ k. eqb (begins_of k) 6) (λ k. true) refl b
    (search rules) refl
