-- `texts::number_kind` meets its contract: antt computes the definition at every byte up to SP, and the lists tell the others. Assumes
-- nothing.
use mathlib.Core.Path.{refl}
use lib.Dec.{ltb}
use borrow.Author.Tests.{lt-ltb}
use Rattle.tokens.proofs.Table.{constant}
use Rattle.holding.specs.Kind.{kind_code}
use Rattle.entities.specs.Judging.{word_kind}
use borrow.Author.Rules.{rules}
use Rattle.texts.proofs.number_kind.Goals as goal

pub returns-then-c-lt33 : goal.returns-then-c-lt33
unfolding word_kind kind_code
returns-then-c-lt33 c =
    let b = c.args.c in constant word_kind 16 (λ k. ltb k 0x21) refl b (search rules) (lt-ltb b 0x21 c.if-c-lt33.true)
