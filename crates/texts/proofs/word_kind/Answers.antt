-- `texts::word_kind` meets its contract: antt computes the definition at every byte behind `` ` ``, and the others have functions of their
-- own. Assumes nothing.
use mathlib.Core.Path.{refl}
use lib.Dec.{ltb}
use borrow.Author.Tests.{lt-ltb}
use Rattle.tokens.proofs.Table.{constant}
use Rattle.holding.specs.Kind.{kind_code}
use Rattle.entities.specs.Judging.{word_kind}
use borrow.Author.Rules.{rules}
use Rattle.texts.proofs.word_kind.Goals as goal

pub returns-then-c-gt96 : goal.returns-then-c-gt96
unfolding word_kind kind_code
returns-then-c-gt96 c =
    let b = c.args.c in constant word_kind 16 (λ k. ltb 0x60 k) refl b (search rules) (lt-ltb 0x60 b c.if-c-gt96.true)
