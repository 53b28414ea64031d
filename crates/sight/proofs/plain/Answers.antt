-- `sight::plain` meets its contract: either way is the choice that the definition makes by the same test. Assumes nothing.
use borrow.Author.Tests.{lt-ltb, le-ltb}
use native.Mathlib.Omega.{arith}
use Rattle.sight.specs.Arrays.{plain_of}
use Rattle.sight.proofs.plain.Goals as goal

pub returns-then-c-lt-KINDS : goal.returns-then-c-lt-KINDS
unfolding plain_of
returns-then-c-lt-KINDS c = (rw (lt-ltb c.args.c 16 c.if-c-lt-KINDS.true), c.if-c-lt-KINDS.true)

pub returns-else-c-lt-KINDS : goal.returns-else-c-lt-KINDS
unfolding plain_of
returns-else-c-lt-KINDS c = (rw (le-ltb c.args.c 16 c.if-c-lt-KINDS.false), omega arith)
