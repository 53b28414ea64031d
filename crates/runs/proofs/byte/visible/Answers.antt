-- `runs::byte::visible` meets its contract: each test as the code makes it. Assumes nothing.
use native.Mathlib.Omega.{arith}
use borrow.Author.Tests.{le-leb, lt-leb, lt-ltb, le-ltb}
use Rattle.chars.proofs.Cases.{by_bound}
use Rattle.tokens.specs.Sorts.{visible}
use Rattle.runs.proofs.byte.visible.Goals as goal

pub returns-then-b-ge33 : goal.returns-then-b-ge33
unfolding visible
returns-then-b-ge33 c =
    let b = c.args.b in
    by_bound b 0x7F
    (λ l. simp (le-leb 0x21 b c.if-b-ge33.true, lt-ltb b 0x7F l, le-leb b 0x7E (omega arith)))
    (λ g. simp (le-leb 0x21 b c.if-b-ge33.true, le-ltb b 0x7F g, lt-leb b 0x7E (omega arith)))

pub returns-else-b-ge33 : goal.returns-else-b-ge33
unfolding visible
returns-else-b-ge33 c = simp (lt-leb 0x21 c.args.b c.if-b-ge33.false)
