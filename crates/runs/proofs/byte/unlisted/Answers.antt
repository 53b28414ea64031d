-- `runs::byte::unlisted` meets its contract: each test as the code makes it. Assumes nothing.
use mathlib.Core.Path.{sym, ap, ◌∙◌}
use mathlib.Core.Bool.{Bool}
use Prim.Native.Nat.{ℕ, ◌/◌, ◌^◌}
use native.Mathlib.Omega.{arith}
use lib.Bits.{bit_and, and_le_r}
use lib.Dec.{eqb}
use borrow.Author.Tests.{le-leb, lt-leb}
use Rattle.runs.specs.Bytes.{unlisted}
use Rattle.runs.proofs.byte.unlisted.Goals as goal
use Rattle.runs.proofs.byte.unlisted.Goals.{then-b-ge64, else-b-ge64}

pub returns-else-visible : goal.returns-else-visible
unfolding unlisted
returns-else-visible c = rw (sym c.visible.ensures ∙ c.if-visible.false) c.if-visible.false

pub overflow_cast-result : goal.overflow_cast-result
overflow_cast-result c = omega (arith, and_le_r c.args.b 63)

pub overflow_shr-result : goal.overflow_shr-result
overflow_shr-result c = omega (arith, and_le_r c.args.b 63)

pub returns-then-visible : goal.returns-then-visible
unfolding unlisted
returns-then-visible c =
    let b = c.args.b in
    let seen = sym c.visible.ensures ∙ c.if-visible.true in
    let told : ℕ → Bool = λ bits. eqb (bit_and (bits / 2 ^ bit_and b 0x3F) 1) 0 in
    elim c.if-b-ge64.branch [
      | then-b-ge64 w ↦ ap told w.listed-is ∙ simp (seen, le-leb 0x40 b w.if-b-ge64.true)
      | else-b-ge64 w ↦ ap told w.listed-is ∙ simp (seen, lt-leb 0x40 b w.if-b-ge64.false)
    ]
