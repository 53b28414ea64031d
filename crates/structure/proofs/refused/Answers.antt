-- `structure::refused` meets its contract: each test is the definition's. Assumes nothing.
use Prim.Native.Nat.{◌+◌}
use native.Mathlib.Omega.{arith}
use borrow.Author.Tests.{ne_eqb, le-leb, lt-leb}
use Rattle.entities.specs.Stepping.{refused_behind}
use Rattle.structure.proofs.refused.Goals as goal

pub returns-in-41 : goal.returns-in-41
unfolding refused_behind
returns-in-41 c = rw c.in-41.is

pub returns-in-59 : goal.returns-in-59
unfolding refused_behind
returns-in-59 c = rw c.in-59.is

pub returns-in-40 : goal.returns-in-40
unfolding refused_behind
returns-in-40 c = rw (c.in-40.is, le-leb 64 (c.args.depth + 1) c.if-depth-ge-GROUPS.true)

pub returns-in_default : goal.returns-in_default
unfolding refused_behind
returns-in_default c = rw (c.in-40.is, lt-leb 64 (c.args.depth + 1) c.if-depth-ge-GROUPS.false)

pub returns-in_default-2 : goal.returns-in_default-2
unfolding refused_behind
returns-in_default-2 c =
    rw (
      ne_eqb c.args.c 0x29 (λ e. omega arith),
      ne_eqb c.args.c 0x3B (λ e. omega arith),
      ne_eqb c.args.c 0x28 (λ e. omega arith),
    )
