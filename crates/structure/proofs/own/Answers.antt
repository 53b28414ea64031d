-- `structure::own` meets its contract: each test is the definition's. Assumes nothing.
use native.Mathlib.Omega.{arith}
use borrow.Author.Tests.{ne_eqb}
use Rattle.entities.specs.Stepping.{own_behind}
use Rattle.structure.proofs.own.Goals as goal

pub returns-in-91 : goal.returns-in-91
unfolding own_behind
returns-in-91 c = rw c.in-91.is

pub returns-in-44 : goal.returns-in-44
unfolding own_behind
returns-in-44 c = rw c.in-44.is

pub returns-in_default : goal.returns-in_default
unfolding own_behind
returns-in_default c = rw (ne_eqb c.args.c 0x5B (λ e. omega arith), ne_eqb c.args.c 0x2C (λ e. omega arith))
