-- `checking::finished` meets its contract: the byte after `;` is told where the check passed, and a refusal's number is not 0.
-- Assumes nothing.
use mathlib.Core.Path.{refl}
use native.Mathlib.Omega.{arith}
use borrow.Author.Tests.{ne_eqb}
use Rattle.chars.specs.Refusal.{number_of}
use Rattle.cells.specs.Kept.{ended_of}
use Rattle.cells.proofs.Refusals.{some_number}
use Rattle.checking.proofs.finished.Goals as goal

pub returns-in-Ok : goal.returns-in-Ok
unfolding ended_of
returns-in-Ok c = rw c.in-Ok.is refl

pub returns-in-Err : goal.returns-in-Err
unfolding ended_of
returns-in-Err c =
    let s = c.in-Err.stopped in
    let some = some_number s.refusal in
    rw (c.in-Err.is, c.number.ensures, c.from.ensures, ne_eqb (number_of s.refusal) 0 (λ none. omega arith)) refl
