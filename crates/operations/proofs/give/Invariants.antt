-- The invariant: so many kinds as turns were made are laid.
use mathlib.Core.Path.{◌≡◌}
use lib.ListN.{take}
use Rattle.operations.specs.Taken.{laid}
use Rattle.operations.proofs.give.Given as goal

abbrev pub invariant-loop-k : goal.invariant-loop-k
invariant-loop-k l = l.cells ≡ laid l.initial.cells l.top (take l.k l.kinds)
