-- `step::reached` meets its contract: behind the draft's start the place itself, and there the place behind a byte order mark. Assumes
-- nothing.
use mathlib.Core.Path.{sym}
use native.Mathlib.Omega.{arith}
use Rattle.step.proofs.Places.{reached_on, reached_start}
use Rattle.step.proofs.reached.Goals as goal

pub returns-then-place-gt0 : goal.returns-then-place-gt0
returns-then-place-gt0 c = sym (reached_on _ _ (λ z. omega arith))

pub returns-else-place-gt0 : goal.returns-else-place-gt0
returns-else-place-gt0 c = reached_start _ _ _ (omega arith) c.start.ensures
