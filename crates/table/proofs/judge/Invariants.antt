-- The invariant: the last `k` rows are entered, and they pass.
use mathlib.Core.Path.{◌≡◌}
use mathlib.Core.Bool.{true}
use Rattle.table.specs.Entered.{Entered}
use Rattle.table.proofs.Last.{last_pass}
use Rattle.table.proofs.judge.Given as goal

abbrev pub invariant-loop-k : goal.invariant-loop-k
invariant-loop-k l = Entered l.table l.index l.k × (last_pass l.table l.k ≡ true)
