-- The invariant: each byte from the start to here passes the test.
use mathlib.Core.Bool.{Bool}
use Prim.Native.Nat.{ℕ}
use Rattle.runs.specs.Bytes.{Tests, Passed}
use Rattle.runs.proofs.past.past_bytes.Given as goal

abbrev pub invariant-loop-i : goal.invariant-loop-i
invariant-loop-i g l = (test : ℕ → Bool) → Tests test (goal.F-post g l.passes) → Passed test l.draft l.at l.i
