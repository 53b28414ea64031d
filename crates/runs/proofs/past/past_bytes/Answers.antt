-- `runs::past::past_bytes` meets its contract. The invariant: each byte from the start to here passes the test. Assumes nothing.
use mathlib.Core.Path.{sym, ◌∙◌}
use native.Mathlib.Omega.{arith}
use Rattle.runs.proofs.Flags.{one_passed}
use Rattle.runs.proofs.past.past_bytes.Goals as goal

pub returns-then-not-passes : goal.returns-then-not-passes
returns-then-not-passes g c = λ test told. (
  c.loop-i.invariant test told,
  omega arith,
  λ h. sym (told _ _ (c.type_inv.draft c.loop-i.i).fits c.passes.ensures) ∙ c.if-not-passes.true,
)

pub loop-i-preserved : goal.loop-i-preserved
loop-i-preserved g c = λ test told.
    one_passed test c.args.draft.now c.args.at c.loop-i.i (c.loop-i.invariant test told) (omega arith)
    (sym (told _ _ (c.type_inv.draft c.loop-i.i).fits c.passes.ensures) ∙ c.if-not-passes.false)
