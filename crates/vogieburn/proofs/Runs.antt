-- Demand 3, said of the call for C: `vogieburn_check` has the contract of `check`, so what is shown of that one holds of this.
use mathlib.Core.Path.{◌≡◌}
use contract.Lifetimes.{Lfts}
use borrow.Fn.World.{ArgsD, ResD}
use borrow.Fn.Kinds.{ended_of}
use denote.Triple.Clauses.{AtExit}
use Rattle.checking.proofs.Runs.{RunsWell, of_definition}
use Rattle.vogieburn.specs.contracts.vogieburn_check as vogieburn_check
use Rattle.vogieburn.proofs.vogieburn_check.Kinds as kinds
use Rattle.vogieburn.proofs.vogieburn_check.Reads as reads

module _ (κs : Lfts 4) (given : ArgsD vogieburn_check.signature κs) (a : ResD vogieburn_check.signature κs)
    (x : AtExit (ended_of 4 kinds.ps kinds.r) κs) where
  pub runs_well :
      reads.Post κs given a x → a.number ≡ 0
      → RunsWell given.0.now given.1.0.now given.1.1.0.now given.1.1.1.0.now a x.1.0.now x.1.1.0.now
  runs_well p =
      rw (p.0, p.1.0, p.1.1) (of_definition given.0.now given.1.0.now given.1.1.0.now given.1.1.1.0.now)
