-- `Stack::show` meets its contract: the innermost group's base was stored for it, and what it hid lies from there up to the cell in
-- sight. Assumes nothing.
use native.Mathlib.Omega.{arith}
use Rattle.sight.specs.Arrays.{state_of}
use Rattle.sight.specs.Stacks.{meant, ready}
use Rattle.sight.proofs.Sight.{stacked_outer, not_one, one_shown}
use Rattle.sight.proofs.Stack.show.Goals as goal

pub returns-then-s-ne1-clause-answer : goal.returns-then-s-ne1-clause-answer
unfolding state_of meant ready
returns-then-s-ne1-clause-answer c text st =
    let k = c.args.self.now in
    let s = k.counts in
    let other = not_one (state_of text k.cells k.bases k.index k.whats s) k.cells s.base s.seen
    (λ e. omega (arith, c.if-s-ne1.true)) in
    record { same = rw other; on = tt }

pub overflow_sub-self : goal.overflow_sub-self
overflow_sub-self c =
    let k = c.args.self.now in
    let p = c.requires in
    let within = stacked_outer k.bases k.counts.base k.counts.depth p.0 p.1.hidden in
    omega (arith, within.0)

pub returns-clause-answer : goal.returns-clause-answer
returns-clause-answer c text st =
    let k = c.args.self.now in
    let p = c.requires in
    one_shown text k.cells k.bases k.index k.whats k.counts st.0 p.1 p.0 c.if-s-ne1.false
