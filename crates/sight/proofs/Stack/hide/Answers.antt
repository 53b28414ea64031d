-- `Stack::hide` meets its contract: with the base stored, the cells that were in sight are what the innermost group hides.
-- Assumes nothing.
use mathlib.Core.Path.{refl, ◌∙◌}
use Prim.Native.Nat.{◌+◌, ◌<◌}
use native.Mathlib.Omega.{arith}
use lib.ListN.{length, length-set}
use Rattle.rules.specs.Cells.{hide}
use Rattle.sight.specs.Arrays.{sight_of, state_of}
use Rattle.sight.specs.Stacks.{meant, ready}
use Rattle.sight.proofs.Sight.{hidden_begun, stacked_begun, still_standing}
use Rattle.sight.proofs.Stack.hide.Goals as goal

pub returns-clause-answer : goal.returns-clause-answer
unfolding hide state_of sight_of meant ready
returns-clause-answer c text st =
    let k = c.args.self.now in
    let s = k.counts in
    let l = k.bases in
    let g = st.1 in
    let deep : s.depth < length l = omega (arith, g.bases_room) in
    record {
      same = rw (hidden_begun k.cells l s.base s.seen s.depth deep);
      on = (
        still_standing st.0 k.cells refl (s.base + s.seen) 0 (s.depth + 1) (omega arith),
        record {
          shallow = omega arith;
          hidden = stacked_begun l s.base s.seen s.depth deep g.hidden;
          bases_room = length-set l s.depth s.base ∙ g.bases_room;
        },
      );
    }
