-- `Stack::push` meets its contract: with no room it is 29, and else the cell is stored right above those in sight, so that
-- it is one more and the hidden ones stay. Assumes nothing.
use mathlib.Core.List.{◌∷◌}
use Prim.Native.Nat.{◌+◌, ◌≤◌}
use native.Mathlib.Omega.{arith}
use lib.ListN.{set, length-set}
use Rattle.rules.specs.Cells.{push}
use Rattle.sight.specs.Arrays.{cell_of, sight_of, state_of}
use Rattle.sight.proofs.Sight.{so_many, too_many, sight_pushed, hidden_past, not_many}
use Rattle.sight.proofs.Stack.push.Goals as goal

pub returns-then-top-ge-CELLS-clause-answer : goal.returns-then-top-ge-CELLS-clause-answer
unfolding push state_of
returns-then-top-ge-CELLS-clause-answer c text st =
    let k = c.args.self.now in
    let s = k.counts in
    let many = so_many k.cells s.base s.seen in
    too_many text k.cells k.bases k.index k.whats s st.1 _ (cell_of c.args.c ∷ sight_of k.cells s.base s.seen) (omega (arith, many))

pub returns-clause-answer : goal.returns-clause-answer
unfolding push state_of
returns-clause-answer c text st =
    let k = c.args.self.now in
    let l = k.cells in
    let s = k.counts in
    let b = s.base in
    let n = s.seen in
    let one_more = sight_pushed l b n c.args.c (omega (arith, st.0.cells_room)) in
    let below = hidden_past l k.bases (b + n) c.args.c b s.depth st.1.hidden (omega arith) in
    let few : b + (n + 1) ≤ 1024 = omega arith in
    rw (c.with_seen-self.ensures, ← one_more)
    (not_many text l k.bases k.index k.whats s st.1 st.0 (set l (b + n) c.args.c) (n + 1) few (length-set l (b + n) c.args.c) below)
