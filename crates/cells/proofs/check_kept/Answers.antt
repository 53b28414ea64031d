-- `cells::check_kept` meets its contract. The invariant: what the definition answers from this entity and these cells on is what it answers
-- from the first one on. Assumes nothing.
use mathlib.Core.Path.{◌≡◌, refl, sym, ◌∙◌, ap}
use Prim.Native.Nat.{◌+◌, ◌-◌}
use native.Mathlib.Omega.{arith}
use Rattle.chars.specs.Limits.{limits}
use Rattle.names.proofs.Entering.{no_entries}
use Rattle.table.specs.Entered.{operations_of}
use Rattle.rules.specs.Cells.{through, empty}
use Rattle.rules.specs.Kinds.{kinds, check}
use Rattle.rules.proofs.Ending.{stopped_at}
use Rattle.sight.specs.Arrays.{sight_of, hidden_of, names_of, state_of, stacked, apart}
use Rattle.sight.specs.Stacks.{state_in, meant, ready}
use Rattle.sight.proofs.Sight.{so_many_cells}
use Rattle.cells.specs.Kept.{entity_at, entities_from, check_kept, ended_of}
use Rattle.cells.proofs.Going.{entities_on, here, counted_on, ended, behind, so_deep}
use Rattle.cells.proofs.check_kept.Goals as goal

pub loop-i-init : goal.loop-i-init
unfolding stacked apart check_kept check empty state_of sight_of hidden_of names_of
loop-i-init c =
    let a = c.args in
    let all : a.n - 0 ≡ a.n = omega arith in (
      (
        record {
          few = omega arith;
          known = omega arith;
          indexed = no_entries a.text.now;
          distinct = tt;
          cells_room = refl;
          index_room = refl;
          whats_room = refl;
        },
        record { shallow = omega arith; hidden = refl; bases_room = refl },
      ),
      rw all c.requires.0.groups,
      rw all refl,
    )

pub act-requires : goal.act-requires
act-requires c =
    let l = c.loop-i in
    let a = c.args in (
      here a.list.now a.text.now l.i a.n l.stack.counts.depth c.requires.0 c.loop-i-test.true l.invariant.1,
      c.requires.1,
      c.requires.2,
      l.invariant.0,
    )

pub returns-in-Err : goal.returns-in-Err
unfolding meant ended_of entity_at
returns-in-Err c =
    let l = c.loop-i in
    let a = c.args in
    let os = operations_of a.table.now in
    let st = state_in a.text.now l.stack in
    let from = entities_on a.list.now a.text.now l.i a.n c.loop-i-test.true in
    let stop = sym (rw c.in-Err.is at c.act.ensures.same) in
    let place = ap (λ r. r.place) c.of.ensures in
    rw place
    (sym (stopped_at limits kinds os l.i _ st _ _ stop) ∙ (ap (through limits kinds os l.i st) (sym from) ∙ l.invariant.2))

pub loop-i-preserved : goal.loop-i-preserved
unfolding meant ready state_of
loop-i-preserved c =
    let l = c.loop-i in
    let a = c.args in
    let os = operations_of a.table.now in
    let st = state_in a.text.now l.stack in
    let from = entities_on a.list.now a.text.now l.i a.n c.loop-i-test.true in
    let went = sym (rw c.in_default.is at c.act.ensures.same) in
    let on = rw c.in_default.is at c.act.ensures.on in
    let e = entity_at a.list.now a.text.now l.i in
    let es = entities_from a.list.now a.text.now (l.i + 1) (a.n - (l.i + 1)) in
    let next = state_in a.text.now c.act.new.stack in (
      on,
      rw so_deep at (behind limits kinds os 64 l.i st e next es went (rw (so_deep l.stack.cells l.stack.bases l.stack.counts.base l.stack.counts.depth)
          (rw from at l.invariant.1))),
      sym (counted_on limits kinds os l.i st next e es went) ∙ (ap (through limits kinds os l.i st) (sym from) ∙ l.invariant.2),
    )

pub returns : goal.returns
unfolding ended_of
returns c =
    let l = c.loop-i in
    let a = c.args in
    let k = l.stack in
    let st = state_in a.text.now k in
    let os = operations_of a.table.now in
    let so = ended limits kinds os a.list.now a.text.now l.i a.n st (omega arith) (omega arith) in
    let many = so_many_cells a.text.now k.cells k.bases k.index k.whats k.counts l.invariant.0.1 in
    rw (← many) (sym so ∙ l.invariant.2)
