-- `scan::string::string_end` meets its contract. The invariant: data has been gone through from the start up to here, and the level is no
-- more than one above the bytes of it. The measure is what is left of the draft. Assumes nothing.
use mathlib.Core.Path.{sym, ◌∙◌, subst}
use Prim.Native.Nat.{ℕ, ◌+◌, ◌-◌, ◌≤◌}
use native.Mathlib.Omega.{arith}
use Rattle.std.proofs.lemmas.Option.{IfSome_then}
use Rattle.scan.specs.Data.{Goes}
use Rattle.scan.proofs.Data.{even, joined, behind, stretch}
use Rattle.scan.proofs.Data.{lowered, raised, closes}
use Rattle.scan.proofs.string.string_end.Goals as goal
use Rattle.scan.proofs.string.string_end.Goals.{After-past_plain-i, In_ok-reach-2}

-- what is known behind the bytes that were passed over at once
so_far :
    (c : After-past_plain-i)
    → Goes c.args.draft.now c.args.curly c.args.from 1 c.past_plain-i.result c.loop-from.level c.loop-from.less
so_far c =
    let a = c.args in
    let l = c.loop-from in
    let i = c.past_plain-i.result in
    behind a.draft.now a.curly a.from 1 l.at l.level l.less i l.level l.invariant.0
    (stretch a.draft.now a.curly l.at i l.level c.past_plain-i.ensures)

-- what is known where it goes on behind data that leaves the level as it is
onward :
    (c : After-past_plain-i) (after gone : ℕ)
    → Goes c.args.draft.now c.args.curly c.past_plain-i.result c.loop-from.level after c.loop-from.level gone
    → Goes c.args.draft.now c.args.curly c.args.from 1 after c.loop-from.level (c.loop-from.less + gone)
    × (1 ≤ c.loop-from.level) × (c.loop-from.level + c.args.from ≤ after + 1)
onward c after gone g =
    let a = c.args in
    let l = c.loop-from in (
      joined a.draft.now a.curly a.from 1 c.past_plain-i.result l.level l.less after l.level gone (so_far (goal.at.After-past_plain-i c).After-past_plain-i) g,
      l.invariant.1,
      omega (arith, l.invariant.2, c.past_plain-i.ensures.on, g.on),
    )

pub overflow_add-less : goal.overflow_add-less
overflow_add-less c =
    let far = c.in_ok-reach.ensures.1 c.args.curly c.loop-from.level in
    omega (arith, (so_far (goal.at.overflow_add-less c).After-past_plain-i).on, far.on, far.there)

pub loop-from-preserved-then-b-gt127 : goal.loop-from-preserved-then-b-gt127
loop-from-preserved-then-b-gt127 c =
    onward (goal.at.loop-from-preserved-then-b-gt127 c).After-past_plain-i _ _ (c.in_ok-reach.ensures.1 c.args.curly c.loop-from.level)

pub returns-then-level-eq1 : goal.returns-then-level-eq1
returns-then-level-eq1 c =
    let a = c.args in
    let l = c.loop-from in
    let i = c.past_plain-i.result in
    let g = subst (λ k. Goes a.draft.now a.curly a.from 1 i k l.less) c.if-level-eq1.true (so_far (goal.at.returns-then-level-eq1 c).After-past_plain-i) in
    let e = c.if-b-down.true ∙ c.mark-down.ensures in
    IfSome_then c.closed.result c.closed.ensures
    (λ d r. rw (r.0, r.1) (closes a.draft.now a.curly a.from i l.less g c.if-draft-i.false e (omega (arith, r.1, r.2))))

pub loop-from-preserved-then-b-down : goal.loop-from-preserved-then-b-down
loop-from-preserved-then-b-down c =
    let a = c.args in
    let l = c.loop-from in
    let i = c.past_plain-i.result in
    let e = c.if-b-down.true ∙ c.mark-down.ensures in (
      behind a.draft.now a.curly a.from 1 i l.level l.less (i + 1) (l.level - 1) (so_far (goal.at.loop-from-preserved-then-b-down c).After-past_plain-i)
          (lowered a.draft.now a.curly i l.level c.if-draft-i.false e c.if-level-eq1.false),
      omega (arith, l.invariant.1, c.if-level-eq1.false),
      omega (arith, l.invariant.1, l.invariant.2, c.past_plain-i.ensures.on),
    )

pub loop-from-preserved-then-b-up : goal.loop-from-preserved-then-b-up
loop-from-preserved-then-b-up c =
    let a = c.args in
    let l = c.loop-from in
    let i = c.past_plain-i.result in
    let e = c.if-b-up.true ∙ c.mark-up.ensures in (
      behind a.draft.now a.curly a.from 1 i l.level l.less (i + 1) (l.level + 1) (so_far (goal.at.loop-from-preserved-then-b-up c).After-past_plain-i)
          (raised a.draft.now a.curly i l.level c.if-draft-i.false e
          (λ z. c.if-b-down.false (z ∙ sym c.mark-down.ensures))),
      omega arith,
      omega (arith, l.invariant.2, c.past_plain-i.ensures.on),
    )

pub loop-from-preserved-then-b-eq92 : goal.loop-from-preserved-then-b-eq92
loop-from-preserved-then-b-eq92 c =
    let a = c.args in
    let l = c.loop-from in
    let i = c.past_plain-i.result in
    let up = c.mark-up.ensures in
    let down = c.mark-down.ensures in (
      behind a.draft.now a.curly a.from 1 i l.level l.less c.escaped-at.result l.level (so_far (goal.at.loop-from-preserved-then-b-eq92 c).After-past_plain-i)
          (c.escaped-at.ensures.1 a.curly l.level up down),
      l.invariant.1,
      omega (arith, l.invariant.2, c.past_plain-i.ensures.on, c.escaped-at.ensures.0),
    )

-- what is known behind anything else
other_far :
    (c : In_ok-reach-2)
    → Goes c.args.draft.now
    c.args.curly
    c.past_plain-i.result
    c.loop-from.level
    c.in_ok-reach-2.reach.after
    c.loop-from.level
    c.in_ok-reach-2.reach.less
other_far c =
    let a = c.args in
    c.in_ok-reach-2.ensures.1 a.curly c.loop-from.level
    (even a.curly _
    (λ z. c.if-b-up.false (z ∙ sym c.mark-up.ensures))
    (λ z. c.if-b-down.false (z ∙ sym c.mark-down.ensures))
    c.if-b-eq92.false)

pub overflow_add-less-else-b-eq92 : goal.overflow_add-less-else-b-eq92
overflow_add-less-else-b-eq92 c =
    let far = other_far (goal.at.overflow_add-less-else-b-eq92 c).In_ok-reach-2 in
    omega (arith, (so_far (goal.at.overflow_add-less-else-b-eq92 c).After-past_plain-i).on, far.on, far.there)

pub loop-from-preserved : goal.loop-from-preserved
loop-from-preserved c =
    onward (goal.at.loop-from-preserved c).After-past_plain-i _ _ (other_far (goal.at.loop-from-preserved c).In_ok-reach-2)
