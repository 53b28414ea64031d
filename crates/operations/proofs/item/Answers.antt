-- `operations::item` meets its contract: where there is a cell in sight, its tests are those of the definition, in the same order.
-- Assumes nothing.
use mathlib.Core.Path.{◌≡◌, ◌∙◌}
use native.Mathlib.Omega.{arith}
use lib.ListN.{length}
use borrow.Author.Tests.{eq-eqb, ne_eqb}
use Rattle.sight.specs.Arrays.{sight_of}
use Rattle.operations.specs.Taken.{left_of, at_most}
use Rattle.operations.proofs.Taking.{under_top, lower_in_sight, top_in_sight, none_in_sight, single, several, more, left_alike}
use Rattle.operations.proofs.item.Goals as goal

pub returns-in_default : goal.returns-in_default
unfolding left_of sight_of at_most
returns-in_default c =
    let none : length c.args.cells.now ≡ 0 = c.in_default.ensures.cases in
    (rw (none, none_in_sight), tt)

pub returns-then-plain-item : goal.returns-then-plain-item
unfolding left_of at_most
returns-then-plain-item c =
    let a = c.args in
    let t = c.in-Some in
    let kind = c.if-item-lt-KINDS.true in
    let other = ne_eqb c.plain.result a.item c.if-plain-item.true in
    (rw (top_in_sight a.cells.now t.below.now t.top.now t.ensures.cases.0, single a.item t.top.now _ kind, ← c.plain.ensures.0, other), tt)

pub returns-then-item-lt-KINDS : goal.returns-then-item-lt-KINDS
unfolding left_of at_most
returns-then-item-lt-KINDS c =
    let a = c.args in
    let t = c.in-Some in
    let kind = c.if-item-lt-KINDS.true in
    let right = eq-eqb c.plain.result a.item c.if-plain-item.false in (
      rw (
        lower_in_sight a.cells.now t.below.now t.top.now t.ensures.cases.0,
        top_in_sight a.cells.now t.below.now t.top.now t.ensures.cases.0,
        single a.item t.top.now _ kind,
        ← c.plain.ensures.0,
        right,
      ),
      omega (arith, t.ensures.cases.1),
    )

pub returns-then-plain-ne0 : goal.returns-then-plain-ne0
unfolding left_of at_most
returns-then-plain-ne0 c =
    let a = c.args in
    let t = c.in-Some in
    let kind = c.if-item-lt-KINDS.false in
    let other = ne_eqb c.plain-2.result 0 c.if-plain-ne0.true in
    (rw (top_in_sight a.cells.now t.below.now t.top.now t.ensures.cases.0, several a.item t.top.now _ kind, ← c.plain-2.ensures.0, other), tt)

pub returns : goal.returns
returns c =
    let a = c.args in
    let t = c.in-Some in
    let kind = c.if-item-lt-KINDS.false in
    let right = eq-eqb c.plain-2.result 0 c.if-plain-ne0.false in
    let e = c.array.ensures in
    let lower = under_top a.cells.now t.below.now t.top.now t.ensures.cases.0 in (
      left_alike a.cells.now t.below.now 0 0 (length t.below.now) c.array.result e.1 lower
          ∙ rw (top_in_sight a.cells.now t.below.now t.top.now t.ensures.cases.0, several a.item t.top.now _ kind, ← c.plain-2.ensures.0, right) e.0,
      more _ _ c.array.result (omega (arith, t.ensures.cases.1)) e.1,
    )
