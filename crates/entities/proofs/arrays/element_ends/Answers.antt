-- `entities::arrays::element_ends` meets its contract: 15 where no element is innermost, else two entities and the next element. The number
-- of an element is at most the place and one, so that one more fits. Assumes nothing.
use mathlib.Core.Path.{refl, ◌∙◌}
use Prim.Native.Nat.{◌+◌}
use native.Mathlib.Omega.{arith}
use Rattle.holding.specs.Kind.{kind_code}
use Rattle.entities.proofs.OpenGroups.{same_top}
use Rattle.entities.proofs.Rules.{small_top, deep_enough, next-refused, next-allowed}
use Rattle.entities.proofs.arrays.element_ends.Goals as goal

pub overflow_add-groups : goal.overflow_add-groups
overflow_add-groups c =
    let a = c.args in
    let p = c.requires in
    omega (arith, p.1, small_top a.groups.now a.s.depth c.in-Some.number (a.place + 1) c.in-Some.ensures p.2.numbers)

pub overflow_sub-groups : goal.overflow_sub-groups
overflow_sub-groups c = let a = c.args in deep_enough a.groups.now a.s.depth c.in-Some.number c.in-Some.ensures

pub returns-in-Some : goal.returns-in-Some
unfolding kind_code
returns-in-Some c =
    let a = c.args in
    let p = c.requires in
    next-allowed a.s a.list.now a.groups.now a.place p.2 p.0 _ c.in-Some.number c.in-Some.ensures c.if-number-ne0.true refl c.two.ensures

pub returns-in_default : goal.returns-in_default
returns-in_default c =
    let a = c.args in
    let p = c.requires in
    next-refused a.s a.list.now a.groups.now a.place p.2 p.0 a.groups.now
    (λ n t. same_top t c.in-Some.ensures ∙ c.if-number-ne0.false)

pub returns-in_default-2 : goal.returns-in_default-2
returns-in_default-2 c =
    let a = c.args in
    let p = c.requires in
    next-refused a.s a.list.now a.groups.now a.place p.2 p.0 a.groups.now
    (λ n t. let none = c.in_default.is in let told = c.top.ensures in absurd (cc))
