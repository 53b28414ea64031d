-- `entities::arrays::array_ends` meets its contract: right behind `[` one entity, else 16 where no element is innermost, or two entities
-- and one group less. Assumes nothing.
use mathlib.Core.Path.{◌∙◌}
use mathlib.Core.Bool.{true, false}
use Rattle.holding.specs.Kind.{kind_code}
use Rattle.entities.proofs.Modes.{so_bracketed}
use Rattle.entities.proofs.OpenGroups.{same_top}
use Rattle.entities.proofs.Rules.{deep_enough, closes-empty, closes-refused, closes-allowed}
use Rattle.entities.proofs.arrays.array_ends.Goals as goal

pub returns-then-eq : goal.returns-then-eq
unfolding kind_code
returns-then-eq c =
    let a = c.args in
    let p = c.requires in
    closes-empty a.s a.list.now a.groups.now a.place p.2 p.0 (so_bracketed a.s.mode c.eq.result true c.eq.ensures c.if-eq.true)
    c.one.ensures

pub overflow_sub-s : goal.overflow_sub-s
overflow_sub-s c = let a = c.args in deep_enough a.groups.now a.s.depth c.in-Some.number c.in-Some.ensures

pub returns-in-Some : goal.returns-in-Some
unfolding kind_code
returns-in-Some c =
    let a = c.args in
    let p = c.requires in
    closes-allowed a.s a.list.now a.groups.now a.place p.2 p.0 c.in-Some.number
    (so_bracketed a.s.mode c.eq.result false c.eq.ensures c.if-eq.false) c.in-Some.ensures c.if-number-ne0.true
    (rw c.from.ensures at c.two.ensures)

pub returns-in_default : goal.returns-in_default
returns-in_default c =
    let a = c.args in
    let p = c.requires in
    closes-refused a.s a.list.now a.groups.now a.place p.2 p.0 (so_bracketed a.s.mode c.eq.result false c.eq.ensures c.if-eq.false)
    (λ n t. same_top t c.in-Some.ensures ∙ c.if-number-ne0.false)

pub returns-in_default-2 : goal.returns-in_default-2
returns-in_default-2 c =
    let a = c.args in
    let p = c.requires in
    closes-refused a.s a.list.now a.groups.now a.place p.2 p.0 (so_bracketed a.s.mode c.eq.result false c.eq.ensures c.if-eq.false)
    (λ n t. let none = c.in_default.is in let told = c.top.ensures in absurd (cc))
