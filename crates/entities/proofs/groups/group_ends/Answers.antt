-- `entities::groups::group_ends` meets its contract: 14 where no group of its own is innermost, else one entity and one group less. Assumes
-- nothing.
use mathlib.Core.Path.{◌∙◌}
use Rattle.holding.specs.Kind.{kind_code}
use Rattle.entities.proofs.OpenGroups.{same_top}
use Rattle.entities.proofs.Rules.{deep_enough, ends-refused, ends-allowed}
use Rattle.entities.proofs.groups.group_ends.Goals as goal

pub overflow_sub-s : goal.overflow_sub-s
overflow_sub-s c = let a = c.args in deep_enough a.groups.now a.s.depth c.in-Some-eq0.field-0 c.in-Some-eq0.ensures

pub returns-in-Some-eq0 : goal.returns-in-Some-eq0
unfolding kind_code
returns-in-Some-eq0 c =
    let a = c.args in
    let p = c.requires in
    let top = c.in-Some-eq0 in
    ends-allowed a.s a.list.now a.groups.now a.place p.2 p.0 top.field-0 top.ensures top.field-0-test c.one.ensures

pub returns-in_default : goal.returns-in_default
returns-in_default c =
    let a = c.args in
    let p = c.requires in
    let top = c.in_default in
    ends-refused a.s a.list.now a.groups.now a.place p.2 p.0 a.groups.now (λ n t z. top.field-0-test.1 (same_top top.ensures t ∙ z))

pub returns-in_default-2 : goal.returns-in_default-2
returns-in_default-2 c =
    let a = c.args in
    let p = c.requires in
    let none = c.in_default.is in
    let told = c.top.ensures in
    ends-refused a.s a.list.now a.groups.now a.place p.2 p.0 a.groups.now (λ n t z. absurd (cc))
