-- `entities::groups::group_begins` meets its contract: 17 where as many are open as may be, else one entity and one group more. Assumes
-- nothing.
use native.Mathlib.Omega.{arith}
use Rattle.holding.specs.Kind.{kind_code}
use Rattle.entities.proofs.Rules.{begins-refused, begins-allowed}
use Rattle.entities.proofs.groups.group_begins.Goals as goal

pub returns-then-s-ge-GROUPS : goal.returns-then-s-ge-GROUPS
returns-then-s-ge-GROUPS c =
    let a = c.args in
    let p = c.requires in
    begins-refused a.s a.list.now a.groups.now a.place p.2 p.0 _ c.if-s-ge-GROUPS.true

pub returns : goal.returns
unfolding kind_code
returns c =
    let a = c.args in
    let p = c.requires in
    begins-allowed a.s a.list.now a.groups.now a.place p.2 p.0 c.push.new.groups c.if-s-ge-GROUPS.false c.push.ensures
    (omega (arith, c.push.auto, p.2.array)) c.one.ensures
