-- `structure::last::last` meets its contract: 17 and 18 for the group that it brings come first, then 13 for that group, 12 in a
-- metacommand and 13 with a group open, and else it is one entity, with nothing open behind it. Assumes nothing.
use Rattle.holding.specs.Kind.{kind_code}
use Rattle.structure.proofs.Alone.{ended_17, ended_18, ended_array, ended_metacommand, ended_open, ended}
use Rattle.structure.proofs.last.last.Goals as goal

pub returns-then-depth-ge-GROUPS : goal.returns-then-depth-ge-GROUPS
returns-then-depth-ge-GROUPS c = ended_17 c.in-Bracket.is c.if-depth-ge-GROUPS.true

pub returns-then-list-s-lt6 : goal.returns-then-list-s-lt6
returns-then-list-s-lt6 c = ended_18 c.in-Bracket.is c.if-depth-ge-GROUPS.false c.if-list-s-lt6.true

pub returns-else-list-s-lt6 : goal.returns-else-list-s-lt6
returns-else-list-s-lt6 c = ended_array c.in-Bracket.is c.if-depth-ge-GROUPS.false c.if-list-s-lt6.false

pub returns-in-Metacommand : goal.returns-in-Metacommand
returns-in-Metacommand c = ended_metacommand c.in-Metacommand.is

pub returns-then-depth-ne0 : goal.returns-then-depth-ne0
returns-then-depth-ne0 c = ended_open c.in-Regular.is c.if-depth-ne0.true

pub returns-else-depth-ne0 : goal.returns-else-depth-ne0
unfolding kind_code
returns-else-depth-ne0 c = ended c.in-Regular.is c.one.ensures c.if-depth-ne0.false
