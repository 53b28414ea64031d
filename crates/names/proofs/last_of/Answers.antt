-- `names::last_of` meets its contract: the four bytes read are the last four of the name. Assumes nothing.
use mathlib.Core.Path.{sym, ◌∙◌}
use native.Mathlib.Omega.{arith}
use Rattle.names.proofs.Numbers.{last_short, last_long}
use Rattle.names.proofs.last_of.Goals as goal

pub returns-then-name-lt4 : goal.returns-then-name-lt4
returns-then-name-lt4 c = sym (last_short c.args.name.now (omega arith))

pub returns : goal.returns
returns c = c.four_at.ensures ∙ sym (last_long c.args.name.now (omega arith))
