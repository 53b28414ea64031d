-- `names::first_of` meets its contract: the four bytes read are the first four of the name. Assumes nothing.
use mathlib.Core.Path.{sym, ◌∙◌}
use native.Mathlib.Omega.{arith}
use Rattle.names.proofs.Numbers.{first_short, first_long}
use Rattle.names.proofs.first_of.Goals as goal

pub returns-then-name-lt4 : goal.returns-then-name-lt4
returns-then-name-lt4 c = c.few.ensures ∙ sym (first_short c.args.name.now (omega arith))

pub returns : goal.returns
returns c = c.four_at.ensures ∙ sym (first_long c.args.name.now (omega arith))
