-- `names::few` meets its contract: the three bytes that it reads are those of the name that the definition takes. Assumes nothing.
use mathlib.Core.Path.{sym, ◌∙◌}
use Rattle.names.specs.Marks.{few_of}
use Rattle.names.proofs.Numbers.{few_bytes}
use Rattle.names.proofs.few.Goals as goal

pub returns-then-n-eq0 : goal.returns-then-n-eq0
unfolding few_of
returns-then-n-eq0 c = rw c.if-n-eq0.true

pub returns : goal.returns
returns c = sym (few_bytes c.args.name.now c.if-n-eq0.false ∙ cc)
