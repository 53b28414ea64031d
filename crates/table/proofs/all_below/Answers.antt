-- `table::all_below` meets its contract: the iterator's test of each byte is the definition's. Assumes nothing.
use mathlib.Core.Path.{◌∙◌}
use borrow.Author.Rules.{rules}
use Rattle.std.proofs.Common.{tests}
use lib.Dec.{ltb}
use Rattle.std.proofs.lemmas.Iterator.{YieldsList-from_slice}
use Rattle.std.proofs.lemmas.Iterator.Search.{all_from_yields_List}
use Rattle.table.proofs.Below.{list_below}
use Rattle.table.proofs.all_below.Goals as goal

pub returns : goal.returns
returns c =
    let s = c.args.part.now in
    all_from_yields_List (λ x. ltb x c.args.bound) _ _ _ c.all.ensures.ran (YieldsList-from_slice s cc) (λ x b q k. search (rules, tests))
    ∙ list_below c.args.bound s
