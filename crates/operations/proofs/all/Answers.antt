-- `operations::all` meets its contract: the iterator's test of each cell is the definition's. Assumes nothing.
use mathlib.Core.Path.{◌∙◌}
use borrow.Author.Rules.{rules}
use Rattle.std.proofs.Common.{tests}
use Rattle.std.proofs.lemmas.Iterator.{YieldsList-from_slice}
use Rattle.std.proofs.lemmas.Iterator.Search.{all_from_yields_List}
use Rattle.operations.proofs.Taking.{of_kind, all_tested}
use Rattle.operations.proofs.all.Goals as goal

pub returns : goal.returns
returns c =
    let cells = c.args.cells.now in
    all_from_yields_List (of_kind c.args.kind) _ _ _ c.all.ensures.ran (YieldsList-from_slice cells cc) (λ x b q k. search (rules, tests))
    ∙ all_tested c.args.kind cells
