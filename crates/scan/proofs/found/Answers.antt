-- `scan::found` meets its contract: the straight way knows, or the token as `tokens` has it begins there, since neither whitespace nor a
-- comment does. Assumes nothing.
use mathlib.Core.Path.{◌≡◌}
use borrow.Author.Rules.{rules}
use Rattle.scan.specs.Told.{told_piece}
use Rattle.scan.proofs.Finding.{pieced, general_told}
use Rattle.scan.proofs.found.Goals as goal

pub returns-in-None : goal.returns-in-None
returns-in-None c =
    let a = c.args in
    let known = c.token_at.ensures in
    let e : told_piece c.map.result ≡ told_piece (pieced c.token_at.result) = search rules in
    rw e (general_told a.draft.now a.at (c.straight.ensures.1 c.in-None.is) c.token_at.result known.told known.plain)
