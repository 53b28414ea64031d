-- `scan::worded` meets its contract: a string has no bytes before the one that opens it, and any other token ends where its own bytes do.
-- Assumes nothing.
use mathlib.Core.Path.{sym, ◌∙◌, ap}
use Rattle.runs.specs.Codes.{begins_code}
use Rattle.scan.specs.Opens.{how_code}
use Rattle.scan.proofs.Starts.{begun_string, opened_ends}
use Rattle.scan.proofs.worded.Goals as goal

pub returns-in-Opening : goal.returns-in-Opening
unfolding begins_code how_code
returns-in-Opening c =
    let a = c.args in
    let p = c.requires in
    opened_ends a.draft.now a.at p.0 (begun_string a.draft.now a.at p.0 (ap begins_code (sym c.in-Opening.is) ∙ p.1))

pub own_end-requires : goal.own_end-requires
unfolding begins_code
own_end-requires c = (c.requires.0, ap begins_code (sym c.in-Word.is) ∙ c.requires.1)
