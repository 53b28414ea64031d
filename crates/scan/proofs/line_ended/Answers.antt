-- `scan::line_ended` meets its contract: CR LF is one LF, which ends a token. Assumes nothing.
use Rattle.scan.specs.Opens.{how_code}
use Rattle.scan.proofs.Starts.{line_ends}
use Rattle.scan.proofs.line_ended.Goals as goal

pub returns-then-is_line : goal.returns-then-is_line
unfolding how_code
returns-then-is_line c =
    let a = c.args in
    let p = c.requires in
    line_ends a.draft.now a.at a.i p.0 p.1 p.2 (c.is_line.ensures.0 c.if-is_line.true).1
