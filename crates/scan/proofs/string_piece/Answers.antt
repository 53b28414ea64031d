-- `scan::string_piece` meets its contract: where the string is closed, it is known whole. Assumes nothing.
use Rattle.scan.proofs.Finding.{curly_told, quoted_told}
use Rattle.scan.proofs.string_piece.Goals as goal

pub returns-then-draft-i-eq123 : goal.returns-then-draft-i-eq123
returns-then-draft-i-eq123 c =
    let a = c.args in
    curly_told a.draft.now a.at a.i _ _ c.if-draft-i-eq123.true c.requires.2 c.in_ok-data.ensures _ c.string_with.ensures

pub returns : goal.returns
returns c =
    let a = c.args in
    quoted_told a.draft.now a.at a.i _ _ c.if-draft-i-eq123.false c.requires.2 c.in_ok-data-2.ensures _ c.string_with-2.ensures
