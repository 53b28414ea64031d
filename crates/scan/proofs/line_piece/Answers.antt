-- `scan::line_piece` meets its contract: CR LF is one LF, and so is passed over. Assumes nothing.
use Prim.Native.Nat.{◌+◌}
use native.Mathlib.Omega.{arith}
use Rattle.scan.proofs.Starts.{blank_line}
use Rattle.scan.proofs.Places.{stands_other, stands_none}
use Rattle.scan.proofs.Finding.{passed_told}
use Rattle.scan.proofs.line_piece.Goals as goal
use Rattle.scan.proofs.line_piece.Goals.{else-draft-at-eq13-via-then-draft-at-eq13+else-is_line, else-draft-at-eq13-via-else-draft-at-eq13}

pub returns-then-is_line : goal.returns-then-is_line
returns-then-is_line c =
    let a = c.args in
    let e = c.is_line.ensures.0 c.if-is_line.true in
    (passed_told a.draft.now a.at (a.at + 2) (omega arith) e.0 (blank_line a.draft.now a.at e.1), λ none. cc)

pub returns : goal.returns
returns c =
    let a = c.args in (
      tt,
      λ none.
          elim c.else-draft-at-eq13.branch [
            | else-draft-at-eq13-via-then-draft-at-eq13+else-is_line w ↦
                stands_none a.draft.now a.at (w.is_line.ensures.1 w.if-is_line.false)
            | else-draft-at-eq13-via-else-draft-at-eq13 w ↦ stands_other a.draft.now a.at c.requires.1 w.if-draft-at-eq13.false
          ],
    )
