-- `scan::comment_piece` meets its contract: what stands behind the comment has the same tokens, whichever way its end is found. Assumes
-- nothing.
use native.Mathlib.Omega.{arith}
use Rattle.scan.proofs.Starts.{remark}
use Rattle.scan.proofs.Finding.{passed_told}
use Rattle.scan.proofs.comment_piece.Goals as goal

pub returns-in-Some : goal.returns-in-Some
returns-in-Some c =
    let a = c.args in
    let p = c.requires in
    let e = c.in-Some.ensures in
    passed_told a.draft.now a.at _ (omega (arith, e.0)) e.1 (remark a.draft.now a.at _ p.0 p.1 e.2)

pub returns-in-None : goal.returns-in-None
returns-in-None c =
    let a = c.args in
    let p = c.requires in
    let e = c.comment_end-in-None.ensures in
    passed_told a.draft.now a.at _ (omega (arith, e.2 (omega (arith, p.0)))) e.1 (remark a.draft.now a.at _ p.0 p.1 e.0)
