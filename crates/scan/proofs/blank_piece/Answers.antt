-- `scan::blank_piece` meets its contract: the number of the place tells which way is the one. Assumes nothing.
use mathlib.Core.Path.{refl, sym, ◌∙◌, ap}
use Prim.Native.Nat.{◌+◌}
use native.Mathlib.Omega.{arith}
use Rattle.runs.specs.Codes.{begins_code}
use Rattle.scan.proofs.Begun.{no_blank}
use Rattle.scan.proofs.Sorts.{begins_remark}
use Rattle.scan.proofs.Starts.{own_number, blank_byte}
use Rattle.scan.proofs.Finding.{passed_told}
use Rattle.scan.proofs.blank_piece.Goals as goal

pub comment_piece-requires : goal.comment_piece-requires
unfolding begins_code
comment_piece-requires c =
    let a = c.args in
    let p = c.requires in
    (p.0, begins_remark _ (own_number a.draft.now a.at 2 refl refl (ap begins_code (sym c.in-Comment.is) ∙ p.1)))

pub line_piece-requires : goal.line_piece-requires
line_piece-requires c =
    let a = c.args in
    let p = c.requires in
    let zero = no_blank a.begins p.2 c.in_default.not-Whitespace c.in_default.not-Comment in
    (p.0, own_number a.draft.now a.at 0 refl refl (sym zero ∙ p.1))

pub returns-in-Whitespace : goal.returns-in-Whitespace
unfolding begins_code
returns-in-Whitespace c =
    let a = c.args in
    let p = c.requires in
    let one = ap begins_code (sym c.in-Whitespace.is) ∙ p.1 in (
      passed_told a.draft.now a.at (a.at + 1) (omega arith) (omega (arith, p.0))
          (blank_byte a.draft.now a.at p.0 (own_number a.draft.now a.at 1 refl refl one)),
      λ none. cc,
    )
