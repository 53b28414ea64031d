-- `scan::string::other` meets its contract: CR LF and control characters are data. Assumes nothing.
use native.Mathlib.Omega.{arith}
use Rattle.scan.proofs.Data.{alone, line}
use Rattle.scan.proofs.string.other.Goals as goal

pub returns-then-is_line : goal.returns-then-is_line
returns-then-is_line c =
    let a = c.args in
    (omega arith, λ curly level p. line a.draft.now curly a.i level (c.is_line.ensures.0 c.if-is_line.true).1)

pub returns : goal.returns
returns c =
    let a = c.args in (
      omega arith,
      λ curly level p.
          alone a.draft.now curly a.i level (omega arith)
          (record { above = omega (arith, c.if-b-eq0.false); below = omega (arith, c.if-b-gt127.false); no_return = c.if-b-eq13.false }) p,
    )
