-- `scan::string::escaped` meets its contract: behind a backslash one of the three bytes is data, and to anything else the backslash makes
-- no difference. Assumes nothing.
use mathlib.Core.Path.{sym, ◌∙◌}
use native.Mathlib.Omega.{arith}
use Rattle.scan.proofs.Data.{upper, lower, single_upper, single_lower, single_backslash}
use Rattle.scan.proofs.Data.{escaped_mark, escaped_end, escaped_other}
use Rattle.scan.proofs.string.escaped.Goals as goal

pub returns-then-draft-next : goal.returns-then-draft-next
returns-then-draft-next c =
    let a = c.args in
    let p = c.requires in
    (omega arith, λ curly level u d. escaped_end a.draft.now curly a.i level p.0 p.1 c.if-draft-next.true)

pub returns-then-b-eq92 : goal.returns-then-b-eq92
returns-then-b-eq92 c =
    let a = c.args in
    let p = c.requires in
    let h = c.if-draft-next.false in (
      omega arith,
      λ curly level u d.
          escaped_mark a.draft.now curly a.i level 0x5C h p.1 c.if-b-eq92.true single_backslash,
    )

pub returns-then-b-up : goal.returns-then-b-up
returns-then-b-up c =
    let a = c.args in
    let p = c.requires in
    let h = c.if-draft-next.false in (
      omega arith,
      λ curly level u d.
          escaped_mark a.draft.now curly a.i level (upper curly) h p.1 (c.if-b-up.true ∙ u) (single_upper curly),
    )

pub returns-then-b-down : goal.returns-then-b-down
returns-then-b-down c =
    let a = c.args in
    let p = c.requires in
    let h = c.if-draft-next.false in (
      omega arith,
      λ curly level u d.
          escaped_mark a.draft.now curly a.i level (lower curly) h p.1 (c.if-b-down.true ∙ d) (single_lower curly),
    )

pub returns : goal.returns
returns c =
    let a = c.args in
    let p = c.requires in (
      omega arith,
      λ curly level u d.
          escaped_other a.draft.now curly a.i level p.0 p.1
          (λ z. c.if-b-up.false (z ∙ sym u))
          (λ z. c.if-b-down.false (z ∙ sym d))
          c.if-b-eq92.false,
    )
