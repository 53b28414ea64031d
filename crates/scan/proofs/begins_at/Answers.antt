-- `scan::begins_at` meets its contract: the byte tells, and of `|` the byte behind it. Assumes nothing.
use mathlib.Core.Path.{sym, ◌∙◌, ap}
use Rattle.runs.specs.Bytes.{begins_at}
use Rattle.runs.specs.Codes.{begins_code}
use Rattle.scan.proofs.Begun.{no_bar}
use Rattle.scan.proofs.begins_at.Goals as goal

pub returns-then-is_last : goal.returns-then-is_last
unfolding begins_code begins_at
returns-then-is_last c =
    let five = sym c.begins-begins.ensures ∙ ap begins_code c.in-Bar.is in
    rw (c.in-Bar.is, five, sym c.is_last.ensures ∙ c.if-is_last.true)

pub returns-else-is_last : goal.returns-else-is_last
unfolding begins_code begins_at
returns-else-is_last c =
    let five = sym c.begins-begins.ensures ∙ ap begins_code c.in-Bar.is in
    rw (five, sym c.is_last.ensures ∙ c.if-is_last.false)

pub returns-in_default : goal.returns-in_default
unfolding begins_at
returns-in_default c = rw (sym c.begins-begins.ensures, no_bar c.begins-begins.result c.in_default.not-Bar)
