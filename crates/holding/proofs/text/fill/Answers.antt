-- `holding::text::fill` meets its contract: the part that is lent comes back filled, with the draft's own bytes where the clean ones are
-- these, and else by the promise of `lines`. Assumes nothing.
use Prim.Native.Nat.{◌+◌}
use Rattle.chars.specs.Stream.{stream_at, clean}
use Rattle.holding.proofs.Filling.{part_filled}
use Rattle.holding.proofs.Returns.{first_there, from_line_feed}
use borrow.Author.Rules.{rules}
use Rattle.holding.proofs.text.fill.Goals as goal

pub bounds-draft-from : goal.bounds-draft-from
bounds-draft-from c =
    let a = c.args in
    let p = c.requires in
    first_there a.draft.now a.from a.n p.1 p.3

pub lines-requires : goal.lines-requires
lines-requires c =
    let a = c.args in
    let p = c.requires in
    let same = from_line_feed a.draft.now a.from a.n p.1 p.3 c.if-draft-from-eq13.true in
    (search rules, rw (← same) p.1, p.3)

pub returns-then-draft-from-eq13 : goal.returns-then-draft-from-eq13
returns-then-draft-from-eq13 c =
    let a = c.args in
    let p = c.requires in
    let same = from_line_feed a.draft.now a.from a.n p.1 p.3 c.if-draft-from-eq13.true in
    rw same (part_filled (clean a.n (stream_at a.draft.now (a.from + 1))) a.n a.text.now a.used
    c.lines.new.out p.0 c.lines.ensures)
