-- `runs::byte::is_line` meets its contract: CR with LF right behind it is one LF by the definition, and any other CR is no character.
-- Assumes
-- nothing.
use Prim.Native.Nat.{◌+◌}
use native.Mathlib.Omega.{arith}
use lib.ListN.{get_or}
use borrow.Author.Tests.{eqb-true, eqb-false, ltb-true}
use Rattle.runs.proofs.Bytes.{line_at, no_line_at, no_line_end}
use Rattle.runs.proofs.byte.is_line.Goals as goal

pub returns-else-next-draft : goal.returns-else-next-draft
returns-else-next-draft c =
    let a = c.args in
    let p = c.requires in
    (λ h. absurd (omega (arith, ltb-true _ _ h)), λ h. no_line_end a.draft.now a.at p.0 c.if-next-draft.false p.1)

pub returns-then-next-draft : goal.returns-then-next-draft
returns-then-next-draft c =
    let a = c.args in
    let p = c.requires in
    let next = get_or a.draft.now (a.at + 1) 0 in (
      λ h. (omega arith, line_at a.draft.now a.at (omega arith) p.1 (eqb-true next 0x0A h)),
      λ h. no_line_at a.draft.now a.at (omega arith) p.1 (eqb-false next 0x0A h),
    )
