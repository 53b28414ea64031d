-- `scan::word::word_end` meets its contract. The invariant: the token has not ended before this place, if it is no longer than the limit,
-- and of the eight bytes from here on each one without a flag goes on with it; the limit is asked for where it ends. With each flag that
-- is gone through the flags are a lesser number, and behind the last of them eight bytes less are left. Assumes nothing.
use mathlib.Core.Path.{◌≡◌, sym, ◌∙◌}
use Prim.Native.Nat.{ℕ, ◌+◌, ◌-◌, ◌≤◌}
use native.Mathlib.Omega.{arith}
use lib.ListN.{get_or}
use Rattle.std.proofs.lemmas.Option.{IfSome_then}
use Rattle.runs.specs.Bytes.{ends_of, goes_on}
use Rattle.runs.specs.Codes.{ends_code}
use Rattle.runs.proofs.Flags.{looked}
use Rattle.scan.specs.Found.{Worded}
use Rattle.scan.specs.Opens.{how_code}
use Rattle.scan.proofs.Words.{Grows, starts, stopping, alone, flagged, unflagged, unflag}
use Rattle.scan.proofs.word.word_end.Goals as goal
use Rattle.scan.proofs.word.word_end.Goals.{After-before_flag, At-loop-flags}

pub returns-then-draft-at-lt8 : goal.returns-then-draft-at-lt8
returns-then-draft-at-lt8 c =
    let a = c.args in
    IfSome_then c.stopped.result c.stopped.ensures
    (λ s e. rw (e.0, e.1) (stopping a.draft.now a.begun _ _ _ (starts a.draft.now a.begun c.requires) (c.among_last.ensures e.2)))

pub returns-then-white : goal.returns-then-white
unfolding how_code
returns-then-white c =
    let a = c.args in
    alone a.draft.now a.begun (omega (arith, c.if-draft-at-lt8.false, c.requires))
    (sym c.white.ensures ∙ c.if-white.true)

pub loop-flags-init : goal.loop-flags-init
loop-flags-init c =
    let a = c.args in (
      starts a.draft.now a.begun c.requires,
      omega (arith, c.if-draft-at-lt8.false, c.requires),
      looked goes_on a.draft.now _ c.eight.result c.word_flags-flags.result c.eight.ensures
          c.word_flags-flags.ensures,
    )

-- the token ends at the first flag, if no longer than the limit and if it is said to end there
ended :
    (c : After-before_flag) (how : ℕ)
    → how ≡ ends_of (get_or c.args.draft.now (c.loop-flags.at + c.before_flag.result) 0)
    → c.loop-flags.at + c.before_flag.result - c.args.begun ≤ 255
    → Worded c.args.draft.now c.args.begun
    (c.loop-flags.at + c.before_flag.result) how
ended c how is short =
    let a = c.args in
    let l = c.loop-flags in
    let k = c.before_flag in
    flagged a.draft.now a.begun l.at l.flags k.result how l.invariant.0 l.invariant.1 l.invariant.2
    (k.ensures.2 c.if-flags-ne0.true).0 k.ensures.1 (sym is) short

pub loop-flags-preserved-in-GoesOn : goal.loop-flags-preserved-in-GoesOn
unfolding ends_code
loop-flags-preserved-in-GoesOn c =
    let l = c.loop-flags in
    let a = c.args in
    let k = c.before_flag in (
      l.invariant.0,
      l.invariant.1,
      unflag a.draft.now l.at l.flags c.behind_flag-flags.result k.result l.invariant.2
          (sym c.in-GoesOn.ensures)
          (λ i. c.behind_flag-flags.ensures.1 k.result i k.ensures.1 (k.ensures.2 c.if-flags-ne0.true).1),
    )

pub returns-in-Exclusive : goal.returns-in-Exclusive
unfolding ends_code how_code
returns-in-Exclusive c =
    IfSome_then c.ending.result c.ending.ensures
    (λ s e. rw (e.0, e.1) (ended (goal.at.returns-in-Exclusive c).After-before_flag _ c.in-Exclusive.ensures e.2))

pub returns-in-Inclusive : goal.returns-in-Inclusive
unfolding ends_code how_code
returns-in-Inclusive c =
    IfSome_then c.ending-in-Inclusive.result c.ending-in-Inclusive.ensures
    (λ s e. rw (e.0, e.1) (ended (goal.at.returns-in-Inclusive c).After-before_flag _ c.in-Inclusive.ensures e.2))

pub returns-in-Illegal : goal.returns-in-Illegal
unfolding ends_code how_code
returns-in-Illegal c =
    IfSome_then c.ending-in-Illegal.result c.ending-in-Illegal.ensures
    (λ s e. rw (e.0, e.1) (ended (goal.at.returns-in-Illegal c).After-before_flag _ c.in-Illegal.ensures e.2))

-- the token goes on behind eight bytes without a flag
behind :
    (c : At-loop-flags) → c.loop-flags.flags ≡ 0
    → Grows c.args.draft.now c.args.begun (c.loop-flags.at + 8)
behind c e =
    let a = c.args in
    let l = c.loop-flags in
    unflagged a.draft.now a.begun l.at l.flags l.invariant.0 l.invariant.1 l.invariant.2 e

pub returns-then-draft-at-lt8-2 : goal.returns-then-draft-at-lt8-2
returns-then-draft-at-lt8-2 c =
    let a = c.args in
    IfSome_then c.stopped-then-draft-at-lt8-2.result c.stopped-then-draft-at-lt8-2.ensures
    (λ s e. rw (e.0, e.1) (stopping a.draft.now a.begun _ _ _ (behind (goal.at.returns-then-draft-at-lt8-2 c).At-loop-flags c.if-flags-ne0.false)
    (c.among_last-then-draft-at-lt8-2.ensures e.2)))

pub loop-flags-preserved : goal.loop-flags-preserved
loop-flags-preserved c =
    let a = c.args in
    let h = c.loop-flags.invariant.1 in (
      behind (goal.at.loop-flags-preserved c).At-loop-flags c.if-flags-ne0.false,
      omega (arith, c.if-draft-at-lt8-2.false),
      looked goes_on a.draft.now _ c.eight-else-flags-ne0.result c.word_flags-flags-else-flags-ne0.result c.eight-else-flags-ne0.ensures
          c.word_flags-flags-else-flags-ne0.ensures,
    )
