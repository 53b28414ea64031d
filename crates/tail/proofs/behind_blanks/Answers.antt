-- The tests of the lengths are the definition's own, and behind the blanks the stream says yes or no.
use mathlib.Core.Path.{◌≡◌, sym, ◌∙◌, ap}
use mathlib.Core.List.{List}
use Prim.Native.Nat.{ℕ, ◌≤◌}
use native.Mathlib.Omega.{arith}
use borrow.Author.Tests.{eqb-true, eqb-false, lt-ltb, le-ltb}
use lib.ListN.{length}
use Rattle.chars.specs.Limits.{limits}
use Rattle.chars.specs.Stream.{stream_at}
use Rattle.tokens.specs.Runs.{past_blanks}
use Rattle.tokens.specs.Tail.{blank, tail}
use Rattle.tokens.proofs.Skipping.{blanks_twice}
use Rattle.tail.proofs.Blanks.{blank_past, blank_end, blank_no}
use Rattle.tail.proofs.behind_blanks.Goals as goal

-- a draft within the limit and a place within the draft: what is behind the blanks decides
module _ (draft : List ℕ) (place end : ℕ) (few : length draft ≤ 16384) (in-draft : place ≤ length draft)
    (at_end : stream_at draft end ≡ past_blanks (stream_at draft place)) where
  decided : tail limits draft place ≡ blank (stream_at draft end)
  unfolding tail
  decided =
      rw (le-ltb 16384 (length draft) few, le-ltb (length draft) place in-draft)
      (blank_past (stream_at draft place) ∙ ap blank (sym at_end))

  stays : stream_at draft end ≡ past_blanks (stream_at draft end)
  stays = at_end ∙ (sym (blanks_twice (stream_at draft place)) ∙ ap past_blanks (sym at_end))

pub returns-then-draft-gt-DRAFT : goal.returns-then-draft-gt-DRAFT
unfolding tail
returns-then-draft-gt-DRAFT c = rw (lt-ltb 16384 _ c.if-draft-gt-DRAFT.true)

pub returns-then-draft-place : goal.returns-then-draft-place
unfolding tail
returns-then-draft-place c = rw (le-ltb 16384 _ c.if-draft-gt-DRAFT.false, lt-ltb _ _ c.if-draft-place.true)

pub at_end-requires : goal.at_end-requires
at_end-requires c = c.blank_end-end.ensures.1

pub returns-then-at_end : goal.returns-then-at_end
returns-then-at_end c =
    let draft = c.args.draft.now in
    let place = c.args.place in
    let end = c.blank_end-end.result in
    let there = eqb-true end (length draft) (sym c.at_end.ensures ∙ c.if-at_end.true) in
    rw (
      decided draft place end c.if-draft-gt-DRAFT.false c.if-draft-place.false
          c.blank_end-end.ensures.0,
      blank_end draft end (omega (arith, there)),
    )

pub returns : goal.returns
returns c =
    let draft = c.args.draft.now in
    let place = c.args.place in
    let end = c.blank_end-end.result in
    let behind = c.blank_end-end.ensures in
    let few = c.if-draft-gt-DRAFT.false in
    let in-draft = c.if-draft-place.false in
    let elsewhere = eqb-false end (length draft) (sym c.at_end.ensures ∙ c.if-at_end.false) in
    rw (
      decided draft place end few in-draft behind.0,
      blank_no draft end (omega (arith, behind.1, elsewhere)) (stays draft place end few in-draft behind.0),
    )
