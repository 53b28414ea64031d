-- `reading::round::piece` meets its contract: what is found is whitespace or a comment, a refusal, the last token or one with text.
-- Assumes nothing.
use mathlib.Core.Path.{◌≡◌, refl, ◌∙◌, ap}
use native.Mathlib.Omega.{arith}
use Rattle.std.specs.Prelude.{Ok, Err}
use Rattle.std.proofs.lemmas.Result.{err_from_is_err_and}
use Rattle.tokens.specs.declared.Token.TheVariants.{Whole, Last}
use Rattle.scan.specs.declared.Piece.TheVariants.{Blank, Token}
use Rattle.scan.specs.Told.{told_piece}
use Rattle.entities.specs.Stepping.{judged_as, closing_as, sorted}
use Rattle.texts.proofs.Worded.{few}
use Rattle.reading.proofs.Walking.{here, refused_here, behind_here, ended_here, later}
use Rattle.reading.proofs.Turning.{steady, passed_on, at_three, with_text, blank_found, token_found}
use Rattle.reading.proofs.round.piece.Goals as goal

pub returns-in_err-p : goal.returns-in_err-p
returns-in_err-p c =
    let a = c.args in
    let f = told_piece (Err c.in_err-p.field-0.0) in
    let k = token_found a.draft.now a.at f c.in_err-p.ensures (λ e. omega arith) in
    let out = err_from_is_err_and c.from_residual.result c.from_residual.ensures.1 in
    rw (out.1, out.2) (refused_here a.draft.now a.list.now a.text.now a.groups.now a.s a.at f k.is refl)

pub returns-in-Blank : goal.returns-in-Blank
returns-in-Blank c =
    let a = c.args in
    let p = c.requires in
    let f = told_piece (Ok (Blank c.in-Blank.after)) in
    let k = blank_found a.draft.now a.at f (rw c.in-Blank.is at c.in_ok-p.ensures) refl in
    passed_on a.draft.now a.list.now a.text.now a.groups.now a.s a.at p.2 p.1 _ k.0 k.1

pub last-requires : goal.last-requires
last-requires c =
    let a = c.args in
    let p = c.requires in
    let v = c.in-Token-Last in
    let f = told_piece (Ok (Token (Last v.place v.after))) in
    let is : c.in_ok-p.p ≡ Token (Last v.place v.after) = v.is ∙ ap Token (rw v.is at v.field-0-is) in
    let k = token_found a.draft.now a.at f (rw is at c.in_ok-p.ensures) (λ e. omega arith) in
    let t = here a.draft.now a.list.now a.text.now a.groups.now a.s a.at f k.is (λ e. omega arith) in (
      omega (arith, t.on, t.there, p.0),
      steady a.s a.list.now a.text.now a.groups.now v.place
          (later a.s a.list.now a.text.now a.groups.now a.at v.place t.behind p.1),
    )

pub returns-in-Token-Last : goal.returns-in-Token-Last
unfolding closing_as judged_as
returns-in-Token-Last c =
    let a = c.args in
    let p = c.requires in
    let v = c.in-Token-Last in
    let f = told_piece (Ok (Token (Last v.place v.after))) in
    let is : c.in_ok-p.p ≡ Token (Last v.place v.after) = v.is ∙ ap Token (rw v.is at v.field-0-is) in
    let k = token_found a.draft.now a.at f (rw is at c.in_ok-p.ensures) (λ e. omega arith) in
    let t = here a.draft.now a.list.now a.text.now a.groups.now a.s a.at f k.is (λ e. omega arith) in
    rw (c.ended.ensures a.s)
    (ended_here a.draft.now a.list.now a.text.now a.groups.now a.s a.at f k.is (λ e. omega arith)
    c.last.new.list a.text.now a.groups.now _
    (c.last.ensures a.text.now (later a.s a.list.now a.text.now a.groups.now a.at v.place t.behind p.1))
    (omega (arith, c.last.auto)) refl refl)

pub take-requires : goal.take-requires
unfolding sorted
take-requires c =
    let a = c.args in
    let p = c.requires in
    let v = c.in-Token-Whole in
    let f = told_piece (Ok (Token (Whole v.w))) in
    let is : c.in_ok-p.p ≡ Token (Whole v.w) = v.is ∙ ap Token (rw v.is at v.field-0-is) in
    let three = few v.w.sort in
    let k = token_found a.draft.now a.at f (rw is at c.in_ok-p.ensures) (λ e. omega (arith, three)) in
    let t = here a.draft.now a.list.now a.text.now a.groups.now a.s a.at f k.is (λ e. omega (arith, three)) in (
      λ e. rw (k.begun (λ e. omega (arith, three))) (with_text _ a.s.mode (λ three. p.4 (p.3 ∙ at_three a.draft.now a.at three))),
      λ e. (t.sorts.0 e, t.sorts.1 (λ z. omega arith) (λ z. omega arith)),
      omega (arith, t.on, t.there, p.0),
      t.short,
      t.brief,
      t.opened,
      t.contents,
      later a.s a.list.now a.text.now a.groups.now a.at v.w.place t.behind p.1,
      t.as_is,
    )

pub returns-in-Token-Whole : goal.returns-in-Token-Whole
returns-in-Token-Whole c =
    let a = c.args in
    let p = c.requires in
    let v = c.in-Token-Whole in
    let f = told_piece (Ok (Token (Whole v.w))) in
    let is : c.in_ok-p.p ≡ Token (Whole v.w) = v.is ∙ ap Token (rw v.is at v.field-0-is) in
    let three = few v.w.sort in
    let k = token_found a.draft.now a.at f (rw is at c.in_ok-p.ensures) (λ e. omega (arith, three)) in
    rw (c.behind.ensures a.s)
    (behind_here a.draft.now a.list.now a.text.now a.groups.now a.s a.at f k.is (λ e. omega (arith, three))
    c.take.new.list c.take.new.text c.take.new.groups _ c.take.ensures
    (omega (arith, c.take.auto)) (omega (arith, c.take.auto)) (λ e. omega (arith, three)))
