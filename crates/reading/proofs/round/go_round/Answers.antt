-- `reading::round::go_round` meets its contract: the byte tells whether a token alone or a word is taken, or what is found there. Assumes
-- nothing.
use mathlib.Core.Bool.{true}
use mathlib.Core.Path.{refl, sym, ◌∙◌}
use native.Mathlib.Omega.{arith}
use borrow.Author.Tests.{eq-eqb}
use Rattle.entities.proofs.Modes.{so_commanded}
use Rattle.scan.proofs.Starts.{own_number}
use Rattle.entities.specs.Stepping.{Ruled, structural}
use Rattle.reading.proofs.Turning.{ends_on, steady, alone_on, by_itself, again-on, at_three, with_text, word_taken}
use Rattle.reading.proofs.Turning.{word_on, commanding, atomic_code, other_code, simple_code}
use Rattle.reading.proofs.round.go_round.Goals as goal
use Rattle.reading.proofs.round.go_round.Goals.{then-eq+then-eq-2+else-b-eq37+else-b-eq59, else-eq}

pub returns-then-draft-at : goal.returns-then-draft-at
returns-then-draft-at c =
    let a = c.args in
    rw c.at.ensures (ends_on a.draft.now a.list.now a.text.now a.groups.now a.s a.at c.if-draft-at.true)

pub structure-requires : goal.structure-requires
unfolding structural
structure-requires c =
    let a = c.args in (
      eq-eqb _ 3 (own_number a.draft.now a.at 3 refl refl (sym (atomic_code c.begins_at-begins.result _ c.eq.ensures c.if-eq.true) ∙
          c.begins_at-begins.ensures)),
      so_commanded a.s.mode _ _ c.eq-then-eq.ensures c.if-eq-2.false,
      omega (
        arith,
        c.requires.0,
        c.if-draft-at.false,
      ),
      steady a.s a.list.now a.text.now a.groups.now a.at c.requires.1,
    )

pub returns-else-eq-2 : goal.returns-else-eq-2
returns-else-eq-2 c =
    let a = c.args in
    let ready = c.requires.1 in
    rw (c.behind-else-eq-2.ensures a.s)
    (alone_on a.draft.now a.list.now a.text.now a.groups.now a.s a.at (omega (
      arith,
      c.if-draft-at.false,
    )) ready (own_number a.draft.now a.at
    3 refl refl (sym (atomic_code c.begins_at-begins.result _ c.eq.ensures c.if-eq.true) ∙ c.begins_at-begins.ensures)) _
    c.structure.new.list c.structure.new.groups (λ T is. c.structure.ensures T a.text.now is ready)
    (omega (arith, c.structure.auto)))

pub returns-then-b-eq37 : goal.returns-then-b-eq37
returns-then-b-eq37 c =
    let a = c.args in
    rw c.at-then-b-eq37.ensures
    (again-on a.draft.now a.list.now a.text.now a.groups.now a.s a.at (omega (
      arith,
      c.if-draft-at.false,
    )) c.requires.1
    (own_number a.draft.now a.at 3 refl refl (sym (atomic_code c.begins_at-begins.result _ c.eq.ensures c.if-eq.true) ∙
    c.begins_at-begins.ensures)) (commanding a.s.mode (so_commanded a.s.mode _ _ c.eq-then-eq.ensures c.if-eq-2.true)) c.if-b-eq37.true)

pub returns-then-b-eq59 : goal.returns-then-b-eq59
unfolding Ruled
returns-then-b-eq59 c =
    let a = c.args in
    let ready = c.requires.1 in
    let three = (own_number a.draft.now a.at 3 refl refl (sym (atomic_code c.begins_at-begins.result _ c.eq.ensures c.if-eq.true) ∙
    c.begins_at-begins.ensures))
    in
    let two = (commanding a.s.mode (so_commanded a.s.mode _ _ c.eq-then-eq.ensures c.if-eq-2.true)) in
    rw (c.behind.ensures a.s)
    (alone_on a.draft.now a.list.now a.text.now a.groups.now a.s a.at (omega (
      arith,
      c.if-draft-at.false,
    )) ready three _ c.metacommand_ends.new.list a.groups.now
    (λ T is. by_itself a.draft.now a.list.now a.text.now a.groups.now a.s a.at (omega (
      arith,
      c.if-draft-at.false,
    )) ready three two T _ c.metacommand_ends.new.list a.groups.now
    (c.metacommand_ends.ensures T a.text.now (is ∙ c.if-b-eq59.true) ready))
    (omega (arith, c.metacommand_ends.auto)))

pub take_word-step-requires : goal.take_word-step-requires
take_word-step-requires c =
    let a = c.args in
    let p = c.requires in
    let i = c.in-Some.word.at in
    let e = c.in-Some.ensures in
    let one = simple_code c.in-Some.word.how true (rw c.in-Some.is at c.if-eq-3.ensures) refl in
    let there = c.if-draft-at.false in
    let t = word_taken a.draft.now a.list.now a.text.now a.groups.now a.s a.at (omega (arith, there)) p.1 i (e.simple one) in
    rw c.in-Some.is (
      refl,
      with_text _ a.s.mode
          (λ three.
          elim c.if-eq.branch [
            | then-eq+then-eq-2+else-b-eq37+else-b-eq59 w ↦ (
              commanding a.s.mode
                  (so_commanded a.s.mode _ _ w.eq-then-eq.ensures w.if-eq-2.true),
              w.if-b-eq37.false,
              w.if-b-eq59.false,
            )
            | else-eq w ↦ absurd (other_code c.begins_at-begins.result _ c.eq.ensures w.if-eq.false
                (c.begins_at-begins.ensures ∙ at_three a.draft.now a.at three))
          ]),
      omega (arith, e.some one),
      t.0,
      omega (arith, p.0, there),
      t.1,
      p.1,
    )

pub returns-in-Some : goal.returns-in-Some
returns-in-Some c =
    let a = c.args in
    let p = c.requires in
    let i = c.in-Some.word.at in
    let e = c.in-Some.ensures in
    let one = simple_code c.in-Some.word.how true (rw c.in-Some.is at c.if-eq-3.ensures) refl in
    let there = c.if-draft-at.false in
    rw (c.behind-in-Some.ensures a.s, c.in-Some.is)
    (word_on a.draft.now a.list.now a.text.now a.groups.now a.s a.at (omega (arith, there)) p.1 i (e.simple one) _
    c.take_word-step.new.list c.take_word-step.new.text c.take_word-step.new.groups (rw c.in-Some.is at c.take_word-step.ensures)
    (omega (arith, c.take_word-step.auto))
    (omega (arith, c.take_word-step.auto)))

pub piece-requires : goal.piece-requires
piece-requires c =
    let p = c.requires in (
      p.0,
      p.1,
      omega (arith, c.if-draft-at.false),
      c.begins_at-begins.ensures,
      λ e. elim c.if-eq.branch [
        | then-eq+then-eq-2+else-b-eq37+else-b-eq59 w ↦ (
          commanding c.args.s.mode
              (so_commanded c.args.s.mode _ _ w.eq-then-eq.ensures w.if-eq-2.true),
          w.if-b-eq37.false,
          w.if-b-eq59.false,
        )
        | else-eq w ↦ absurd (other_code c.begins_at-begins.result _ c.eq.ensures w.if-eq.false e)
      ],
      c.worded-e.ensures,
    )
