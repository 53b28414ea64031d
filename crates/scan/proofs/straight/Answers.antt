-- `scan::straight` meets its contract: the number of the place tells which way is the one. Assumes nothing.
use mathlib.Core.Path.{refl, sym, ◌∙◌, ap}
use mathlib.Core.Logic.{inl, inr}
use Prim.Native.Nat.{◌+◌}
use borrow.Author.Tests.{ltb-false}
use Rattle.runs.specs.Codes.{begins_code}
use Rattle.scan.proofs.Starts.{own_number, token_number, alone_other, alone_curly, begun_last}
use Rattle.scan.proofs.Places.{stands_token}
use Rattle.scan.proofs.Finding.{simple_told, last_told}
use Rattle.scan.proofs.straight.Goals as goal

pub returns-in-Bar : goal.returns-in-Bar
unfolding begins_code
returns-in-Bar c =
    let a = c.args in
    let p = c.requires in
    (last_told a.draft.now a.at (a.at + 2) (begun_last a.draft.now a.at p.0 (ap begins_code (sym c.in-Bar.is) ∙ p.1)), λ none. cc)

pub returns-in-Atomic : goal.returns-in-Atomic
unfolding begins_code
returns-in-Atomic c =
    let a = c.args in
    let p = c.requires in (
      elim c.in-Atomic.is [
        | inl e ↦
            simple_told a.draft.now a.at (a.at + 1) 1
            (alone_other a.draft.now a.at p.0 (own_number a.draft.now a.at 3 refl refl (ap begins_code (sym e) ∙ p.1))) _
            c.alone.ensures
        | inr e ↦
            simple_told a.draft.now a.at (a.at + 1) 1
            (alone_curly a.draft.now a.at p.0 (own_number a.draft.now a.at 7 refl refl (ap begins_code (sym e) ∙ p.1))) _
            c.alone.ensures
      ],
      λ none. cc,
    )

pub returns-in_default : goal.returns-in_default
returns-in_default c =
    let a = c.args in
    let p = c.requires in
    let three = token_number a.draft.now a.at _ p.1 (ltb-false _ 3 (sym c.no_token.ensures ∙ c.if-no_token.false)) in
    (c.word_piece.ensures, λ none. stands_token a.draft.now a.at p.0 three)
