-- `tokens::word` meets its contract: the character behind the plain ones decides, by its class. Assumes nothing.
use mathlib.Core.Path.{sym, ◌∙◌, ap}
use Prim.Native.Nat.{◌+◌, ◌-◌, ◌≤◌}
use native.Mathlib.Omega.{arith}
use lib.Dec.{eqb}
use lib.ListN.{get_or}
use borrow.Author.Tests.{eqb-true, eqb-false}
use Rattle.chars.proofs.Cases.{either}
use Rattle.chars.specs.Limits.{limits}
use Rattle.tokens.specs.Tokens.{word, first, shown}
use Rattle.tokens.specs.Runs.{class_of}
use Rattle.tokens.specs.Told.{whole_of}
use Rattle.tokens.proofs.Classes.{at_most, plain, ending, ending_curly, opening, illegal as illegal_byte}
use Rattle.tokens.proofs.Skipping.{alone_at}
use Rattle.tokens.proofs.Words.{Worded, worded, at_length, illegal, ended, opened, too_long}
use Rattle.tokens.proofs.Told.{goes_on_code, ending_code}
use Rattle.tokens.proofs.word.Goals as goal
use Rattle.tokens.proofs.word.Goals.{After-run-i}

-- what is known behind the plain characters
behind : (c : After-run-i) → Worded c.args.draft.now c.args.begun
    c.run-i.result
behind c =
    let a = c.args in
    worded a.draft.now a.begun c.min-end.result c.run-i.result c.requires
    c.min-end.ensures c.run-i.ensures

pub returns-then-draft-i-clause-told : goal.returns-then-draft-i-clause-told
returns-then-draft-i-clause-told c =
    let a = c.args in
    let i = c.run-i.result in
    let ran = behind (goal.at.returns-then-draft-i-clause-told c).After-run-i in
    let back = sym (ap first ran.same) in
    rw c.at.ensures (sym (at_length limits a.draft.now i (word a.begun (i - a.begun)) c.if-draft-i.true) ∙ back)

pub returns-in-Foreign-clause-told : goal.returns-in-Foreign-clause-told
returns-in-Foreign-clause-told c =
    let a = c.args in
    let i = c.run-i.result in
    let ran = behind (goal.at.returns-in-Foreign-clause-told c).After-run-i in
    let back = sym (ap first ran.same) in
    c.foreign_end.ensures.told ∙ back

pub returns-in-Opening-clause-told : goal.returns-in-Opening-clause-told
returns-in-Opening-clause-told c =
    let a = c.args in
    let i = c.run-i.result in
    let ran = behind (goal.at.returns-in-Opening-clause-told c).After-run-i in
    let back = sym (ap first ran.same) in
    let b = get_or a.draft.now i 0 in
    let k = c.class_at.ensures in
    let own : 1 ≤ class_of b = omega arith in
    let is = alone_at a.draft.now i (omega arith) own in
    let o = opening b (omega arith) in
    c.opened.ensures.told ∙ (sym (opened limits a.draft.now a.begun i b (i + 1) (i - a.begun) is o.is_legal o.no_exclusive
    o.is_inclusive) ∙ back)

pub returns-in-Illegal-clause-told : goal.returns-in-Illegal-clause-told
returns-in-Illegal-clause-told c =
    let a = c.args in
    let i = c.run-i.result in
    let ran = behind (goal.at.returns-in-Illegal-clause-told c).After-run-i in
    let back = sym (ap first ran.same) in
    let b = get_or a.draft.now i 0 in
    let k = c.class_at.ensures in
    let own : 1 ≤ class_of b = omega arith in
    let is = alone_at a.draft.now i (omega arith) own in
    rw c.at-in-Illegal.ensures
    (sym (illegal limits a.draft.now a.begun i b (i + 1) (i - a.begun) is (illegal_byte b (omega arith)).no_legal) ∙ back)

pub returns-in-Backslash-clause-told : goal.returns-in-Backslash-clause-told
returns-in-Backslash-clause-told c =
    let a = c.args in
    let i = c.run-i.result in
    let ran = behind (goal.at.returns-in-Backslash-clause-told c).After-run-i in
    let back = sym (ap first ran.same) in
    let b = get_or a.draft.now i 0 in
    let k = c.class_at.ensures in
    let two = goes_on_code c.class_at.result c.in-Backslash.is in
    let low = two.0 in
    let high = two.1 in
    let own : 1 ≤ class_of b = omega arith in
    let is = alone_at a.draft.now i (omega arith) own in
    let p = plain b (omega arith) (omega arith) in
    rw c.at-in-Backslash.ensures
    (sym (too_long limits a.draft.now a.begun i b (i + 1) (i - a.begun) is p.is_legal p.no_exclusive p.no_inclusive
    (ran.full (omega arith) (omega arith) (omega arith))) ∙ back)

pub returns-in_default-clause-told : goal.returns-in_default-clause-told
unfolding shown
returns-in_default-clause-told c =
    let a = c.args in
    let i = c.run-i.result in
    let ran = behind (goal.at.returns-in_default-clause-told c).After-run-i in
    let back = sym (ap first ran.same) in
    let b = get_or a.draft.now i 0 in
    let k = c.class_at.ensures in
    let d = c.in_default in
    let rest = ending_code c.class_at.result d.not-Foreign d.not-Opening d.not-Backslash d.not-Plain d.not-Illegal in
    let some = rest.0 in
    let more = rest.1 in
    let own : 1 ≤ class_of b = omega arith in
    let is = alone_at a.draft.now i (omega arith) own in
    let x = either (eqb (class_of b) 1) (λ t. ending_curly b (eqb-true (class_of b) 1 t))
    (λ t. ending b (omega (arith, eqb-false (class_of b) 1 t, more)) (at_most b own)) in
    ap (λ w. shown (whole_of w)) c.simply.ensures
    ∙ (sym (ended limits a.draft.now a.begun i b (i + 1) (i - a.begun) is x.is_legal x.is_exclusive) ∙ back)
