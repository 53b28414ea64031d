-- `tokens::token_from` meets its contract: the first character decides, by its class. Assumes nothing.
use mathlib.Core.Path.{◌≡◌, refl, sym, ◌∙◌, ap}
use native.Mathlib.Omega.{arith}
use Rattle.std.proofs.Common.{rules}
use Rattle.chars.specs.Limits.{limits}
use Prim.Native.Nat.{◌+◌, ◌≤◌}
use lib.ListN.{get_or}
use borrow.Author.Tests.{eq-eqb, ne_eqb}
use Rattle.tokens.specs.Sorts.{visible, white, atomic, exclusive, inclusive, legal}
use Rattle.tokens.specs.Runs.{class_of}
use Rattle.tokens.specs.Tokens.{shown}
use Rattle.tokens.specs.Told.{whole_of, told_whole, told_token}
use Rattle.tokens.proofs.Classes.{plain, opening, illegal as illegal_byte, atomic_left}
use Rattle.tokens.proofs.Skipping.{alone_at}
use Rattle.tokens.proofs.Starts.{neither, illegal, opened, alone, barred, worded}
use Rattle.tokens.proofs.Told.{goes_on_code, ending_code}
use Rattle.tokens.proofs.token_from.Goals as goal

pub returns-in-Opening-clause-told : goal.returns-in-Opening-clause-told
returns-in-Opening-clause-told c =
    let p = c.requires in
    let a = c.args in
    let i = a.i in
    let b = get_or a.draft.now i 0 in
    let k = c.class_at.ensures in
    let own : 1 ≤ class_of b = omega arith in
    let is = alone_at a.draft.now i p.0 own in
    let no = neither limits a.draft.now i p.1 b (i + 1) is in
    let o = opening b (omega arith) in
    let e : told_token c.map.result ≡ told_whole c.opened.result = search rules in
    e ∙ (c.opened.ensures.told ∙ sym (opened limits a.draft.now i b (i + 1) is no.0 no.1 o.is_visible o.is_inclusive))

pub returns-in-Illegal-clause-told : goal.returns-in-Illegal-clause-told
returns-in-Illegal-clause-told c =
    let p = c.requires in
    let a = c.args in
    let i = a.i in
    let b = get_or a.draft.now i 0 in
    let k = c.class_at.ensures in
    let own : 1 ≤ class_of b = omega arith in
    let is = alone_at a.draft.now i p.0 own in
    let no = neither limits a.draft.now i p.1 b (i + 1) is in
    rw c.at.ensures (sym (illegal limits a.draft.now i b (i + 1) is no.0 no.1 (illegal_byte b (omega arith)).no_visible))

pub returns-then-b-eq124-clause-told : goal.returns-then-b-eq124-clause-told
unfolding class_of visible white atomic exclusive inclusive legal
returns-then-b-eq124-clause-told c =
    let a = c.args in
    let i = a.i in
    let b = get_or a.draft.now i 0 in
    let four : class_of b ≡ 4 = ap class_of c.if-b-eq124.true ∙ refl in
    let own : 1 ≤ class_of b = omega arith in
    let is = alone_at a.draft.now i c.requires.0 own in
    let no = neither limits a.draft.now i c.requires.1 b (i + 1) is in
    let p = plain b (omega arith) (omega arith) in
    c.bar.ensures.told ∙ sym (barred limits a.draft.now i b (i + 1) is no.0 no.1 p.is_visible p.no_inclusive p.no_atomic
    (eq-eqb b 0x7C c.if-b-eq124.true))

pub returns-in-Backslash-clause-told : goal.returns-in-Backslash-clause-told
returns-in-Backslash-clause-told c =
    let a = c.args in
    let i = a.i in
    let b = get_or a.draft.now i 0 in
    let k = c.class_at.ensures in
    let two = goes_on_code c.class_at.result c.in-Backslash.is in
    let low = two.0 in
    let high = two.1 in
    let own : 1 ≤ class_of b = omega arith in
    let is = alone_at a.draft.now i c.requires.0 own in
    let no = neither limits a.draft.now i c.requires.1 b
    (i + 1) is in
    let p = plain b (omega arith) (omega arith) in
    let e : told_token c.map-in-Backslash.result ≡ told_whole c.word.result = search rules in
    e ∙ (c.word.ensures.told ∙ sym (worded limits a.draft.now i b (i + 1) is no.0 no.1 p.is_visible p.no_inclusive p.no_atomic
    (ne_eqb b 0x7C c.if-b-eq124.false)))

pub returns-in_default-clause-told : goal.returns-in_default-clause-told
unfolding shown
returns-in_default-clause-told c =
    let p = c.requires in
    let a = c.args in
    let i = a.i in
    let b = get_or a.draft.now i 0 in
    let k = c.class_at.ensures in
    let d = c.in_default in
    let rest = ending_code c.class_at.result d.not-Foreign d.not-Opening d.not-Backslash d.not-Plain d.not-Illegal in
    let some = rest.0 in
    let more = rest.1 in
    let own : 1 ≤ class_of b = omega arith in
    let is = alone_at a.draft.now i p.0 own in
    let no = neither limits a.draft.now i p.1 b (i + 1) is in
    let t = atomic_left b own (λ e. omega arith) (λ e. omega arith) (λ e. omega arith) (λ e. omega arith) no.0 no.1 in
    ap (λ w. shown (whole_of w)) c.simply.ensures
    ∙ sym (alone limits a.draft.now i b (i + 1) is no.0 no.1 t.is_visible t.no_inclusive t.is_atomic)
