-- `tokens::foreign_end` meets its contract: no character, LF from CR with LF, or a character that is not US-ASCII. Assumes nothing.
use mathlib.Core.Path.{◌≡◌, refl, sym, ◌∙◌, ap}
use Prim.Native.Nat.{◌-◌}
use Rattle.std.proofs.Common.{Err, rules}
use Rattle.chars.specs.Limits.{limits}
use Rattle.tokens.specs.Sorts.{visible, white, exclusive, legal}
use Rattle.tokens.specs.Tokens.{word, shown}
use Rattle.tokens.specs.Told.{whole_of}
use Rattle.tokens.proofs.Classes.{foreign}
use Rattle.tokens.proofs.Skipping.{foreign_number}
use Rattle.tokens.proofs.Strings.{stops}
use Rattle.tokens.proofs.Words.{illegal, ended}
use Rattle.tokens.proofs.foreign_end.Goals as goal

pub returns-in_err-c-clause-told : goal.returns-in_err-c-clause-told
returns-in_err-c-clause-told c =
    let a = c.args in
    let e : c.from_residual.result ≡ Err c.in_err-c.field-0.0 = search rules in
    rw e (sym c.in_err-c.ensures.0 ∙ sym (stops limits a.draft.now a.i (word a.begun (a.i - a.begun)) c.in_err-c.ensures.1))

pub returns-then-c-eq10-clause-told : goal.returns-then-c-eq10-clause-told
unfolding legal visible white exclusive shown
returns-then-c-eq10-clause-told c =
    let a = c.args in
    let d = c.in_ok-c.c in
    ap (λ w. shown (whole_of w)) c.simply.ensures
    ∙ sym (ended limits a.draft.now a.begun a.i d.number d.after (a.i - a.begun) c.in_ok-c.ensures
    (ap legal c.if-c-eq10.true ∙ refl) (ap exclusive c.if-c-eq10.true ∙ refl))

pub returns-clause-told : goal.returns-clause-told
returns-clause-told c =
    let a = c.args in
    let d = c.in_ok-c.c in
    let is = c.in_ok-c.ensures in
    let high = foreign_number a.draft.now a.i d.number d.after c.requires.2 is c.if-c-eq10.false in
    rw c.at.ensures (sym (illegal limits a.draft.now a.begun a.i d.number d.after (a.i - a.begun) is (foreign d.number high).no_legal))
