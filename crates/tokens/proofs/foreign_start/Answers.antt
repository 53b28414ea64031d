-- `tokens::foreign_start` meets its contract: no character, or one that is not US-ASCII, since LF would be whitespace. Assumes nothing.
use mathlib.Core.Path.{sym, ◌∙◌, ap}
use mathlib.Core.Bool.{false≢true}
use Rattle.chars.specs.Limits.{limits}
use Rattle.tokens.specs.Sorts.{white}
use Rattle.tokens.specs.Tokens.{between}
use Rattle.tokens.proofs.Classes.{foreign}
use Rattle.tokens.proofs.Skipping.{foreign_number}
use Rattle.tokens.proofs.Strings.{stops}
use Rattle.tokens.proofs.Starts.{neither, illegal}
use Rattle.tokens.proofs.foreign_start.Goals as goal

pub returns-in-Ok : goal.returns-in-Ok
unfolding white
returns-in-Ok c =
    let p = c.requires in
    let a = c.args in
    let d = c.in-Ok.field-0 in
    let is = c.in-Ok.ensures in
    let no = neither limits a.draft.now a.i p.2 d.number d.after is in
    let high = foreign_number a.draft.now a.i d.number d.after p.1 is (λ line. false≢true (sym no.0 ∙ ap white line)) in
    rw c.at.ensures (sym (illegal limits a.draft.now a.i d.number d.after is no.0 no.1 (foreign d.number high).no_visible))

pub returns-in-Err : goal.returns-in-Err
returns-in-Err c =
    sym c.in-Err.ensures.0 ∙ sym (stops limits c.args.draft.now c.args.i between c.in-Err.ensures.1)
