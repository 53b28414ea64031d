-- `tokens::bar` meets its contract: the draft ends, `;` follows, or the token goes on as behind any first character. Assumes nothing.
use mathlib.Core.Path.{◌≡◌, sym, ◌∙◌, ap}
use native.Mathlib.Omega.{arith}
use Rattle.std.proofs.Common.{rules}
use Rattle.chars.specs.Limits.{limits}
use Prim.Native.Nat.{◌+◌, ◌≤◌}
use lib.ListN.{get_or}
use Rattle.tokens.specs.Sorts.{visible, white, atomic, exclusive, inclusive, legal}
use Rattle.tokens.specs.Tokens.{bar, first}
use Rattle.tokens.specs.Runs.{class_of}
use Rattle.tokens.specs.Tokens.{Last}
use Rattle.tokens.specs.Told.{told_whole, told_token}
use Rattle.tokens.proofs.Passing.{class_at}
use Rattle.tokens.proofs.Skipping.{alone_at, no_mark}
use Rattle.tokens.proofs.Words.{at_length}
use Rattle.tokens.proofs.Starts.{last, no_last}
use Rattle.tokens.proofs.bar.Goals as goal

pub returns-then-draft-next-clause-told : goal.returns-then-draft-next-clause-told
returns-then-draft-next-clause-told c =
    let a = c.args in
    rw c.at.ensures (sym (at_length limits a.draft.now (a.at + 1) (bar a.at) c.if-draft-next.true))

pub returns-then-draft-next-eq59-clause-told : goal.returns-then-draft-next-eq59-clause-told
unfolding class_of visible white atomic exclusive inclusive legal
returns-then-draft-next-eq59-clause-told c =
    let a = c.args in
    let i = a.at + 1 in
    let own : 1 ≤ class_at a.draft.now i = rw c.if-draft-next-eq59.true (omega arith) in
    let on : i + 1 ≡ a.at + 2 = omega arith in
    ap (Last a.at) (sym on)
    ∙ sym (last limits a.draft.now a.at i (get_or a.draft.now i 0) (i + 1) (alone_at a.draft.now i (omega arith) own)
    c.if-draft-next-eq59.true)

pub returns-clause-told : goal.returns-clause-told
returns-clause-told c =
    let a = c.args in
    let i = a.at + 1 in
    let none = no_last limits a.draft.now a.at i
    (λ number after e z. no_mark a.draft.now 0x3B i number after (omega arith) (λ l. omega arith) e c.if-draft-next-eq59.false z) in
    let e : told_token c.map.result ≡ told_whole c.word.result = search rules in
    e ∙ (c.word.ensures.told ∙ sym (ap first none))
