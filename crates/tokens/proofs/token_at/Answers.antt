-- `tokens::token_at` meets its contract: what stands behind whitespace and comments is what the definition finds. Assumes nothing.
use mathlib.Core.Path.{sym, ◌∙◌, ap}
use native.Mathlib.Omega.{arith}
use Rattle.chars.specs.Limits.{limits}
use mathlib.Core.Bool.{false}
use Rattle.chars.specs.Stream.{stream_at}
use Rattle.tokens.specs.Tokens.{between, tokens, first, token_at}
use Rattle.tokens.specs.Runs.{past_all}
use Rattle.tokens.proofs.Words.{at_length}
use Rattle.tokens.proofs.Starts.{passed, twice}
use Rattle.tokens.proofs.token_at.Goals as goal

pub returns-then-draft-at-clause-told : goal.returns-then-draft-at-clause-told
unfolding token_at
returns-then-draft-at-clause-told c =
    let a = c.args in
    rw c.at.ensures (sym (at_length limits a.draft.now a.at between c.if-draft-at.true))

pub returns-then-draft-i-clause-told : goal.returns-then-draft-i-clause-told
unfolding token_at
returns-then-draft-i-clause-told c =
    let a = c.args in
    let i = c.skip-i.result in
    let same = passed limits false (stream_at a.draft.now a.at) ∙ ap (tokens limits between) (sym c.skip-i.ensures.0) in
    rw c.at-then-draft-i.ensures (sym (at_length limits a.draft.now i between c.if-draft-i.true) ∙ sym (ap first same))

pub token_from-requires : goal.token_from-requires
token_from-requires c =
    let e = c.skip-i.ensures.0 in
    (omega arith, e ∙ sym (ap (past_all false) e ∙ twice false _))

pub returns-clause-told : goal.returns-clause-told
unfolding token_at
returns-clause-told c =
    let a = c.args in
    let same = passed limits false (stream_at a.draft.now a.at) ∙ ap (tokens limits between)
    (sym c.skip-i.ensures.0) in
    c.token_from.ensures.told ∙ sym (ap first same)
