-- `runs::byte::ends` meets its contract: SP and LF are computed, and the other tests are those of the definition, of which one goes
-- before: what goes on with a token is 3 by itself. Assumes nothing.
use mathlib.Core.Path.{sym, ◌∙◌, ap}
use mathlib.Core.Bool.{false≢true}
use borrow.Author.Tests.{eqb-true}
use Rattle.chars.proofs.Cases.{either}
use Rattle.tokens.specs.Sorts.{visible, exclusive}
use Rattle.runs.specs.Bytes.{ends_of, goes_on}
use Rattle.runs.specs.Codes.{ends_code}
use Rattle.runs.proofs.byte.ends.Goals as goal
use Rattle.runs.proofs.byte.ends.Goals.{then-b-eq32-via-then-b-eq32, then-b-eq32-via-else-b-eq32+then-b-eq10}

pub returns-then-b-eq32 : goal.returns-then-b-eq32
unfolding ends_code ends_of exclusive
returns-then-b-eq32 c =
    elim c.then-b-eq32.branch [
      | then-b-eq32-via-then-b-eq32 w ↦ ap ends_of (sym w.if-b-eq32.true)
      | then-b-eq32-via-else-b-eq32+then-b-eq10 w ↦ ap ends_of (sym w.if-b-eq10.true)
    ]

pub returns-then-goes_on : goal.returns-then-goes_on
unfolding ends_code goes_on
returns-then-goes_on c =
    sym (eqb-true _ _ (sym c.goes_on.ensures ∙ c.if-goes_on.true))

pub returns-then-exclusive : goal.returns-then-exclusive
unfolding ends_code ends_of
returns-then-exclusive c = simp (sym c.exclusive.ensures ∙ c.if-exclusive.true)

pub returns-then-inclusive : goal.returns-then-inclusive
unfolding ends_code ends_of
returns-then-inclusive c =
    let out = sym c.exclusive.ensures ∙ c.if-exclusive.false in
    simp (out, sym c.inclusive.ensures ∙ c.if-inclusive.true)

pub returns : goal.returns
unfolding ends_code ends_of goes_on
returns c =
    let b = c.args.b in
    let stops = sym c.goes_on.ensures ∙ c.if-goes_on.false in
    let out = sym c.exclusive.ensures ∙ c.if-exclusive.false in
    let no-string = sym c.inclusive.ensures ∙ c.if-inclusive.false in
    either (visible b)
    (λ seen. absurd (false≢true (sym stops ∙ simp (out, no-string, seen))))
    (λ unseen. simp (out, no-string, unseen))
