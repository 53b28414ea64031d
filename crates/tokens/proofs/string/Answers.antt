-- `tokens::string` meets its contract. The invariant: what the definition answers from here is what it answered at the start
-- of the data. Assumes nothing.
use mathlib.Core.Path.{◌≡◌, sym, ◌∙◌, ap}
use Prim.Native.Nat.{◌+◌, ◌≤◌}
use native.Mathlib.Omega.{arith}
use Rattle.std.proofs.Common.{ℕ, false, length, Some, None, Ok, rules}
use Rattle.chars.specs.Limits.{limits}
use Rattle.chars.specs.Character.{Clean, character_at, seen}
use Rattle.chars.specs.Refusal.{number_of}
use Rattle.chars.specs.Stream.{stream_at}
use Rattle.chars.proofs.Characters.{refused, ended}
use Rattle.chars.proofs.Extent.{encoded_size}
use Rattle.tokens.specs.Tokens.{tokens, first, string, closed, Refused}
use Rattle.tokens.specs.Runs.{refusal_of}
use Rattle.tokens.specs.Told.{told_opened}
use Rattle.tokens.proofs.Skipping.{reaches}
use Rattle.tokens.proofs.Strings.{stops, closes_here, too_long, goes_on, level_bounds}
use Rattle.tokens.proofs.string.Goals as goal
use Rattle.tokens.proofs.string.Goals.{In-Ok-Some, in_default-via-in-Ok+in_default, in_default-via-in_default}

-- the character that stands there
there :
    (c : In-Ok-Some) → character_at c.args.draft.now c.loop-clean.i ≡ Clean c.in-Ok-Some.clean.number c.in-Ok-Some.clean.after
there c =
    let d = c.in-Ok-Some in
    let is : c.character_at-answer.result ≡ Ok (Some d.clean) = d.is ∙ ap Ok (rw d.is at d.field-0-is) in
    sym c.character_at-answer.ensures ∙ ap seen is

-- what stands where no character does is told by `refusal`
told_so :
    (c : goal.After-refusal) → ((number after : ℕ) → seen c.character_at-answer.result ≡ Clean number after → ⊥)
    → Refused (number_of c.refusal.result.refusal) c.refusal.result.place
    ≡ first (tokens limits (string (told_opened c.args.o) 0 1 false) (stream_at c.args.draft.now c.args.o.from))
told_so c none =
    let a = c.args in
    let l = c.loop-clean in
    let e = c.character_at-answer.ensures in
    let stop = stops limits a.draft.now l.i (string (told_opened a.o) l.n l.level l.odd) (λ number after f. none number after (e ∙ f)) in
    sym (c.refusal.ensures none) ∙ (ap (refusal_of (length a.draft.now)) e ∙ (sym stop ∙ l.invariant.0))

pub returns-in_default-clause-told : goal.returns-in_default-clause-told
returns-in_default-clause-told c =
    elim c.in_default.branch [
      | in_default-via-in-Ok+in_default w ↦ (let none : w.in_default.field-0 ≡ None = search rules in
          told_so c (rw (w.in_default.is, none) (λ number after e. ended e)))
      | in_default-via-in_default w ↦ told_so c (rw w.in_default.is (λ number after e. refused e))
    ]

pub returns-then-closes-clause-told : goal.returns-then-closes-clause-told
unfolding closed
returns-then-closes-clause-told c =
    let a = c.args in
    let l = c.loop-clean in
    let d = c.in-Ok-Some.clean in
    let is = there (goal.at.returns-then-closes-clause-told c).In-Ok-Some in
    rw c.closed.ensures
    (sym (closes_here limits a.draft.now (told_opened a.o) l.i d.number d.after l.n l.level l.odd is
    (sym c.closes.ensures ∙ c.if-closes.true)) ∙ l.invariant.0)

pub returns-then-n-size-clause-told : goal.returns-then-n-size-clause-told
returns-then-n-size-clause-told c =
    let a = c.args in
    let l = c.loop-clean in
    let d = c.in-Ok-Some.clean in
    let is = there (goal.at.returns-then-n-size-clause-told c).In-Ok-Some in
    rw c.at.ensures
    (sym (too_long limits a.draft.now (told_opened a.o) l.i d.number d.after l.n l.level l.odd is
    (sym c.closes.ensures ∙ c.if-closes.false)
    (omega (arith, c.encoded_length-size.ensures, l.invariant.2))) ∙ l.invariant.0)

pub loop-clean-smaller : goal.loop-clean-smaller
loop-clean-smaller c =
    let a = c.args in
    let l = c.loop-clean in
    let d = c.in-Ok-Some.clean in
    let is = there (goal.at.loop-clean-smaller c).In-Ok-Some in
    let far = reaches a.draft.now l.i d.number d.after is in
    omega (arith, far.0, far.1)

pub loop-clean-preserved : goal.loop-clean-preserved
loop-clean-preserved c =
    let encoded = c.encoded_length-size in
    let a = c.args in
    let l = c.loop-clean in
    let o = told_opened a.o in
    let d = c.in-Ok-Some.clean in
    let is = there (goal.at.loop-clean-preserved c).In-Ok-Some in
    let far = reaches a.draft.now l.i d.number d.after is in
    let size = encoded.ensures in
    let many = encoded_size d.number in
    let more = sym c.closes.ensures ∙ c.if-closes.false in
    let fits : l.n + encoded.result ≤ 4096 = omega (arith, c.if-n-size.false, l.invariant.2) in
    let deep = level_bounds o.sort l.level d.number l.odd l.invariant.3 more in (
      rw (c.level_after-level.ensures, c.odd_after-odd.ensures, size)
          (sym (ap first (goes_on limits a.draft.now o l.i d.number d.after l.n l.level l.odd is more
          (omega (arith, fits, size)))) ∙ l.invariant.0),
      far.1,
      fits,
      rw c.level_after-level.ensures deep.0,
      rw c.level_after-level.ensures (omega (arith, deep.1, size, many.0, l.invariant.4)),
    )
