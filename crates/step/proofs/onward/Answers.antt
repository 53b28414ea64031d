-- Each arm is the definition at its variant: of a whole token, of whatever sort, the byte after it, and of a refusal, of whatever number
-- and place, the place.
use Rattle.std.proofs.Common.{◌≡◌, refl, sym, rules, Ok}
use Rattle.tokens.specs.Step.{onward}
use Rattle.tokens.specs.Told.{told_sort}
use Rattle.tokens.specs.declared.Token.TheVariants.{Whole, Last}
use Rattle.step.proofs.Stepping.{shown_onward}
use Rattle.step.proofs.onward.Goals as goal
use Rattle.step.proofs.onward.Goals.{in-Ok-Whole, in-Ok-Last, in-Err}

pub returns : goal.returns
unfolding onward
returns g c = elim c.match-token.branch [
  | in-Ok-Whole w ↦
      (let t = w.in-Ok-Whole.w in
      let e : c.args.token ≡ Ok (Whole t) = search rules in
      rw (e, w.result-is) (sym (shown_onward c.args.place t.place t.after t.prefix t.from t.length (told_sort t.sort))))
  | in-Ok-Last w ↦
      (let l = w.in-Ok-Last in
      let e : c.args.token ≡ Ok (Last l.field-0-0 l.field-0-1) = search rules in
      rw (e, w.result-is))
  | in-Err w ↦ rw (w.in-Err.is, w.result-is) (λ number at. refl)
]
