-- No second answer meets the contract of a public call of `step`.
use Prim.Native.Nat.{ℕ}
use mathlib.Core.Path.{◌≡◌, refl, sym, ◌∙◌, ap}
use denote.Ref.{Bor}
use denote.RattleType.{RattleType}
use denote.Param.Laws.{Laws}
use mir.Syntax.{Dict}
use Rattle.std.proofs.Common.{Result, Ok, Err, IfOk, MatchResult}
use Rattle.chars.specs.declared.refusal.Refused.{Refused}
use Rattle.chars.proofs.Only.{one, OneAnswer}
use Rattle.tokens.specs.Step.{onward}
use Rattle.tokens.specs.Tokens.{Refused as refused}
use Rattle.tokens.specs.Told.{told_token, NoDataIn}
use Rattle.tokens.specs.declared.Token.{Token}
use Rattle.tokens.proofs.Told.{same_told}
use Rattle.step.specs.Stepping.{Gives}
use Rattle.step.specs.declared.Opened.{Opened}
use Rattle.step.proofs as fn

pub step_at : OneAnswer fn.step_at.Kinds.ps fn.step_at.Kinds.r fn.step_at.Reads.Post
step_at κs given a b x y = one

pub by_opening : OneAnswer fn.by_opening.Kinds.ps fn.by_opening.Kinds.r fn.by_opening.Reads.Post
by_opening κs given a b x y = one

pub token : OneAnswer fn.token.Kinds.ps fn.token.Kinds.r fn.token.Reads.Post
token κs given a b x y p q = same_told a b (one p.0 q.0) p.1 q.1

-- of an answer with refusals of any type
reached_behind :
    {R : Type 0} (place a b : ℕ) (t : Result Token R)
    → MatchResult t (λ w. a ≡ onward place (told_token (Ok w))) (λ r. (number at : ℕ) → a ≡ onward place (refused number at))
    → MatchResult t (λ w. b ≡ onward place (told_token (Ok w))) (λ r. (number at : ℕ) → b ≡ onward place (refused number at))
    → a ≡ b
reached_behind place a b (Ok w) p q = one p q
reached_behind place a b (Err r) p q = one (p 0 0) (q 0 0)

module _ (R : RattleType) (L : Laws R) (d : Dict) where
  pub onwards : OneAnswer (fn.onward.Kinds.ps R L) (fn.onward.Kinds.r R L) (fn.onward.Reads.Post R L d)
  onwards κs given a b x y p q = reached_behind given.0 a b given.1.0 p q

same_opened : (o p : Opened) → o.draft ≡ p.draft → o.place ≡ p.place → o ≡ p
same_opened o p d e = by_fields o.draft o.place d e
  where
    by_fields :
        (draft : Bor _) (place : ℕ) → draft ≡ p.draft → place ≡ p.place
        → ◌≡◌ {A = Opened} (record { draft = draft; place = place }) p
    by_fields draft place d e = rw (d, e) refl

-- of `open` and `Opened::new`, and of `step` and `Opened::step`, by the words of their contracts: the opened draft, and the token with
-- the opened draft behind it
pub opened :
    (draft : Bor _) (a b : Opened) → (a.draft ≡ draft) × (a.place ≡ 0) → (b.draft ≡ draft) × (b.place ≡ 0) → a ≡ b
opened draft a b p q = same_opened a b (one p.0 q.0) (one p.1 q.1)

pub step :
    (o after after' : Opened) (t u : Result Token Refused) → Gives o (told_token t) after → Gives o (told_token u) after'
    → IfOk t NoDataIn → IfOk u NoDataIn → (t ≡ u) × (after ≡ after')
step o after after' t u p q plain plain' =
    let same = one p.0 q.0 in
    (same_told t u same plain plain', same_opened after after' (one p.1 q.1) (p.2 ∙ (ap (onward o.place) same ∙ sym q.2)))
