-- One step after another (document 01, "The calls").
use Rattle.std.specs.Prelude.{ℕ, zero, suc, ◌≡◌, Bool, true, false, List}
use Rattle.chars.specs.Limits.{Limits, limits}
use Rattle.tokens.specs.Step.{stepped, onward}
use Rattle.tokens.specs.Tokens.{Tokens, token, last, refused, shown}
use Rattle.tokens.specs.Tokens.{Token}
use Rattle.tokens.specs.Tokens.{Simple, Quoted, Curly, Last, Refused}
use Rattle.step.specs.declared.Opened.{Opened}

-- what a step of an opened draft gives: the token, and the same draft opened at the place reached
abbrev pub Gives : Opened → Token → Opened → Type 0
Gives before t after =
    (t ≡ stepped limits before.draft.now before.place)
    × (after.draft ≡ before.draft)
    × (after.place ≡ onward before.place t)

-- the answer of the step behind `n` others, of a draft opened at a place
unfoldable pub stepping : Limits → (draft : List ℕ) → (place n : ℕ) → Token
stepping L draft place zero = stepped L draft place
stepping L draft place (suc n) = stepping L draft (onward place (stepped L draft place)) n

-- the place reached after `n` steps
unfoldable pub reaching : Limits → (draft : List ℕ) → (place n : ℕ) → ℕ
reaching L draft place zero = place
reaching L draft place (suc n) = reaching L draft (onward place (stepped L draft place)) n

-- whether an answer is a token other than `|;`
unfoldable pub goes_on : Token → Bool
goes_on (Simple place after length) = true
goes_on (Quoted place after prefix from length) = true
goes_on (Curly place after prefix from length) = true
goes_on (Last place after) = false
goes_on (Refused number place) = false

-- the tokens that reading uses, as answers: each in its turn, and then `|;` or the refusal for ever
unfoldable pub nth : Tokens → (n : ℕ) → Token
nth (token w rest) zero = shown w
nth (token w rest) (suc n) = nth rest n
nth (last place after) n = Last place after
nth (refused number place) n = Refused number place
