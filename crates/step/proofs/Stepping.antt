-- Stepping gives the tokens that reading uses. Behind a token come the tokens from the byte after it on, where the next step looks;
-- after `|;` or a refusal the place stays, so the answer comes again. A token ends behind where it begins and within the draft, so that
-- the places reached grow until an end is met.
use mathlib.Core.Path.{◌≡◌, refl, sym, ◌∙◌, ap}
use mathlib.Core.Bool.{true, false, false≢true}
use mathlib.Core.List.{List}
use Prim.Native.Nat.{ℕ, zero, suc, ◌+◌, ◌<◌, ◌≤◌}
use native.Mathlib.Omega.{arith}
use lib.ListN.{length}
use borrow.Author.Tests.{lt-ltb, le-ltb}
use Rattle.std.specs.Prelude.{Result, Ok, Err, MatchResult}
use Rattle.chars.specs.Limits.{Limits, limits}
use Rattle.chars.specs.Refusal.{number_of}
use Rattle.chars.specs.declared.refusal.Refused.{Refused as Refusing}
use Rattle.chars.specs.Stream.{stream_at, start}
use Rattle.chars.proofs.Cases.{either}
use Rattle.tokens.specs.Step.{reached, stepped, onward, told}
use Rattle.tokens.specs.Tokens.{Sort, simple, quoted, curly, Whole, Tokens, token, last, refused, between, shown, first, tokens, token_at}
use Rattle.tokens.specs.Tokens.{Token}
use Rattle.tokens.specs.Tokens.{Simple, Quoted, Curly, Last, Refused}
use Rattle.tokens.specs.Told.{told_token}
use Rattle.tokens.specs.declared.Token.{Token as Answer}
use Rattle.tokens.proofs.OneByOne.{OneByOne, more, final, none, one_by_one}
use Rattle.step.specs.Stepping.{Gives, stepping, reaching, goes_on, nth}
use Rattle.step.specs.declared.Opened.{Opened}
use Rattle.step.proofs.Places.{reached_on}

-- a whole token as an answer
module _ (place begun after prefix from n : ℕ) where
  abbrev whole : Sort → Whole
  whole sort = record { sort = sort; place = begun; after = after; prefix = prefix; from = from; length = n }

  pub shown_onward : (sort : Sort) → onward place (shown (whole sort)) ≡ after
  unfolding onward shown
  shown_onward simple = refl
  shown_onward quoted = refl
  shown_onward curly = refl

  shown_goes : (sort : Sort) → goes_on (shown (whole sort)) ≡ true
  unfolding goes_on shown
  shown_goes simple = refl
  shown_goes quoted = refl
  shown_goes curly = refl

  shown_place : (sort : Sort) → (told (shown (whole sort))).place ≡ begun
  unfolding told shown
  shown_place simple = refl
  shown_place quoted = refl
  shown_place curly = refl

-- What `onward` promises of the refusals of `token` is said of the answer as the definition has it.
pub told_onward :
    (place next : ℕ) (t : Result Answer Refusing)
    → MatchResult t (λ w. next ≡ onward place (told_token (Ok w))) (λ r. (number at : ℕ) → next ≡ onward place (Refused number at))
    → next ≡ onward place (told_token t)
told_onward place next (Ok w) e = e
told_onward place next (Err r) e = e (number_of r.refusal) r.place

first_nth : (ts : Tokens) → first ts ≡ nth ts 0
unfolding first nth
first_nth (token w rest) = refl
first_nth (last place after) = refl
first_nth (refused number place) = refl

-- after `|;` and after a refusal the place stays, and the answer comes again
stays : (place : ℕ) (t : Token) → goes_on t ≡ false → onward place t ≡ place
unfolding onward goes_on
stays place (Simple p a n) g = absurd (false≢true (sym g))
stays place (Quoted p a x f n) g = absurd (false≢true (sym g))
stays place (Curly p a x f n) g = absurd (false≢true (sym g))
stays place (Last p a) g = refl
stays place (Refused number p) g = refl

pub repeats :
    (L : Limits) (draft : List ℕ) (n place : ℕ) → goes_on (stepped L draft place) ≡ false
    → stepping L draft place n ≡ stepped L draft place
unfolding stepping
repeats L draft zero place g = refl
repeats L draft (suc n) place g = rw (stays place (stepped L draft place) g) (repeats L draft n place g)

-- a draft over the limit is refused with 1 at every step
pub too_long : (L : Limits) (draft : List ℕ) (place n : ℕ) → L.draft < length draft → stepping L draft place n ≡ Refused 1 0
unfolding stepped goes_on
too_long L draft place n h =
    let is : stepped L draft place ≡ Refused 1 0 = rw (lt-ltb L.draft (length draft) h) in
    repeats L draft n place (rw is) ∙ is

module _ (L : Limits) (one : 1 ≤ L.token) (draft : List ℕ) (few : length draft ≤ L.draft) where
  abbrev from_here : (place : ℕ) → Tokens
  from_here place = tokens L between (stream_at draft (reached draft place))

  stepped_first : (place : ℕ) → stepped L draft place ≡ first (from_here place)
  unfolding stepped token_at
  stepped_first place = rw (le-ltb L.draft (length draft) few)

  -- the place of a token is not 0, so the next step looks for a token right there
  behind_token : (after : ℕ) → 0 < after → from_here after ≡ tokens L between (stream_at draft after)
  behind_token after h = ap (λ at. tokens L between (stream_at draft at)) (reached_on draft after (λ z. omega arith))

  nth_on :
      (place n : ℕ) (ts : Tokens) → from_here place ≡ ts → OneByOne L one draft (reached draft place) ts
      → ((next : ℕ) → stepping L draft next n ≡ nth (from_here next) n)
      → stepping L draft (onward place (first ts)) n ≡ nth ts (suc n)
  unfolding first nth onward
  nth_on place n ts e (more w s) rest =
      let on = shown_onward place w.place w.after w.prefix w.from w.length w.sort in
      rw on (rest w.after ∙ ap (λ ts. nth ts n) (behind_token w.after (omega (arith, s.on))))
  nth_on place n ts e (final p a b l h) rest = rest place ∙ ap (λ ts. nth ts n) e
  nth_on place n ts e (none number p) rest = rest place ∙ ap (λ ts. nth ts n) e

  as_tokens : (n place : ℕ) → stepping L draft place n ≡ nth (from_here place) n
  unfolding stepping
  as_tokens zero place = stepped_first place ∙ first_nth (from_here place)
  as_tokens (suc n) place =
      rw (stepped_first place) (nth_on place n (from_here place) refl (one_by_one L one draft (reached draft place)) (as_tokens n))

  -- from the opening: the tokens of the draft from its start, in order, and then `|;` or the refusal for ever
  pub stepping_is : (n : ℕ) → stepping L draft 0 n ≡ nth (tokens L between (stream_at draft (start draft))) n
  unfolding reached
  stepping_is n = as_tokens n 0

  -- a token begins at the place or behind it, and the place reached is behind its own and within the draft
  abbrev Along : (place : ℕ) → Token → Type 0
  Along place t = (place ≤ (told t).place) × ((told t).place < onward place t) × (onward place t ≤ length draft)

  along :
      (place : ℕ) (ts : Tokens) → OneByOne L one draft (reached draft place) ts → place ≤ reached draft place → goes_on (first ts) ≡ true
      → Along place (first ts)
  unfolding first goes_on
  along place ts (more w s) h g =
      let on = shown_onward place w.place w.after w.prefix w.from w.length w.sort in
      let at = shown_place place w.place w.after w.prefix w.from w.length w.sort in
      rw (on, at) (omega (arith, s.behind), s.on, s.there)
  along place ts (final p a b l d) h g = absurd (false≢true g)
  along place ts (none number p) h g = absurd (false≢true g)

  no_later : (place : ℕ) → place ≤ reached draft place
  unfolding reached
  no_later zero = omega arith
  no_later (suc place) = omega arith

  pub step_along : (place : ℕ) → goes_on (stepped L draft place) ≡ true → Along place (stepped L draft place)
  step_along place =
      rw (stepped_first place) (along place (from_here place) (one_by_one L one draft (reached draft place)) (no_later place))

  -- the place reached never goes back
  on_or_stays : (place : ℕ) → place ≤ onward place (stepped L draft place)
  on_or_stays place =
      either (goes_on (stepped L draft place))
      (λ g. let a = step_along place g in omega (arith, a.0, a.1))
      (λ g. rw (stays place (stepped L draft place) g) (omega arith))

  never_back : (n place : ℕ) → place ≤ reaching L draft place n
  unfolding reaching
  never_back zero place = omega arith
  never_back (suc n) place = omega (arith, on_or_stays place, never_back n (onward place (stepped L draft place)))

  -- every place told of a token is before every place reached behind it
  pub told_before :
      (n m place : ℕ) → n < m → goes_on (stepping L draft place n) ≡ true
      → (told (stepping L draft place n)).place < reaching L draft place m
  unfolding stepping reaching
  told_before n zero place h g = absurd (omega arith)
  told_before zero (suc m) place h g =
      let a = step_along place g in
      omega (arith, a.1, never_back m (onward place (stepped L draft place)))
  told_before (suc n) (suc m) place h g = told_before n m (onward place (stepped L draft place)) (omega arith) g

  -- a token at the step behind `n` others leaves room for as many bytes, so stepping ends
  pub ends_within : (n place : ℕ) → goes_on (stepping L draft place n) ≡ true → place + n < length draft
  unfolding stepping
  ends_within zero place g = let a = step_along place g in omega (arith, a.0, a.1, a.2)
  ends_within (suc n) place g =
      let next = onward place (stepped L draft place) in
      let rest = ends_within n next g in
      either (goes_on (stepped L draft place))
      (λ t. let a = step_along place t in omega (arith, a.0, a.1, rest))
      (λ t.
      let same = rw (stays place (stepped L draft place) t) at g in
      absurd (false≢true (sym t ∙ (ap goes_on (sym (repeats L draft n place t)) ∙ same))))

-- one call of `step` after another, by the words of its contract
calls_step :
    (n : ℕ) (o : ℕ → Opened) (t : ℕ → Token) → ((k : ℕ) → Gives (o k) (t k) (o (suc k)))
    → t n ≡ stepping limits (o 0).draft.now (o 0).place n
unfolding stepping
calls_step zero o t gives = (gives 0).0
calls_step (suc n) o t gives =
    let one = gives 0 in
    let reached-by = one.2 ∙ ap (onward (o 0).place) one.0 in
    calls_step n (λ k. o (suc k)) (λ k. t (suc k)) (λ k. gives (suc k))
    ∙ (ap (λ d. stepping limits d.now (o 1).place n) one.1
    ∙ ap (λ p. stepping limits (o 0).draft.now p n) reached-by)

-- from a draft that `open` opened
pub calls_tokens :
    (o : ℕ → Opened) (t : ℕ → Token) → (o 0).place ≡ 0 → length (o 0).draft.now ≤ limits.draft
    → ((k : ℕ) → Gives (o k) (t k) (o (suc k))) → (n : ℕ)
    → t n ≡ nth (tokens limits between (stream_at (o 0).draft.now (start (o 0).draft.now))) n
calls_tokens o t z few gives n =
    calls_step n o t gives
    ∙ (ap (λ p. stepping limits (o 0).draft.now p n) z ∙ stepping_is limits (omega arith) (o 0).draft.now few n)
