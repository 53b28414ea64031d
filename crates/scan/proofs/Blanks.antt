-- Whitespace that stands first: the tokens behind it are the same as before it, since each of its bytes is passed over alone.
use mathlib.Core.Path.{◌≡◌, refl, ◌∙◌, ap}
use mathlib.Core.List.{List}
use Prim.Native.Nat.{ℕ, zero, suc, ◌+◌}
use native.Mathlib.Omega.{arith}
use lib.ListN.{length, get_or, drop}
use Rattle.chars.specs.Limits.{limits}
use Rattle.chars.specs.Stream.{stream_at}
use Rattle.chars.proofs.Cases.{either, by_bound}
use Rattle.tokens.specs.Sorts.{white}
use Rattle.tokens.specs.Tokens.{Tokens, tokens, between}
use Rattle.runs.specs.Bytes.{begins_of, blanks}
use Rattle.runs.proofs.Blanks.{blank_first, none_first, no_blanks}
use Rattle.scan.proofs.Starts.{blank_byte}

module _ (draft : List ℕ) where
  abbrev from : (at : ℕ) → Tokens
  from at = tokens limits between (stream_at draft at)

  behind : (n at : ℕ) → blanks (drop at draft) ≡ n → from at ≡ from (at + n)
  unfolding begins_of
  behind zero at e = let same : at ≡ at + 0 = omega arith in ap from same
  behind (suc n) at e =
      by_bound at (length draft)
      (λ there. either (white (get_or draft at 0))
      (λ t.
      let next : at + 1 + n ≡ at + suc n = omega arith in
      let left : blanks (drop (at + 1) draft) ≡ n = omega (arith, blank_first draft at there t) in
      blank_byte draft at there (rw t refl) ∙ (behind n (at + 1) left ∙ ap from next))
      (λ t. absurd (omega (arith, none_first draft at there t))))
      (λ out. absurd (omega (arith, no_blanks draft at out)))

  pub behind_blanks :
      (at : ℕ) → tokens limits between (stream_at draft at) ≡ tokens limits between (stream_at draft (at + blanks (drop at draft)))
  behind_blanks at = behind (blanks (drop at draft)) at refl
