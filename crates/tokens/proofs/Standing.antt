-- A character above US-ASCII by the grammar of RFC 3629, where it stands in a draft: its bytes are what its number is re-encoded in, and
-- cleaning gives it as it is. US-ASCII has one byte, so two or more are above it.
use mathlib.Core.Path.{◌≡◌, sym, ◌∙◌, ap}
use mathlib.Core.Bool.{true, false, and-false}
use mathlib.Core.List.{List, ◌∷◌, ◌++◌}
use Prim.Native.Nat.{ℕ, suc, ◌+◌, ◌<◌, ◌≤◌}
use native.Mathlib.Omega.{arith}
use lib.ListN.{length, get_or, take, drop, length-drop, take-append-drop}
use lib.Seq.{drop-cons, length-take-le}
use borrow.Author.Tests.{lt-leb}
use Rattle.chars.specs.Choice.{within}
use Rattle.chars.specs.Character.{character, character_at, encoded}
use Rattle.chars.specs.Rfc3629.{utf8_char}
use Rattle.chars.specs.Character.{Clean}
use Rattle.chars.proofs.Cases.{by_bound}
use Rattle.chars.proofs.Extent.{encoded_one}
use Rattle.chars.proofs.Grammar.{numbered}
use Rattle.chars.proofs.RoundTrip.{stands}
use Rattle.tokens.specs.Runs.{Wide}

pub record Standing (draft : List ℕ) (at r : ℕ) : Type 0 where
  pub number : ℕ
  pub high : 0x80 ≤ number
  pub size : length (encoded number) ≡ r
  pub is : character_at draft at ≡ Clean number (at + r)

pub standing : (draft : List ℕ) (at end r : ℕ) → Wide draft at end r → end ≤ length draft → Standing draft at r
unfolding character_at
standing draft at end r w f =
    let bytes = take r (drop at draft) in
    let rest = drop r (drop at draft) in
    let n = numbered bytes w.grammar in
    let left = length-drop at draft in
    let long : length bytes ≡ r = length-take-le r (drop at draft) (omega (arith, w.there)) in
    let size : length (encoded n.number) ≡ r = sym (ap length n.are) ∙ long in
    let high : 0x80 ≤ n.number =
    by_bound n.number 0x80
    (λ l. absurd (omega (arith, ap length (encoded_one n.number l), w.several)))
    (λ g. g) in
    let whole : drop at draft ≡ encoded n.number ++ rest =
    sym (take-append-drop r (drop at draft)) ∙ ap (λ l. l ++ rest) n.are in
    record {
      number = n.number;
      high = high;
      size = size;
      is =
          ap (λ l. character l at) whole
          ∙ stands n.number n.small (omega arith) (λ e. omega arith) n.no_surrogate rest at
          ∙ ap (λ k. Clean n.number (at + k)) size;
    }

-- the four bytes from a place on
four_bytes :
    (draft : List ℕ) (at : ℕ) → at + 4 ≤ length draft
    → drop at draft
    ≡ get_or draft at 0 ∷ get_or draft (at + 1) 0 ∷ get_or draft (at + 2) 0 ∷ get_or draft (at + 3) 0 ∷ drop (at + 4) draft
four_bytes draft at h =
    let next : (i j : ℕ) → j ≡ suc i → i < length draft → drop i draft ≡ get_or draft i 0 ∷ drop j draft =
    λ i j e l. rw e (drop-cons draft i 0 l) in
    rw (
      next at (at + 1) (omega arith) (omega arith),
      next (at + 1) (at + 2) (omega arith) (omega arith),
      next (at + 2) (at + 3) (omega arith) (omega arith),
      next (at + 3) (at + 4) (omega arith) (omega arith),
    )

-- so many of them are one character
pub taken :
    (draft : List ℕ) (at end r : ℕ) → at + 4 ≤ end → end ≤ length draft → 2 ≤ r → r ≤ 4
    → utf8_char (take r (get_or draft at 0 ∷ get_or draft (at + 1) 0 ∷ get_or draft (at + 2) 0 ∷ get_or draft (at + 3) 0 ∷ drop (at + 4) draft))
    ≡ true
    → Wide draft at end r
taken draft at end r h f g l e =
    record { several = g; there = omega arith; grammar = rw (four_bytes draft at (omega arith)) e }

-- a byte below a range, and a byte above it
pub below : (low high n : ℕ) → n < low → within low high n ≡ false
below low high n h = simp (lt-leb low n h)

pub above : (low high n : ℕ) → high < n → within low high n ≡ false
above low high n h = simp (lt-leb n high h, and-false)
