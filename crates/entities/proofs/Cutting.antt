-- The text that an entity has of its token's: cut from the draft at once, it is the same as the token's text with its first byte left out,
-- since that byte is a character by itself.
use mathlib.Core.Path.{◌≡◌, refl, sym, ◌∙◌, ap}
use mathlib.Core.List.{List, [], ◌∷◌, ◌++◌, tail}
use Prim.Native.Nat.{ℕ, zero, suc, ◌+◌, ◌-◌, ◌*◌, ◌≤◌}
use native.Mathlib.Omega.{arith}
use native.Mathlib.Numerals.{add-one}
use lib.Dec.{eqb}
use lib.ListN.{length, get_or, take, drop}
use lib.Seq.{drop-cons}
use borrow.Author.Tests.{eqb-true, eqb-false}
use Rattle.chars.specs.Character.{encoded}
use Rattle.chars.specs.Stream.{stream_at, clean}
use Rattle.chars.proofs.Cases.{either}
use Rattle.chars.proofs.Extent.{encoded_one}
use Rattle.tokens.proofs.Classes.{low}
use Rattle.tokens.proofs.Skipping.{alone_at}
use Rattle.tokens.proofs.Clean.{clean_zero, clean_next}
use Rattle.entities.specs.Entity.{Entity, bare, size, sizes, texts}
use Rattle.entities.specs.Judging.{bares, cut, written, text_written, cut_from, cut_length}
use Rattle.entities.specs.Stepping.{Contents}
use Rattle.entities.proofs.Listing.{no_bare, one_bare, written_more, texts_append, sizes_append}

tail_take : (n b : ℕ) (bytes : List ℕ) → tail (take n (b ∷ bytes)) ≡ take (n - 1) bytes
tail_take zero b bytes = refl
tail_take (suc n) b bytes = let less : suc n - 1 ≡ n = omega arith in rw less

module _ (draft : List ℕ) (place prefix from n : ℕ) (c : Contents draft place prefix from n) where
  -- the first byte of the text, and the rest
  pub first_byte :
      1 ≤ prefix
      → clean prefix (stream_at draft place) ≡ get_or draft place 0 ∷ clean (prefix - 1) (stream_at draft (place + 1))
  first_byte h =
      let b = get_or draft place 0 in
      let one : encoded b ≡ b ∷ [] = encoded_one b (low b (c.own h)) in
      let size : length (encoded b) ≡ 1 = ap length one in
      clean_next draft place prefix b (place + 1) (alone_at draft place c.here (c.own h)) (omega arith) ∙ rw (size, one)

  rest_long : length (clean (prefix - 1) (stream_at draft (place + 1))) ≡ prefix - 1
  rest_long =
      either (eqb prefix 0)
      (λ t.
      let none : prefix - 1 ≡ 0 = omega (arith, eqb-true prefix 0 t) in
      rw none (ap length (clean_zero (stream_at draft (place + 1)))))
      (λ t. omega (arith, ap length (first_byte (omega (arith, eqb-false prefix 0 t))), c.text_long))

  tail_is : tail (clean prefix (stream_at draft place)) ≡ clean (prefix - 1) (stream_at draft (place + 1))
  tail_is =
      either (eqb prefix 0)
      (λ t.
      let zero-prefix = eqb-true prefix 0 t in
      let none : prefix - 1 ≡ 0 = omega arith in
      rw (none, zero-prefix, clean_zero, clean_zero))
      (λ t. ap tail (first_byte (omega (arith, eqb-false prefix 0 t))))

  rest_raw : clean (prefix - 1) (stream_at draft (place + 1)) ≡ take (prefix - 1) (drop (place + 1) draft)
  rest_raw =
      sym tail_is
      ∙ (ap tail c.text_raw ∙ rw (drop-cons draft place 0 c.here, add-one) (tail_take prefix (get_or draft place 0)
      (drop (suc place) draft)))

  pub cut_clean :
      (how : ℕ) → cut how (clean prefix (stream_at draft place)) ≡ clean (cut_length how prefix) (stream_at draft (cut_from how place))
  unfolding cut cut_length cut_from
  cut_clean how =
      either (eqb how 0)
      (λ t. rw t (sym (clean_zero (stream_at draft place))))
      (λ t. rw t (either (eqb how 1) (λ u. rw u) (λ u. rw u tail_is)))

  -- what holds of none of the text, of all of it and of all but its first byte
  by_cut :
      (P : (n at : ℕ) → Type 0) → P 0 place → P prefix place → P (prefix - 1) (place + 1)
      → (how : ℕ) → P (cut_length how prefix) (cut_from how place)
  unfolding cut_length cut_from
  by_cut P none all rest how =
      either (eqb how 0) (λ t. rw t none) (λ t. rw t (either (eqb how 1) (λ u. rw u all) (λ u. rw u rest)))

  pub cut_long : (how : ℕ) → length (clean (cut_length how prefix) (stream_at draft (cut_from how place))) ≡ cut_length how prefix
  cut_long =
      by_cut (λ n at. length (clean n (stream_at draft at)) ≡ n) (ap length (clean_zero (stream_at draft place))) c.text_long rest_long

  pub cut_raw :
      (how : ℕ)
      → clean (cut_length how prefix) (stream_at draft (cut_from how place)) ≡ take (cut_length how prefix) (drop (cut_from how place) draft)
  cut_raw =
      by_cut (λ n at. clean n (stream_at draft at) ≡ take n (drop at draft)) (clean_zero (stream_at draft place)) c.text_raw rest_raw

-- entities with nothing in them take no text
pub bare_sizes : (kind place : ℕ) → sizes (bares kind place) ≡ 0
unfolding sizes size bare
bare_sizes kind place =
    either (eqb kind 0)
    (λ t. ap sizes (no_bare kind place (eqb-true kind 0 t)))
    (λ t. ap sizes (one_bare kind place (eqb-false kind 0 t)))

pub bare_texts : (kind place : ℕ) → texts (bares kind place) ≡ []
unfolding texts bare
bare_texts kind place =
    either (eqb kind 0)
    (λ t. ap texts (no_bare kind place (eqb-true kind 0 t)))
    (λ t. ap texts (one_bare kind place (eqb-false kind 0 t)))

pub bare_first :
    (before : List ℕ) (k t kind place : ℕ) (es : List Entity) → 6 * (k + length (bares kind place)) ≤ length before
    → written (written before k t (bares kind place)) (k + length (bares kind place)) t es ≡ written before k t (bares kind place ++ es)
bare_first before k t kind place es h =
    let same : t + sizes (bares kind place) ≡ t = omega (arith, bare_sizes kind place) in
    ap (λ j. written (written before k t (bares kind place)) (k + length (bares kind place)) j es) (sym same)
    ∙ written_more before k t (bares kind place) es h

pub bare_text :
    (before : List ℕ) (t kind place : ℕ) (es : List Entity) → text_written before t (bares kind place ++ es) ≡ text_written before t es
unfolding text_written
bare_text before t kind place es =
    rw (texts_append, sizes_append, bare_texts kind place, bare_sizes kind place)
    (let same : 0 + sizes es ≡ sizes es = omega arith in rw same)

pub cut_fits : (how prefix : ℕ) → cut_length how prefix ≤ prefix
unfolding cut_length
cut_fits how prefix =
    either (eqb how 0) (λ t. rw t (omega arith)) (λ t. rw t (either (eqb how 1) (λ u. rw u (omega arith)) (λ u. rw u (omega arith))))
