-- Copying clean bytes, one character at a time: what stands at the front of the part, and what is still to be copied, make up the whole,
-- and behind it the part is as it was. A byte that is a character by itself and a character that is re-encoded are one step alike.
use mathlib.Core.Path.{◌≡◌, refl, sym, ◌∙◌, ap}
use mathlib.Core.List.{List, [], ◌∷◌, ◌++◌, append-nil, append_assoc}
use Prim.Native.Nat.{ℕ, zero, suc, ◌+◌, ◌-◌, ◌<◌, ◌≤◌}
use native.Mathlib.Omega.{arith}
use native.Mathlib.Numerals.{add-one}
use lib.ListN.{length, get_or, take, drop, set, length-append, length-take, length-drop, take-append-drop}
use lib.Seq.{length-take-le, take_at, drop_at, set_split, drop-drop, take-append_seam, take-take, append_snoc, paste, paste-zero, paste-suc, get_or-take, get_or-drop}
use borrow.Author.Tests.{le-ltb, lt-ltb}
use borrow.Rule.Slice.PartMut.{put_mid, post_of, Post-is}
use Rattle.chars.specs.Character.{Clean, character_at, encoded, nearest, padded}
use Rattle.chars.specs.Stream.{stream_at, clean}
use Rattle.chars.proofs.Extent.{encoded_one, nearest_own}
use Rattle.tokens.proofs.Passing.{class_at}
use Rattle.tokens.proofs.Classes.{low}
use Rattle.tokens.proofs.Clean.{clean_next}
use Rattle.tokens.proofs.Skipping.{alone_at, scalar}
use Rattle.copying.specs.Copy.{Whole, TooSmall, copied, copied_into}

-- the bytes of a re-encoded character in their four bytes
pub unpadded : (bytes : List ℕ) → take (length bytes) (padded bytes) ≡ bytes
unfolding padded
unpadded bytes = take-append_seam bytes _

-- bytes stored in a part in the middle
pub stored :
    (out bytes part : List ℕ) (k size : ℕ) → part ≡ take size bytes → put_mid k (k + size - k) out part ≡ paste out k bytes size
stored out bytes part k size is =
    let behind : post_of k (k + size - k) out ≡ drop (k + size) out = Post-is k (k + size) out (omega arith) in
    ap (λ l. take k out ++ l) (rw (is, behind)) ∙ sym (append_assoc (take k out) (take size bytes) (drop (k + size) out))

-- a part that is too small is left alone
pub too_small :
    (draft : List ℕ) (from n : ℕ) (before : List ℕ) → length before < n
    → (TooSmall ≡ copied draft from n before) × (before ≡ copied_into draft from n before)
unfolding copied copied_into
too_small draft from n before h = (rw (lt-ltb (length before) n h), rw (lt-ltb (length before) n h))

module _ (draft : List ℕ) (from n : ℕ) (before : List ℕ) where
  -- `k` clean bytes stand at the front of `out`, and the draft has been read up to `i`
  pub record Copying (out : List ℕ) (i k : ℕ) : Type 0 where
    pub so_far : take k out ++ clean (n - k) (stream_at draft i) ≡ clean n (stream_at draft from)
    pub rest : drop k out ≡ drop k before
    pub long : length out ≡ length before
    pub within : k ≤ n
    pub fits : n ≤ length before

  pub begun : n ≤ length before → Copying before from 0
  begun h =
      let all : n - 0 ≡ n = omega arith in
      record { so_far = rw all; rest = refl; long = refl; within = omega arith; fits = h }

  -- the next clean bytes, up to a place
  pub advance_by :
      (out : List ℕ) (i k after : ℕ) (bytes : List ℕ) → Copying out i k
      → clean (n - k) (stream_at draft i) ≡ bytes ++ clean (n - k - length bytes) (stream_at draft after) → length bytes ≤ n - k
      → (out' : List ℕ) → out' ≡ (take k out ++ bytes) ++ drop (k + length bytes) out → Copying out' after (k + length bytes)
  advance_by out i k after bytes c e h out' is =
      let size = length bytes in
      let front : length (take k out) ≡ k = length-take-le k out (omega (arith, c.long, c.within, c.fits)) in
      let both : length (take k out ++ bytes) ≡ k + size = length-append (take k out) bytes ∙ ap (λ j. j + size) front in
      let less : n - k - size ≡ n - (k + size) = omega arith in
      record {
        so_far =
            ap (λ l. l ++ clean (n - (k + size)) (stream_at draft after)) (ap (take (k + size)) is ∙ take_at (take k out ++ bytes) _
            (k + size) both)
            ∙ (append_assoc (take k out) bytes _
            ∙ (ap (λ m. take k out ++ (bytes ++ clean m (stream_at draft after))) (sym less)
            ∙ (ap (λ l. take k out ++ l) (sym e) ∙ c.so_far)));
        rest =
            ap (drop (k + size)) is
            ∙ (drop_at (take k out ++ bytes) _ (k + size) both
            ∙ (sym (drop-drop size k out) ∙ (ap (drop size) c.rest ∙ drop-drop size k before)));
        long =
            ap length is
            ∙ (length-append (take k out ++ bytes) _
            ∙ omega (arith, both, length-drop (k + size) out, c.long, c.within, c.fits));
        within = omega arith;
        fits = c.fits;
      }

  -- one character more
  pub advance :
      (out : List ℕ) (i k number after : ℕ) → Copying out i k → character_at draft i ≡ Clean number after
      → length (encoded number) ≤ n - k → (out' : List ℕ)
      → out' ≡ (take k out ++ encoded number) ++ drop (k + length (encoded number)) out
      → Copying out' after (k + length (encoded number))
  advance out i k number after c e h = advance_by out i k after (encoded number) c (clean_next draft i (n - k) number after e h) h

  -- nothing more is to be copied
  pub finished :
      (out : List ℕ) (i k : ℕ) → Copying out i k → clean (n - k) (stream_at draft i) ≡ []
      → (Whole k ≡ copied draft from n before) × (out ≡ copied_into draft from n before)
  unfolding copied copied_into
  finished out i k c none =
      let whole : take k out ≡ clean n (stream_at draft from) =
      sym (append-nil (take k out)) ∙ (ap (λ l. take k out ++ l) (sym none) ∙ c.so_far) in
      let many : length (clean n (stream_at draft from)) ≡ k =
      sym (ap length whole) ∙ length-take-le k out (omega (arith, c.long, c.within, c.fits)) in
      let room = le-ltb (length before) n c.fits in
      (rw (room, many), rw (room, many, ← whole) (sym (take-append-drop k out) ∙ ap (λ l. take k out ++ l) c.rest))

  -- a byte that is a character by itself
  advance_byte :
      (out : List ℕ) (i k : ℕ) → Copying out i k → i < length draft → 1 ≤ class_at draft i → k < n
      → Copying (set out k (get_or draft i 0)) (i + 1) (k + 1)
  advance_byte out i k c h g l =
      let b = get_or draft i 0 in
      let one : encoded b ≡ b ∷ [] = encoded_one b (low b g) in
      let size : length (encoded b) ≡ 1 = ap length one in
      let is : set out k b ≡ (take k out ++ encoded b) ++ drop (k + length (encoded b)) out =
      set_split out k b (omega (arith, c.long, c.fits))
      ∙ rw (size, one, add-one) (sym (append_snoc (take k out) b (drop (suc k) out))) in
      rw size at (advance out i k b (i + 1) c (alone_at draft i h g) (omega (arith, c.within)) (set out k b) is)

  -- bytes that are characters by themselves
  advance_run :
      (out : List ℕ) (i k r : ℕ) → Copying out i k → r ≤ length draft - i → k + r ≤ n
      → ((j : ℕ) → j < r → 1 ≤ class_at draft (i + j)) → Copying (paste out k (drop i draft) r) (i + r) (k + r)
  advance_run out i k zero c h l g =
      let here : i + 0 ≡ i = omega arith in
      let there : k + 0 ≡ k = omega arith in
      rw (← paste-zero out k (drop i draft), here, there) c
  advance_run out i k (suc r) c h l g =
      let here : i + r + 1 ≡ i + suc r = omega arith in
      let there : k + r + 1 ≡ k + suc r = omega arith in
      let before_last = advance_run out i k r c (omega arith) (omega arith) (λ j s. g j (omega arith)) in
      let same = get_or-drop i draft r 0 in
      let stored = paste-suc out k (drop i draft) r 0 (omega (arith, c.long, c.fits)) (omega (arith, length-drop i draft)) in
      rw (here, there, ← same, stored) at (advance_byte (paste out k (drop i draft) r) (i + r) (k + r) before_last (omega arith)
      (g r (omega arith)) (omega arith))

  -- the bytes that cleaning leaves as they are, of `bytes` that come next
  pub advance_kept :
      (out : List ℕ) (i k r : ℕ) (bytes out' : List ℕ) → Copying out i k → bytes ≡ take (n - k) (drop i draft)
      → (r ≤ length bytes) × (out' ≡ paste out k bytes r) × ((j : ℕ) → j < r → 1 ≤ class_at bytes j)
      → Copying out' (i + r) (k + r)
  advance_kept out i k r bytes out' c is g =
      let many = ap length is ∙ length-take (n - k) (drop i draft) in
      let long : length bytes ≤ n - k = omega (arith, many) in
      let there : length bytes ≤ length draft - i = omega (arith, many, length-drop i draft) in
      let front : take r bytes ≡ take r (drop i draft) = ap (take r) is ∙ take-take r (n - k) (drop i draft) (omega (arith, g.0, long)) in
      rw (g.1, front) (advance_run out i k r c (omega (arith, there, g.0)) (omega (arith, long, g.0, c.within))
      (λ j l. rw (← get_or-drop i draft j 0, ← get_or-take (n - k) (drop i draft) j 0 (omega (arith, long, g.0, l)), ← is) (g.2 j l)))

  -- a character that is re-encoded
  pub advance_coded :
      (out : List ℕ) (i k number after size : ℕ) (bytes : List ℕ) → Copying out i k → character_at draft i ≡ Clean number after
      → size ≡ length (encoded number) → size ≤ n - k → bytes ≡ padded (encoded (nearest number))
      → Copying (paste out k bytes size) after (k + size)
  advance_coded out i k number after size bytes c e s h p =
      let front : take size bytes ≡ encoded number =
      rw (s, p, nearest_own number (scalar draft i number after e)) (unpadded (encoded number)) in
      rw s (advance out i k number after c e (omega arith) (paste out k bytes (length (encoded number))) (rw (← s, front)))
