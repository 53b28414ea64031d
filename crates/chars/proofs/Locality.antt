-- Which bytes decide a character. The first byte of a sequence says how many follow, and no byte behind those is looked at; CR looks at one
-- byte more, and a high surrogate at the sequence behind it, which pairs with it only if it has three bytes.
use mathlib.Core.Path.{◌≡◌, refl, sym, ◌∙◌, ap}
use mathlib.Core.Bool.{true}
use mathlib.Core.List.{List, [], ◌∷◌}
use Prim.Native.Nat.{ℕ, zero, suc, ◌+◌, ◌-◌, ◌*◌, ◌<◌, ◌≤◌}
use native.Mathlib.Nat.{zero-add, suc-add}
use native.Mathlib.Omega.{arith}
use lib.Dec.{ltb, eqb}
use lib.ListN.{get_or, take, drop}
use lib.Seq.{take-nil, take-take, get_or-take}
use borrow.Author.Tests.{ltb-true, ltb-false}
use Rattle.std.specs.Prelude.{if◌then◌else◌}
use Rattle.chars.specs.Choice.{within}
use Rattle.chars.specs.Character.{continued, sequence, lowest, highest, high, low}
use Rattle.chars.specs.Character.{paired, judged, carriage, character, character_at}
use Rattle.chars.specs.Character.{Sequence}
use Rattle.chars.specs.Character.{Whole, Malformed}
use Rattle.chars.specs.Character.{Clean, Refused}
use Rattle.chars.proofs.Cases.{by_test, either, by_bound}
use Rattle.chars.proofs.Sequences.{following}
use Rattle.chars.proofs.Extent.{malformed, within_true, so_many, sequence_sound, three_bytes}
use Rattle.chars.proofs.Characters.{refused, ended, character_is}

-- no list with a head is empty
no_head : {P : Type 0} (n b : ℕ) (bytes : List ℕ) → take (suc n) (b ∷ bytes) ≡ [] → P
no_head n b bytes e = absurd (let z : ◌≡◌ {A = ℕ} 0 1 = cc in omega arith)

-- lists with the same first bytes: fewer of them, and those behind some of them
fewer : (m n : ℕ) (xs ys : List ℕ) → m ≤ n → take n xs ≡ take n ys → take m xs ≡ take m ys
fewer m n xs ys h e = sym (take-take m n xs h) ∙ ap (take m) e ∙ take-take m n ys h

drop_take : (m n : ℕ) (xs : List ℕ) → drop m (take (m + n) xs) ≡ take n (drop m xs)
drop_take zero n xs = rw zero-add
drop_take (suc m) n [] = rw (suc-add, take-nil)
drop_take (suc m) n (x ∷ xs) = rw suc-add (drop_take m n xs)

later : (m n : ℕ) (xs ys : List ℕ) → take (m + n) xs ≡ take (m + n) ys → take n (drop m xs) ≡ take n (drop m ys)
later m n xs ys e = sym (drop_take m n xs) ∙ ap (drop m) e ∙ drop_take m n ys

-- only so many continuation bytes are looked at as are wanted
continued_same :
    (n low high v : ℕ) (xs ys : List ℕ) (place : ℕ) → take n xs ≡ take n ys
    → continued n low high v xs place ≡ continued n low high v ys place
unfolding continued
continued_same zero low high v xs ys place e = refl
continued_same (suc n) low high v [] [] place e = refl
continued_same (suc n) low high v [] (y ∷ ys) place e = no_head n y ys (sym e)
continued_same (suc n) low high v (x ∷ xs) [] place e = no_head n x xs e
continued_same (suc n) low high v (x ∷ xs) (y ∷ ys) place e =
    let p : x ≡ y = cc in
    let q : take n xs ≡ take n ys = cc in
    rw p
    (ap (λ s. if within low high y then s else Malformed place)
    (continued_same n 0x80 0xBF (v * 64 + (y - 0x80)) xs ys (suc place) q))

-- how many bytes follow the first byte of a sequence
unfoldable wanted : (b : ℕ) → ℕ
wanted b = if ltb b 0x80 then 0 else if ltb b 0xE0 then 1 else if ltb b 0xF0 then 2 else 3

wanted_range : (b : ℕ) → (wanted b ≤ 3) × (b < 0xF0 → wanted b ≤ 2) × (0xF0 ≤ b → 3 ≤ wanted b)
unfolding wanted
wanted_range b =
    either (ltb b 0x80)
    (λ t. rw t (omega (arith, ltb-true b 0x80 t)))
    (λ t. rw t (either (ltb b 0xE0)
    (λ u. rw u (omega (arith, ltb-true b 0xE0 u)))
    (λ u. rw u (either (ltb b 0xF0)
    (λ w. rw w (omega (arith, ltb-true b 0xF0 w)))
    (λ w. rw w (omega (arith, ltb-false b 0xF0 w)))))))

-- no others decide what the sequence is
headed :
    (b : ℕ) (xs ys : List ℕ) (place : ℕ) → take (wanted b) xs ≡ take (wanted b) ys
    → sequence (b ∷ xs) place ≡ sequence (b ∷ ys) place
unfolding sequence wanted
headed b xs ys place =
    either (ltb b 0x80)
    (λ t. rw t (λ e. refl))
    (λ t. rw t (either (ltb b 0xC2)
    (λ u. rw u (λ e. refl))
    (λ u. rw u (either (ltb b 0xE0)
    (λ w. rw w (rest 1 0xC0))
    (λ w. rw w (either (ltb b 0xF0)
    (λ z. rw z (rest 2 0xE0))
    (λ z. rw z (λ e. ap (λ s. if ltb b 0xF5 then s else Malformed place) (rest 3 0xF0 e)))))))))
  where
    rest : (n base : ℕ) → take n xs ≡ take n ys → following b xs place n base ≡ following b ys place n base
    rest n base e = continued_same n (lowest b) (highest b) (b - base) xs ys (suc place) e

sequence_same :
    (n : ℕ) (xs ys : List ℕ) (place : ℕ) → wanted (get_or xs 0 0) ≤ n → take (suc n) xs ≡ take (suc n) ys
    → sequence xs place ≡ sequence ys place
sequence_same n [] [] place h e = refl
sequence_same n [] (y ∷ ys) place h e = no_head n y ys (sym e)
sequence_same n (x ∷ xs) [] place h e = no_head n x xs e
sequence_same n (x ∷ xs) (y ∷ ys) place h e =
    let p : x ≡ y = cc in
    let q : take n xs ≡ take n ys = cc in
    rw (← p) (headed x xs ys place (fewer (wanted x) n xs ys h q))

-- and a whole sequence has all of them
sequence_length :
    (bytes : List ℕ) (place number after : ℕ) → sequence bytes place ≡ Whole number after
    → after ≡ suc place + wanted (get_or bytes 0 0)
unfolding sequence wanted
sequence_length [] place number after e = malformed e
sequence_length (b ∷ bytes) place number after e =
    by_test (ltb b 0x80)
    (λ t e. rw t (alone e))
    (λ t e. rw t (by_test (ltb b 0xC2)
    (λ u e. malformed e)
    (λ u e. by_test (ltb b 0xE0)
    (λ w e. rw w (rest 1 0xC0 e))
    (λ w e. rw w (by_test (ltb b 0xF0)
    (λ z e. rw z (rest 2 0xE0 e))
    (λ z e. rw z (by_test (ltb b 0xF5) (λ x e. rest 3 0xF0 e) (λ x e. malformed e) e))
    e)) e) e)) e
  where
    alone : Whole b (suc place) ≡ Whole number after → after ≡ suc place + 0
    alone e = let q : suc place ≡ after = cc in omega arith

    rest : (n base : ℕ) → following b bytes place n base ≡ Whole number after → after ≡ suc place + n
    rest n base e = so_many b bytes place number after n base e

sequence_whole :
    (xs ys : List ℕ) (place number after : ℕ) → sequence xs place ≡ Whole number after
    → take (after - place) xs ≡ take (after - place) ys → sequence ys place ≡ Whole number after
sequence_whole xs ys place number after e same =
    let n = wanted (get_or xs 0 0) in
    let so_many : after - place ≡ suc n = omega (arith, sequence_length xs place number after e) in
    sym (sequence_same n xs ys place (omega arith) (rw so_many at same)) ∙ e

-- a sequence of four bytes is no low surrogate
no_partner : (place v : ℕ) (bytes : List ℕ) (at : ℕ) → 0xF0 ≤ get_or bytes 0 0 → paired place v (sequence bytes at) ≡ Refused 3 place
unfolding paired
no_partner place v bytes at h = go (sequence bytes at) refl
  where
    go : (s : Sequence) → sequence bytes at ≡ s → paired place v s ≡ Refused 3 place
    go (Malformed bad) e = refl
    go (Whole w c) e =
        either (low w)
        (λ t.
        let r = within_true 0xDC00 0xDFFF w t in
        let four = (wanted_range (get_or bytes 0 0)).2 h in
        let three = three_bytes bytes at w c e (omega arith) (omega arith) in
        absurd (omega (arith, sequence_length bytes at w c e)))
        (λ t. rw t)

-- lists with the same first bytes have the same head
same_head : (n : ℕ) (xs ys : List ℕ) → take (suc n) xs ≡ take (suc n) ys → get_or xs 0 0 ≡ get_or ys 0 0
same_head n xs ys e =
    sym (get_or-take (suc n) xs 0 0 (omega arith)) ∙ ap (λ l. get_or l 0 0) e ∙ get_or-take (suc n) ys 0 0 (omega arith)

-- so three bytes decide whether a high surrogate has a partner
paired_same :
    (place v : ℕ) (xs ys : List ℕ) (at : ℕ) → take 3 xs ≡ take 3 ys
    → paired place v (sequence xs at) ≡ paired place v (sequence ys at)
paired_same place v xs ys at e =
    let b = get_or xs 0 0 in
    by_bound b 0xF0
    (λ h. ap (paired place v) (sequence_same 2 xs ys at ((wanted_range b).1 h) e))
    (λ h. no_partner place v xs at h ∙ sym (no_partner place v ys at (omega (arith, same_head 2 xs ys e))))

judged_same :
    (xs ys : List ℕ) (place : ℕ) → take 6 xs ≡ take 6 ys
    → judged place (sequence xs place) xs ≡ judged place (sequence ys place) ys
unfolding judged
judged_same xs ys place e =
    rw (← sequence_same 3 xs ys place (wanted_range (get_or xs 0 0)).0 (fewer 4 6 xs ys (omega arith) e)) (go (sequence xs place) refl)
  where
    go : (s : Sequence) → sequence xs place ≡ s → judged place s xs ≡ judged place s ys
    go (Malformed bad) q = refl
    go (Whole v a) q =
        either (high v)
        (λ t.
        let r = within_true 0xD800 0xDBFF v t in
        let three : a - place ≡ 3 = omega (arith, three_bytes xs place v a q (omega arith) (omega arith)) in
        rw (t, three) (paired_same place v (drop 3 xs) (drop 3 ys) a (later 3 3 xs ys e)))
        (λ t. rw t)

character_same : (xs ys : List ℕ) (place : ℕ) → take 6 xs ≡ take 6 ys → character xs place ≡ character ys place
unfolding character carriage
character_same [] [] place e = refl
character_same [] (y ∷ ys) place e = no_head 5 y ys (sym e)
character_same (x ∷ xs) [] place e = no_head 5 x xs e
character_same (x ∷ xs) (y ∷ ys) place e =
    let p : x ≡ y = cc in
    let q : take 5 xs ≡ take 5 ys = cc in
    rw (same_head 4 xs ys q, judged_same (x ∷ xs) (y ∷ ys) place e, p)

pub same_refusal :
    (d e : List ℕ) (at : ℕ) → take 6 (drop at d) ≡ take 6 (drop at e) → character_at d at ≡ character_at e at
unfolding character_at
same_refusal d e at same = character_same (drop at d) (drop at e) at same

-- A character: the bytes up to the byte after it decide.
module _ (xs ys : List ℕ) (place number after : ℕ) (same : take (after - place) xs ≡ take (after - place) ys) where
  -- a high surrogate and the sequence behind it
  joined :
      (v a : ℕ) (s : Sequence) → sequence xs place ≡ Whole v a → high v ≡ true → sequence (drop (a - place) xs) a ≡ s
      → paired place v s ≡ Clean number after → judged place (sequence ys place) ys ≡ Clean number after
  unfolding judged paired
  joined v a (Malformed bad) p t q e = refused e
  joined v a (Whole w c) p t q e =
      by_test (low w)
      (λ l e.
      let to : c ≡ after = cc in
      let first = sequence_sound xs place v a p in
      let second = sequence_sound (drop (a - place) xs) a w c q in
      let sum : a - place + (c - a) ≡ after - place = omega arith in
      let first' = sequence_whole xs ys place v a p (fewer (a - place) (after - place) xs ys (omega arith) same) in
      let second' =
      sequence_whole (drop (a - place) xs) (drop (a - place) ys) a w c q (later (a - place) (c - a) xs ys (rw sum same)) in
      rw first' (rw (t, second') (rw l e)))
      (λ l e. refused e)
      e

  judged_whole :
      (s : Sequence) → sequence xs place ≡ s → judged place s xs ≡ Clean number after
      → judged place (sequence ys place) ys ≡ Clean number after
  unfolding judged
  judged_whole (Malformed bad) p e = refused e
  judged_whole (Whole v a) p e =
      by_test (high v)
      (λ t e. joined v a (sequence (drop (a - place) xs) a) p t refl e)
      (λ t e. by_test (low v)
      (λ l e. refused e)
      (λ l e.
      let to : a ≡ after = cc in
      rw (sequence_whole xs ys place v a p (rw to same)) (rw (t, l) e))
      e)
      e

-- CR, and the byte behind it
returned :
    (xs ys : List ℕ) (place number after : ℕ) → take (after - suc place) xs ≡ take (after - suc place) ys
    → carriage place xs ≡ Clean number after → carriage place ys ≡ Clean number after
unfolding carriage
returned xs ys place number after same e =
    by_test (eqb (get_or xs 0 0) 0x0A)
    (λ t e.
    let to : place + 2 ≡ after = cc in
    let one : after - suc place ≡ 1 = omega arith in
    rw (← same_head 0 xs ys (rw one at same), t) e)
    (λ t e. refused e)
    e

character_whole :
    (xs ys : List ℕ) (place number after : ℕ) → character xs place ≡ Clean number after
    → take (suc (after - suc place)) xs ≡ take (suc (after - suc place)) ys → character ys place ≡ Clean number after
unfolding character
character_whole [] ys place number after e same = ended e
character_whole (x ∷ xs) [] place number after e same = no_head (after - suc place) x xs same
character_whole (x ∷ xs) (y ∷ ys) place number after e same =
    let is = character_is (x ∷ xs) place number after e in
    let more : after - place ≡ suc (after - suc place) = omega (arith, is.on) in
    let p : x ≡ y = cc in
    let q : take (after - suc place) xs ≡ take (after - suc place) ys = cc in
    by_test (eqb x 0)
    (λ t e. refused e)
    (λ t e. by_test (eqb x 0x0D)
    (λ r e. rw (← p, t, r) (returned xs ys place number after q e))
    (λ r e.
    let same' : take (after - place) (x ∷ xs) ≡ take (after - place) (x ∷ ys) = rw more (ap (λ l. x ∷ l) q) in
    rw (← p, t, r) (judged_whole (x ∷ xs) (x ∷ ys) place number after same' (sequence (x ∷ xs) place) refl e))
    e)
    e

pub same_character :
    (d e : List ℕ) (at number after : ℕ) → character_at d at ≡ Clean number after → take after d ≡ take after e
    → character_at e at ≡ Clean number after
unfolding character_at
same_character d e at number after is same =
    let on = (character_is (drop at d) at number after is).on in
    let sum : at + suc (after - suc at) ≡ after = omega arith in
    character_whole (drop at d) (drop at e) at number after is (later at (suc (after - suc at)) d e (rw sum same))
