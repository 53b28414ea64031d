-- A token's own bytes, and a string's data, are whole characters, with just as many clean bytes as the token says. So bytes behind the
-- token bear on neither, since each character is decided by the bytes up to the byte after it. Characters that take no more bytes than they
-- have clean ones are the draft's own bytes, since only CR LF and two surrogates are changed, and these take more.
use mathlib.Core.Path.{◌≡◌, refl, sym, ◌∙◌, ap, subst}
use mathlib.Core.Bool.{Bool, true, false, not, ◌&&◌, true≢false}
use mathlib.Core.List.{List, ◌++◌}
use Prim.Native.Nat.{ℕ, suc, ◌+◌, ◌-◌, ◌≤◌}
use native.Mathlib.Omega.{arith}
use lib.Dec.{eqb, ltb}
use lib.ListN.{length, take, drop, length-append}
use lib.Seq.{take-take, take-add, drop-drop}
use borrow.Author.Tests.{not-false}
use Rattle.std.specs.Prelude.{if◌then◌else◌}
use Rattle.chars.specs.Limits.{Limits}
use Rattle.chars.specs.Character.{character_at, encoded}
use Rattle.chars.specs.Stream.{stream_at, clean}
use Rattle.chars.specs.Character.{Clean}
use Rattle.chars.proofs.Cases.{by_bound}
use Rattle.chars.proofs.Characters.{character_is}
use Rattle.chars.proofs.Extent.{encoded_one}
use Rattle.chars.proofs.Kept.{kept}
use Rattle.chars.proofs.Locality.{same_character}
use Rattle.tokens.specs.Sorts.{visible, white, atomic, exclusive, inclusive, legal}
use Rattle.tokens.specs.Tokens.{quoted, curly, Whole, Opened, State, between, comment, bar, word, string}
use Rattle.tokens.specs.Tokens.{Outcome, goes, gives, ends, refuses, simply, closed, opens, begins, continues, inside, down}
use Rattle.tokens.specs.Tokens.{nested, step}
use Rattle.tokens.proofs.Classes.{foreign}
use Rattle.tokens.proofs.Clean.{clean_zero, clean_next}
use Rattle.tokens.proofs.Skipping.{reaches}

-- a character that is legal where a token is has one clean byte
visible_one : (number : ℕ) → visible number ≡ true → length (encoded number) ≡ 1
visible_one number t =
    by_bound number 0x80
    (λ l. ap length (encoded_one number l))
    (λ g. absurd (true≢false (sym t ∙ (foreign number g).no_visible)))

legal_one : (number : ℕ) → legal number ≡ true → length (encoded number) ≡ 1
legal_one number t =
    by_bound number 0x80
    (λ l. ap length (encoded_one number l))
    (λ g. absurd (true≢false (sym t ∙ (foreign number g).no_legal)))

module _ (draft : List ℕ) where
  -- the characters from `p` up to `i` have `n` clean bytes
  pub data Spans : (p n i : ℕ) → Type 0 where
    empty : (p : ℕ) → Spans p 0 p
    led :
        (p number after n i : ℕ) → character_at draft p ≡ Clean number after → Spans after n i
        → Spans p (length (encoded number) + n) i

  -- they take no fewer bytes than they have clean ones
  pub spans_on : {p n i : ℕ} → Spans p n i → p + n ≤ i
  unfolding character_at
  spans_on (empty p) = omega arith
  spans_on (led p number after n i e s) =
      omega (arith, (character_is (drop p draft) p number after e).enough, spans_on s)

  pub longer :
      {p n i : ℕ} (number after : ℕ) → character_at draft i ≡ Clean number after → Spans p n i
      → Spans p (n + length (encoded number)) after
  longer number after e (empty p) =
      let sum : length (encoded number) + 0 ≡ 0 + length (encoded number) = omega arith in
      subst (λ m. Spans p m after) sum (led p number after 0 after e (empty after))
  longer number after e (led p number' after' n i e' s) =
      let size = length (encoded number) in
      let size' = length (encoded number') in
      let sum : size' + (n + size) ≡ size' + n + size = omega arith in
      subst (λ m. Spans p m after) sum (led p number' after' (n + size) after e' (longer number after e s))

  single : (p number after : ℕ) → character_at draft p ≡ Clean number after → length (encoded number) ≡ 1 → Spans p 1 after
  single p number after e h =
      let sum : 0 + length (encoded number) ≡ 1 = omega arith in
      subst (λ m. Spans p m after) sum (longer number after e (empty p))

  -- as many bytes as they should be
  pub spans_length : {p n i : ℕ} → Spans p n i → length (clean n (stream_at draft p)) ≡ n
  spans_length (empty p) = ap length (clean_zero (stream_at draft p))
  spans_length (led p number after n i e s) =
      let size = length (encoded number) in
      let less : size + n - size ≡ n = omega arith in
      rw (clean_next draft p (size + n) number after e (omega arith), less, length-append, spans_length s)

  -- where they take just as many, the clean bytes are the draft's own
  pub spans_raw : {p n i : ℕ} → Spans p n i → i ≡ p + n → clean n (stream_at draft p) ≡ take n (drop p draft)
  unfolding character_at
  spans_raw (empty p) h = clean_zero (stream_at draft p)
  spans_raw (led p number after n i e s) h =
      let size = length (encoded number) in
      let less : size + n - size ≡ n = omega arith in
      let end : after ≡ p + size = omega (arith, (character_is (drop p draft) p number after e).enough, spans_on s) in
      let long : after - p ≡ size = omega arith in
      let own : take size (drop p draft) ≡ encoded number = rw long at (kept (drop p draft) p number after e end) in
      clean_next draft p (size + n) number after e (omega arith)
      ∙ rw (less, spans_raw s (omega arith), take-add, own, drop-drop, ← end)

  -- a token whose own bytes and data end at `by` or before
  pub record Written (by : ℕ) (w : Whole) : Type 0 where
    pub text_end : ℕ
    pub text : Spans w.place w.prefix text_end
    pub text_by : text_end ≤ by
    pub string_end : ℕ
    pub string : Spans w.from w.length string_end
    pub string_by : string_end ≤ by

  -- what a state knows of the token that has begun
  abbrev pub Kept : (i : ℕ) → State → Type 0
  Kept i between = Unit
  Kept i comment = Unit
  Kept i (bar begun) = Spans begun 1 i
  Kept i (word begun n) = Spans begun n i
  Kept i (string o n level odd) = Spans o.from n i × ((j : ℕ) × Spans o.place o.prefix j × (j ≤ i))

  -- what a character can come to, up to the byte after it
  pub data Fine (after : ℕ) : Outcome → Type 0 where
    on : (state : State) → Kept after state → Fine after (goes state)
    whole : (w : Whole) (o : Outcome) → Written after w → Fine after o → Fine after (gives w o)
    over : (place : ℕ) → Fine after (ends place after)
    bad : (number place : ℕ) → Fine after (refuses number place)

  module _ (number i after : ℕ) (e : character_at draft i ≡ Clean number after) where
    either_way :
        (t : Bool) {x y : Outcome} → (t ≡ true → Fine after x) → (t ≡ false → Fine after y) → Fine after (if t then x else y)
    either_way true a b = a refl
    either_way false a b = b refl

    opens_fine : (begun n j : ℕ) → Spans begun n j → j ≤ after → Fine after (opens number begun n after)
    unfolding opens
    opens_fine begun n j s h =
        on
        (string (record { sort = if eqb number 0x22 then quoted else curly; place = begun; prefix = n; from = after }) 0 1 false)
        (empty after, (j, s, h))

    begins_fine : Fine after (begins number i after)
    unfolding begins simply
    begins_fine =
        let far = (reaches draft i number after e).0 in
        either_way (white number) (λ t. on between tt)
        (λ t. either_way (eqb number 0x23) (λ t. on comment tt)
        (λ t. either_way (not (visible number)) (λ t. bad 6 i)
        (λ seen. either_way (inclusive number) (λ t. opens_fine i 0 i (empty i) (omega arith))
        (λ t.
        let one = single i number after e (visible_one number (not-false (visible number) seen)) in
        either_way (atomic number)
        (λ t. whole _ _
        (record { text_end = after; text = one; text_by = omega arith; string_end = 0; string = empty 0; string_by = omega arith })
        (on between tt))
        (λ t. either_way (eqb number 0x7C) (λ t. on (bar i) one) (λ t. on (word i 1) one))))))

    continues_fine : (L : Limits) (begun n : ℕ) → Spans begun n i → Fine after (continues L begun n number i after)
    unfolding continues simply
    continues_fine L begun n s =
        let far = (reaches draft i number after e).0 in
        either_way (not (legal number)) (λ t. bad 6 i)
        (λ lawful. either_way (exclusive number)
        (λ t. whole _ _
        (record { text_end = i; text = s; text_by = omega arith; string_end = 0; string = empty 0; string_by = omega arith })
        begins_fine)
        (λ t. either_way (inclusive number) (λ t. opens_fine begun n i s (omega arith))
        (λ t. either_way (ltb n L.token)
        (λ t.
        let one = legal_one number (not-false (legal number) lawful) in
        let sum : n + length (encoded number) ≡ suc n = omega arith in
        on (word begun (suc n)) (subst (λ m. Spans begun m after) sum (longer number after e s)))
        (λ t. bad 8 i))))

    inside_fine :
        (L : Limits) (o : Opened) (n level : ℕ) (odd : Bool) → Kept i (string o n level odd)
        → Fine after (inside L o n level odd number i after)
    unfolding inside closed
    inside_fine L o n level odd k =
        let far = (reaches draft i number after e).0 in
        let begun = k.1 in
        either_way (not odd && down o.sort number && eqb level 1)
        (λ t. whole _ _
        (record {
          text_end = begun.0;
          text = begun.1;
          text_by = omega (arith, begun.2);
          string_end = i;
          string = k.0;
          string_by = omega arith;
        })
        (on between tt))
        (λ t. either_way (ltb L.string (n + length (encoded number))) (λ t. bad 9 i)
        (λ t. on
        (string o (n + length (encoded number)) (if odd then level else nested o.sort level number) (not odd && eqb number 0x5C))
        (longer number after e k.0, (begun.0, begun.1, omega (arith, begun.2)))))

    pub fine : (L : Limits) (state : State) → Kept i state → Fine after (step L state number i after)
    unfolding step
    fine L between k = begins_fine
    fine L comment k = either_way (eqb number 0x0A) (λ t. on between tt) (λ t. on comment tt)
    fine L (bar begun) k = either_way (eqb number 0x3B) (λ t. over begun) (λ t. continues_fine L begun 1 k)
    fine L (word begun n) k = continues_fine L begun n k
    fine L (string o n level odd) k = inside_fine L o n level odd k

-- the same characters in a draft that agrees so far
module _ (d e : List ℕ) where
  pub fewer : (m n : ℕ) → m ≤ n → take n d ≡ take n e → take m d ≡ take m e
  fewer m n h same = sym (take-take m n d h) ∙ ap (take m) same ∙ take-take m n e h

  pub spans_same :
      {p n i : ℕ} → Spans d p n i → take i d ≡ take i e → clean n (stream_at e p) ≡ clean n (stream_at d p)
  spans_same (empty p) same = clean_zero (stream_at e p) ∙ sym (clean_zero (stream_at d p))
  spans_same (led p number after n i is s) same =
      let size = length (encoded number) in
      let less : size + n - size ≡ n = omega arith in
      let there = same_character d e p number after is (fewer after i (omega (arith, spans_on d s)) same) in
      rw (clean_next d p (size + n) number after is (omega arith), clean_next e p (size + n) number after there (omega arith), less)
      (ap (λ bytes. encoded number ++ bytes) (spans_same s same))
