-- Clean data with CR LF in it. A character whose first byte is neither CR nor ED is as many bytes as it is re-encoded in, and none of them
-- is CR or ED. So bytes up to the next of these two are whole characters as they stand; and CR LF is as clean as its LF alone.
use mathlib.Core.Path.{◌≡◌, refl, sym, ◌∙◌, ap}
use mathlib.Core.Bool.{true, false, true≢false}
use mathlib.Core.List.{List, [], ◌∷◌, ◌++◌, append_assoc}
use Prim.Native.Nat.{ℕ, zero, suc, ◌+◌, ◌-◌, ◌/◌, ◌%◌, ◌<◌, ◌≤◌}
use native.Mathlib.Omega.{arith}
use native.Mathlib.Numerals.{add-one}
use lib.Dec.{eqb}
use lib.ListN.{length, get_or, take, drop, length-append, length-drop, take-append-drop}
use lib.Seq.{length-take-le, take-add, drop-drop, drop-cons, get_or-take, get_or-drop}
use borrow.Author.Tests.{ne_eqb, eqb-true}
use Rattle.chars.specs.Character.{Character, Clean, Refused, End, Sequence, Whole, Malformed}
use Rattle.chars.specs.Character.{high, low, sequence, judged, carriage, character, character_at, encoded}
use Rattle.chars.specs.Stream.{stream_at, clean}
use Rattle.chars.proofs.Cases.{by_test, by_bound}
use Rattle.chars.proofs.Characters.{refused, ended}
use Rattle.chars.proofs.Extent.{within_true, sequence_sound, three_bytes, by_range, encoded_one, encoded_two, encoded_three, encoded_four}
use Rattle.chars.proofs.Extent.{encoded_size}
use Rattle.chars.proofs.Kept.{kept, sequence_kept}
use Rattle.chars.proofs.Streams.{plain}
use Rattle.tokens.proofs.Clean.{clean_zero, clean_next, clean_full, clean_none}
use Rattle.tokens.proofs.Skipping.{reaches}
use Rattle.tokens.proofs.Spans.{Spans, empty, led, spans_on}
use Rattle.runs.specs.Bytes.{settled, Passed}
use Rattle.copying.proofs.Pairs.{feed}
use Rattle.copying.proofs.Copying.{Copying, advance_by}

-- a high surrogate's first byte
first_of_high :
    (bytes : List ℕ) (place v a : ℕ) → sequence bytes place ≡ Whole v a → high v ≡ true → get_or bytes 0 0 ≡ 0xED
first_of_high bytes place v a p t =
    let r = within_true 0xD800 0xDBFF v t in
    let three : a ≡ place + 3 = three_bytes bytes place v a p r.0 (omega (arith, r.1)) in
    let long : a - place ≡ 3 = omega arith in
    let own : take 3 bytes ≡ encoded v = rw long at (sequence_kept bytes place v a p) in
    let head : get_or bytes 0 0 ≡ 0xE0 + v / 4096 =
    sym (get_or-take 3 bytes 0 0 (omega arith)) ∙ (ap (λ l. get_or l 0 0) own
    ∙ ap (λ l. get_or l 0 0) (encoded_three v (omega (arith, r.0)) (omega (arith, r.1)))) in
    omega (arith, r.0, r.1)

judged_end :
    (bytes : List ℕ) (place number after : ℕ) (s : Sequence) → sequence bytes place ≡ s → (get_or bytes 0 0 ≡ 0xED → ⊥)
    → judged place s bytes ≡ Clean number after → after ≡ place + length (encoded number)
unfolding judged
judged_end bytes place number after (Malformed bad) p other e = refused e
judged_end bytes place number after (Whole v a) p other e =
    by_test (high v)
    (λ t e. absurd (other (first_of_high bytes place v a p t)))
    (λ t e. by_test (low v)
    (λ l e. refused e)
    (λ l e.
    let same : Whole v a ≡ Whole number after = cc in
    omega (arith, (sequence_sound bytes place number after (p ∙ same)).so_many))
    e)
    e

-- a byte that is settled is neither
not_ed : (b : ℕ) → settled b ≡ true → b ≡ 0xED → ⊥
unfolding settled
not_ed b s e = absurd (true≢false (sym s ∙ ap settled e))

not_return : (b : ℕ) → settled b ≡ true → b ≡ 0x0D → ⊥
unfolding settled
not_return b s e = absurd (true≢false (sym s ∙ ap settled e))

character_end :
    (bytes : List ℕ) (place number after : ℕ) → character bytes place ≡ Clean number after → settled (get_or bytes 0 0) ≡ true
    → after ≡ place + length (encoded number)
unfolding character
character_end [] place number after e s = ended e
character_end (b ∷ bytes) place number after e s =
    by_test (eqb b 0)
    (λ t e. refused e)
    (λ t e. by_test (eqb b 0x0D)
    (λ r e. absurd (not_return b s (eqb-true b 0x0D r)))
    (λ r e. judged_end (b ∷ bytes) place number after (sequence (b ∷ bytes) place) refl (not_ed b s) e)
    e)
    e

-- the further bytes of a character that is re-encoded, by their six bits
further : (x : ℕ) → x < 64 → settled (0x80 + x) ≡ true
unfolding settled
further x h = simp (ne_eqb (0x80 + x) 0x0D (λ e. omega arith), ne_eqb (0x80 + x) 0xED (λ e. omega arith))

abbrev raised : List ℕ → List ℕ
raised [] = []
raised (x ∷ xs) = (0x80 + x) ∷ raised xs

abbrev Small : List ℕ → Type 0
Small [] = Unit
Small (x ∷ xs) = (x < 64) × Small xs

all_further : (xs : List ℕ) → Small xs → (j : ℕ) → j < length (raised xs) → settled (get_or (raised xs) j 0) ≡ true
all_further [] s j l = absurd (omega arith)
all_further (x ∷ xs) s zero l = further x s.0
all_further (x ∷ xs) s (suc j) l = all_further xs s.1 j (omega arith)

led_by_lem :
    (number first : ℕ) (xs : List ℕ) → encoded number ≡ first ∷ raised xs → Small xs → (j : ℕ) → suc j < length (encoded number)
    → settled (get_or (encoded number) (suc j) 0) ≡ true
led_by_lem number first xs is s j l = rw is (all_further xs s j (omega (arith, l, ap length is)))

behind_first : (number j : ℕ) → 1 ≤ j → j < length (encoded number) → settled (get_or (encoded number) j 0) ≡ true
behind_first number zero g l = absurd (omega arith)
behind_first number (suc j) g l =
    by_range number
    (λ s. absurd (omega (arith, l, ap length (encoded_one number s))))
    (λ h s. led_by_lem number _ (number % 64 ∷ []) (encoded_two number h s) (omega arith, tt) j l)
    (λ h s. led_by_lem number _ (number / 64 % 64 ∷ number % 64 ∷ []) (encoded_three number h s) (omega arith, (omega arith, tt)) j l)
    (λ h.
    led_by_lem number _ (number / 4096 % 64 ∷ number / 64 % 64 ∷ number % 64 ∷ []) (encoded_four number h)
    (omega arith, (omega arith, (omega arith, tt))) j l)

module _ (draft : List ℕ) where
  -- a character as it stands
  record AsItStands (p number after : ℕ) : Type 0 where
    end : after ≡ p + length (encoded number)
    own : take (length (encoded number)) (drop p draft) ≡ encoded number
    settled_behind : (j : ℕ) → 1 ≤ j → j < length (encoded number) → settled (get_or draft (p + j) 0) ≡ true

  as_it_stands :
      (p number after : ℕ) → character_at draft p ≡ Clean number after → settled (get_or draft p 0) ≡ true → AsItStands p number after
  unfolding character_at
  as_it_stands p number after e s =
      let size = length (encoded number) in
      let here : p + 0 ≡ p = omega arith in
      let end : after ≡ p + size = character_end (drop p draft) p number after e (rw (get_or-drop p draft 0 0, here) s) in
      let long : after - p ≡ size = omega arith in
      let own : take size (drop p draft) ≡ encoded number = rw long at (kept (drop p draft) p number after e end) in
      record {
        end = end;
        own = own;
        settled_behind =
            λ j g l.
            let same : get_or draft (p + j) 0 ≡ get_or (encoded number) j 0 =
            sym (get_or-drop p draft j 0) ∙ (sym (get_or-take size (drop p draft) j 0 l) ∙ ap (λ b. get_or b j 0) own) in
            rw same (behind_first number j g l);
      }

  -- as many clean bytes as are asked for are whole characters
  record Reaching (p n : ℕ) : Type 0 where
    end : ℕ
    spans : Spans draft p n end
    there : p ≤ length draft → end ≤ length draft

  nothing : (n p : ℕ) → n ≡ 0 → Reaching p n
  nothing n p e = rw e (record { end = p; spans = empty p; there = λ g. g })

  reaching : (most n p : ℕ) → n ≤ most → length (clean n (stream_at draft p)) ≡ n → Reaching p n
  reaching zero n p h e = nothing n p (omega arith)
  reaching (suc most) n p h e =
      by_bound n 1 (λ l. nothing n p (omega arith)) (λ g. at g (character_at draft p) refl (λ m q. reaching most m q))
    where
      none : 1 ≤ n → ((number after : ℕ) → character_at draft p ≡ Clean number after → ⊥) → Reaching p n
      none g never = absurd (omega (arith, e, ap length (clean_none draft p n never)))

      at :
          1 ≤ n → (c : Character) → character_at draft p ≡ c
          → ((m q : ℕ) → m ≤ most → length (clean m (stream_at draft q)) ≡ m → Reaching q m) → Reaching p n
      at g (Clean number after) is further-on =
          let size = length (encoded number) in
          by_bound n size
          (λ l. absurd (omega (arith, e, ap length (clean_full draft p n number after is l))))
          (λ fits.
          let next = clean_next draft p n number after is fits in
          let some = (encoded_size number).0 in
          let long : length (clean (n - size) (stream_at draft after)) ≡ n - size =
          omega (arith, e, ap length next, length-append (encoded number) (clean (n - size) (stream_at draft after))) in
          let r = further-on (n - size) after (omega arith) long in
          let sum : size + (n - size) ≡ n = omega arith in
          record {
            end = r.end;
            spans = rw sum at (led p number after (n - size) r.end is r.spans);
            there = λ k. r.there (reaches draft p number after is).1;
          })
      at g (Refused number place) is further-on = none g (λ number after e. refused (sym is ∙ e))
      at g End is further-on = none g (λ number after e. ended (sym is ∙ e))

  -- where there are some, one stands first
  record First (p : ℕ) : Type 0 where
    number : ℕ
    after : ℕ
    is : character_at draft p ≡ Clean number after

  begins : {p n i : ℕ} → Spans draft p n i → 1 ≤ n → First p
  begins (empty p) h = absurd (omega arith)
  begins (led p number after n i e s) h = record { number = number; after = after; is = e }

  -- bytes up to the next CR or ED, or to the end of them
  run :
      {p n i : ℕ} → Spans draft p n i → (r : ℕ) → r ≤ n → ((j : ℕ) → p ≤ j → j < p + r → settled (get_or draft j 0) ≡ true)
      → (r < n → settled (get_or draft (p + r) 0) ≡ false)
      → clean n (stream_at draft p) ≡ take r (drop p draft) ++ clean (n - r) (stream_at draft (p + r))
  run (empty p) r h each stop =
      let none : r ≡ 0 = omega arith in
      let here : p + 0 ≡ p = omega arith in
      rw (none, here)
  run (led p number after n i e s) r h each stop =
      by_bound r 1
      (λ l.
      let none : r ≡ 0 = omega arith in
      let here : p + 0 ≡ p = omega arith in
      let all : length (encoded number) + n - 0 ≡ length (encoded number) + n = omega arith in
      rw (none, here, all))
      (λ some.
      let size = length (encoded number) in
      let a = as_it_stands p number after e (each p (omega arith) (omega arith)) in
      by_bound r size
      (λ l. absurd (true≢false (sym (a.settled_behind r some l) ∙ stop (omega arith))))
      (λ g.
      let m = r - size in
      let end = a.end in
      let on : after + m ≡ p + r = omega arith in
      let rest = run s m (omega arith) (λ j g l. each j (omega arith) (omega arith)) (λ l. rw on (stop (omega arith))) in
      let less : size + n - size ≡ n = omega arith in
      let left : size + n - r ≡ n - m = omega arith in
      let sum : r ≡ size + m = omega arith in
      let front : take r (drop p draft) ≡ encoded number ++ take m (drop after draft) =
      ap (λ j. take j (drop p draft)) sum
      ∙ (take-add size m (drop p draft)
      ∙ (ap (λ l. l ++ take m (drop size (drop p draft))) a.own
      ∙ ap (λ l. encoded number ++ take m l) (drop-drop size p draft ∙ ap (λ j. drop j draft) (sym end)))) in
      clean_next draft p (size + n) number after e (omega arith)
      ∙ (ap (λ k. encoded number ++ clean k (stream_at draft after)) less
      ∙ (ap (λ l. encoded number ++ l) rest
      ∙ (sym (append_assoc (encoded number) (take m (drop after draft)) _) ∙ rw (front, left, ← on))))))

  -- CR LF and its LF alone are as clean
  return :
      (i m number after : ℕ) → character_at draft i ≡ Clean number after → get_or draft i 0 ≡ 0x0D → 1 ≤ m
      → clean m (stream_at draft i) ≡ clean m (stream_at draft (i + 1))
  unfolding character_at character carriage
  return i m number after e first h =
      let there = reaches draft i number after e in
      let behind : drop i draft ≡ get_or draft i 0 ∷ drop (i + 1) draft =
      rw add-one (drop-cons draft i 0 (omega (arith, there.0, there.1))) in
      let shape : drop i draft ≡ 0x0D ∷ drop (i + 1) draft = behind ∙ ap (λ b. b ∷ drop (i + 1) draft) first in
      by_test (eqb (get_or (drop (i + 1) draft) 0 0) 0x0A)
      (λ t e.
      let two : i + 2 ≡ after = cc in
      let next : i + 1 + 0 ≡ i + 1 = omega arith in
      let second : get_or draft (i + 1) 0 ≡ 0x0A =
      rw next at (sym (get_or-drop (i + 1) draft 0 0) ∙ eqb-true (get_or (drop (i + 1) draft) 0 0) 0x0A t) in
      let size : length (encoded 0x0A) ≤ m = omega (arith, h, ap length (encoded_one 0x0A (omega arith))) in
      let on : i + 1 + 1 ≡ i + 2 = omega arith in
      let line : character_at draft (i + 1) ≡ Clean 0x0A (i + 2) =
      rw (second, on) at (plain draft (i + 1) (omega (arith, two, there.1)) (omega (arith, second)) (omega (arith, second))
      (λ z. omega (arith, second))) in
      clean_next draft i m 0x0A (i + 2) (feed draft i (omega (arith, two, there.1)) first second) size
      ∙ sym (clean_next draft (i + 1) m 0x0A (i + 2) line size))
      (λ t e. refused e)
      (rw shape at e)

  -- where as many clean bytes stand as are asked for, and these are some, there is a first byte; and where it is CR, they are as clean from
  -- its LF on
  module _ (from n : ℕ) (whole : length (clean n (stream_at draft from)) ≡ n) (some : 1 ≤ n) where
    first : First from
    first = begins (reaching n n from (omega arith) whole).spans some

    pub first_there : from < length draft
    first_there =
        let there = reaches draft from first.number first.after first.is in
        omega (arith, there.0, there.1)

    pub from_line_feed : get_or draft from 0 ≡ 0x0D → clean n (stream_at draft from) ≡ clean n (stream_at draft (from + 1))
    from_line_feed is = return from n first.number first.after first.is is some

-- Data of which as many clean bytes are asked for as there are.
module _ (draft : List ℕ) (from n : ℕ) (before : List ℕ) (whole : length (clean n (stream_at draft from)) ≡ n) where
  module _ (out : List ℕ) (i k : ℕ) (c : Copying draft from n before out i k) where
    front_long : length (take k out) ≡ k
    front_long = length-take-le k out (omega (arith, c.long, c.within, c.fits))

    -- what is still to be copied is as whole
    pub rest_whole : length (clean (n - k) (stream_at draft i)) ≡ n - k
    rest_whole =
        omega (
          arith,
          whole,
          c.within,
          front_long,
          ap length c.so_far,
          length-append (take k out) (clean (n - k) (stream_at draft i)),
        )

    reach : Reaching draft i (n - k)
    reach = reaching draft (n - k) (n - k) i (omega arith) rest_whole

    pub room : k < n → i + (n - k) ≤ length draft
    room h =
        let r = reach in
        let first = begins draft r.spans (omega arith) in
        let there = reaches draft i first.number first.after first.is in
        omega (arith, spans_on draft r.spans, r.there (omega (arith, there.0, there.1)))

    -- bytes up to the next CR or ED, or to the end of them
    pub advance_run :
        k < n → (r : ℕ) → Passed settled draft i r × (r ≤ i + (n - k)) × (r < i + (n - k) → settled (get_or draft r 0) ≡ false)
        → (out' : List ℕ) → out' ≡ take k out ++ (take (r - i) (drop i draft) ++ drop (k + (r - i)) out)
        → Copying draft from n before out' r (k + (r - i))
    advance_run h r p out' is =
        let m = r - i in
        let on = p.0.on in
        let end = p.1 in
        let there = room h in
        let at : i + m ≡ r = omega arith in
        let bytes = take m (drop i draft) in
        let long : length bytes ≡ m = length-take-le m (drop i draft) (omega (arith, length-drop i draft)) in
        let e = run draft reach.spans m (omega arith) (λ j g l. p.0.each j g (omega arith)) (λ l. rw at (p.2 (omega arith))) in
        let up_to : clean (n - k) (stream_at draft i) ≡ bytes ++ clean (n - k - length bytes) (stream_at draft r) =
        e
        ∙ (ap (λ p. bytes ++ clean (n - k - m) (stream_at draft p)) at
        ∙ ap (λ j. bytes ++ clean (n - k - j) (stream_at draft r)) (sym long)) in
        rw long at (advance_by draft from n before out i k r bytes c up_to (omega (arith, long)) out'
        (is ∙ (sym (append_assoc (take k out) bytes (drop (k + m) out)) ∙ ap (λ j. (take k out ++ bytes) ++ drop (k + j) out) (sym long))))

    -- CR is passed over, and its LF stands behind it
    pub past_return : k < n → get_or draft i 0 ≡ 0x0D → Copying draft from n before out (i + 1) k
    past_return h first =
        let f = begins draft reach.spans (omega arith) in
        record {
          so_far =
              ap (λ l. take k out ++ l) (sym (return draft i (n - k) f.number f.after f.is first (omega arith))) ∙ c.so_far;
          rest = c.rest;
          long = c.long;
          within = c.within;
          fits = c.fits;
        }

    -- all that is left, by the copier
    pub copied_rest :
        (out' : List ℕ) → out' ≡ take k out ++ (clean (n - k) (stream_at draft i) ++ drop (k + (n - k)) out)
        → out' ≡ clean n (stream_at draft from) ++ drop n before
    copied_rest out' is =
        let within = c.within in
        let sum : k + (n - k) ≡ n = omega arith in
        let behind : drop (k + (n - k)) out ≡ drop n before =
        sym (drop-drop (n - k) k out)
        ∙ (ap (drop (n - k)) c.rest ∙ (drop-drop (n - k) k before ∙ ap (λ j. drop j before) sum)) in
        is
        ∙ (sym (append_assoc (take k out) (clean (n - k) (stream_at draft i)) (drop (k + (n - k)) out))
        ∙ (ap (λ l. l ++ drop (k + (n - k)) out) c.so_far ∙ ap (λ l. clean n (stream_at draft from) ++ l) behind))

    -- nothing is left
    pub copied_all : k ≡ n → out ≡ clean n (stream_at draft from) ++ drop n before
    copied_all h =
        let none : n - k ≡ 0 = omega arith in
        let here : k + 0 ≡ k = omega arith in
        copied_rest out (sym (take-append-drop k out) ∙ rw (none, clean_zero (stream_at draft i), here))
