-- Characters above US-ASCII where they stand in a draft. By the grammar a character has the bytes that it is re-encoded in. A high
-- surrogate and right behind it a low one are six bytes, and one character that is re-encoded in four.
use mathlib.Core.Path.{◌≡◌, refl}
use mathlib.Core.Bool.{true, or-true}
use mathlib.Core.List.{List, [], ◌∷◌}
use Prim.Native.Nat.{ℕ, suc, ◌+◌, ◌-◌, ◌*◌, ◌<◌, ◌≤◌}
use native.Mathlib.Omega.{arith}
use lib.ListN.{length, get_or, take, drop}
use lib.Seq.{drop-cons}
use Rattle.chars.specs.Choice.{within}
use Rattle.chars.specs.Character.{continued, lowest, highest, sequence, paired, judged, character, character_at}
use Rattle.chars.specs.Rfc3629.{utf8_2, utf8_3, utf8_char}
use Rattle.chars.specs.Character.{Clean}
use Rattle.chars.specs.Character.{Whole}
use Rattle.chars.proofs.Extent.{within_true, inside, encoded_four}
use Rattle.tokens.proofs.Standing.{standing, taken}
use Rattle.tokens.proofs.Skipping.{reaches}
use Rattle.wide.specs.Wide.{Wider, Wides, none, more}

-- by the grammar, so many bytes from a place on
by_grammar :
    (draft : List ℕ) (at r : ℕ) → at + r ≤ length draft → 2 ≤ r → utf8_char (take r (drop at draft)) ≡ true → Wider draft at r 0
by_grammar draft at r h g e =
    let s = standing draft at (length draft) r (record { several = g; there = h; grammar = e }) (omega arith) in
    record { number = s.number; high = s.high; is = s.is; size = omega (arith, s.size); several = g }

-- so many of four
pub of_four :
    (draft : List ℕ) (at r : ℕ) → at + 4 ≤ length draft → 2 ≤ r → r ≤ 4
    → utf8_char (take r (get_or draft at 0 ∷ get_or draft (at + 1) 0 ∷ get_or draft (at + 2) 0 ∷ get_or draft (at + 3) 0 ∷ drop (at + 4) draft))
    ≡ true
    → Wider draft at r 0
of_four draft at r h g l e =
    by_grammar draft at r (omega arith) g (taken draft at (length draft) r h (omega arith) g l e).grammar

-- a byte of a draft, and those behind it
next : (draft : List ℕ) (i j : ℕ) → j ≡ suc i → i < length draft → drop i draft ≡ get_or draft i 0 ∷ drop j draft
next draft i j e l = rw e (drop-cons draft i 0 l)

-- both of two, whatever stands behind them
pub of_two :
    (draft : List ℕ) (at : ℕ) → at + 2 ≤ length draft → utf8_2 (get_or draft at 0 ∷ get_or draft (at + 1) 0 ∷ []) ≡ true → Wider draft at 2 0
unfolding utf8_char
of_two draft at h e =
    by_grammar draft at 2 h (omega arith)
    (rw (next draft at (at + 1) (omega arith) (omega arith), next draft (at + 1) (at + 2) (omega arith) (omega arith))
    (simp (e, or-true)))

-- and all of three
pub of_three :
    (draft : List ℕ) (at : ℕ) → at + 3 ≤ length draft
    → utf8_3 (get_or draft at 0 ∷ get_or draft (at + 1) 0 ∷ get_or draft (at + 2) 0 ∷ []) ≡ true → Wider draft at 3 0
unfolding utf8_char
of_three draft at h e =
    by_grammar draft at 3 h (omega arith)
    (rw (
      next draft at (at + 1) (omega arith) (omega arith),
      next draft (at + 1) (at + 2) (omega arith) (omega arith),
      next draft (at + 2) (at + 3) (omega arith) (omega arith),
    )
    (simp (e, or-true)))

-- three bytes from ED on, by the definition
surrogate :
    (c d v : ℕ) (rest : List ℕ) (place after : ℕ) → within 0x80 0xBF c ≡ true → within 0x80 0xBF d ≡ true
    → v ≡ (13 * 64 + (c - 0x80)) * 64 + (d - 0x80) → after ≡ suc (suc (suc place))
    → sequence (0xED ∷ c ∷ d ∷ rest) place ≡ Whole v after
unfolding sequence continued lowest highest
surrogate c d v rest place after s t n p = rw (s, t, n, p)

-- two of them, a high surrogate and a low one
two_surrogates :
    (c d e f v w : ℕ) (rest : List ℕ) (place : ℕ) → 0xA0 ≤ c → c ≤ 0xAF → 0x80 ≤ d → d ≤ 0xBF → 0xB0 ≤ e → e ≤ 0xBF → 0x80 ≤ f → f ≤ 0xBF
    → v ≡ (13 * 64 + (c - 0x80)) * 64 + (d - 0x80) → w ≡ (13 * 64 + (e - 0x80)) * 64 + (f - 0x80)
    → character (0xED ∷ c ∷ d ∷ 0xED ∷ e ∷ f ∷ rest) place ≡ Clean (0x10000 + (v - 0xD800) * 0x400 + (w - 0xDC00)) (place + 6)
unfolding character judged paired
two_surrogates c d e f v w rest place cg cl dg dl eg el fg fl vn wn =
    let second = inside 0x80 0xBF c (omega arith) (omega arith) in
    let fifth = inside 0x80 0xBF e (omega arith) el in
    let high = surrogate c d v (0xED ∷ e ∷ f ∷ rest) place (place + 3) second (inside 0x80 0xBF d dg dl) vn (omega arith) in
    let low = surrogate e f w rest (place + 3) (place + 6) fifth (inside 0x80 0xBF f fg fl) wn (omega arith) in
    let gap : place + 3 - place ≡ 3 = omega arith in
    rw (high, inside 0xD800 0xDBFF v (omega arith) (omega arith), gap, low, inside 0xDC00 0xDFFF w (omega arith) (omega arith))

-- the six bytes from a place on
six_bytes :
    (draft : List ℕ) (at : ℕ) → at + 6 ≤ length draft
    → drop at draft
    ≡ get_or draft at 0 ∷ get_or draft (at + 1) 0 ∷ get_or draft (at + 2) 0 ∷ get_or draft (at + 3) 0 ∷ get_or draft (at + 4) 0
    ∷ get_or draft (at + 5) 0 ∷ drop (at + 6) draft
six_bytes draft at h =
    rw (
      next draft at (at + 1) (omega arith) (omega arith),
      next draft (at + 1) (at + 2) (omega arith) (omega arith),
      next draft (at + 2) (at + 3) (omega arith) (omega arith),
      next draft (at + 3) (at + 4) (omega arith) (omega arith),
      next draft (at + 4) (at + 5) (omega arith) (omega arith),
      next draft (at + 5) (at + 6) (omega arith) (omega arith),
    )

-- a pair where it stands
pub by_pair :
    (draft : List ℕ) (at : ℕ) → at + 6 ≤ length draft → get_or draft at 0 ≡ 0xED → within 0xA0 0xAF (get_or draft (at + 1) 0) ≡ true
    → within 0x80 0xBF (get_or draft (at + 2) 0) ≡ true → get_or draft (at + 3) 0 ≡ 0xED → within 0xB0 0xBF (get_or draft (at + 4) 0) ≡ true
    → within 0x80 0xBF (get_or draft (at + 5) 0) ≡ true → Wider draft at 6 2
unfolding character_at
by_pair draft at h r1 w2 w3 r4 w5 w6 =
    let c = get_or draft (at + 1) 0 in
    let d = get_or draft (at + 2) 0 in
    let e = get_or draft (at + 4) 0 in
    let f = get_or draft (at + 5) 0 in
    let v = (13 * 64 + (c - 0x80)) * 64 + (d - 0x80) in
    let w = (13 * 64 + (e - 0x80)) * 64 + (f - 0x80) in
    let n = 0x10000 + (v - 0xD800) * 0x400 + (w - 0xDC00) in
    let cs = within_true 0xA0 0xAF c w2 in
    let ds = within_true 0x80 0xBF d w3 in
    let es = within_true 0xB0 0xBF e w5 in
    let fs = within_true 0x80 0xBF f w6 in
    record {
      number = n;
      high = omega arith;
      is =
          rw (six_bytes draft at h, r1, r4)
          (two_surrogates c d e f v w (drop (at + 6) draft) at cs.0 cs.1 ds.0 ds.1 es.0 es.1 fs.0 fs.1 refl refl);
      size = rw (encoded_four n (omega arith));
      several = omega arith;
    }

-- it ends within the draft, and loses no more bytes than it has
pub wider_there : (draft : List ℕ) (i bytes less : ℕ) → Wider draft i bytes less → i + bytes ≤ length draft
wider_there draft i bytes less w = (reaches draft i w.number (i + bytes) w.is).1

pub less_bytes : {draft : List ℕ} {i bytes less : ℕ} → Wider draft i bytes less → less ≤ bytes
less_bytes w = omega (arith, w.size)

-- so do several of them
pub less_wides : {draft : List ℕ} {at i less : ℕ} → Wides draft at i less → less ≤ i
less_wides none = omega arith
less_wides (more i bytes gone less ws w) = omega (arith, less_wides ws, less_bytes w)

-- some behind others that all stay as they are
pub wides_on :
    {draft : List ℕ} {at i r less : ℕ} → Wides draft at i 0 → Wides draft i r less → Wides draft at r less
wides_on first none = first
wides_on first (more j bytes gone less ws w) = more j bytes gone less (wides_on first ws) w
