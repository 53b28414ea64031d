-- Two that cleaning makes one character: a high surrogate and right behind it a low one, each three bytes from ED on, and CR LF.
use mathlib.Core.Path.{◌≡◌}
use mathlib.Core.List.{List, ◌∷◌}
use Prim.Native.Nat.{ℕ, suc, ◌+◌, ◌-◌, ◌*◌, ◌<◌, ◌≤◌}
use native.Mathlib.Omega.{arith}
use lib.ListN.{length, get_or, drop}
use lib.Seq.{drop-cons, drop-drop}
use Rattle.chars.specs.Character.{Clean, Whole, continued, lowest, highest, sequence, paired, judged, carriage, character, character_at}
use Rattle.chars.proofs.Extent.{inside}

-- a byte and those behind it
behind : (draft : List ℕ) (i j : ℕ) → j ≡ suc i → i < length draft → drop i draft ≡ get_or draft i 0 ∷ drop j draft
behind draft i j e l = rw e (drop-cons draft i 0 l)

-- three bytes from ED on, by the definition
three :
    (c d v : ℕ) (rest : List ℕ) (place after : ℕ) → 0x80 ≤ c → c ≤ 0xBF → 0x80 ≤ d → d ≤ 0xBF
    → v ≡ (13 * 64 + (c - 0x80)) * 64 + (d - 0x80) → after ≡ suc (suc (suc place))
    → sequence (0xED ∷ c ∷ d ∷ rest) place ≡ Whole v after
unfolding sequence continued lowest highest
three c d v rest place after cg cl dg dl n p = rw (inside 0x80 0xBF c cg cl, inside 0x80 0xBF d dg dl, n, p)

-- a surrogate where it stands, by its ten bits
pub surrogate :
    (draft : List ℕ) (i low r : ℕ) → i + 3 ≤ length draft → 0xA0 ≤ low → low ≤ 0xB0 → get_or draft i 0 ≡ 0xED
    → low ≤ get_or draft (i + 1) 0 → get_or draft (i + 1) 0 ≤ low + 15 → 0x80 ≤ get_or draft (i + 2) 0 → get_or draft (i + 2) 0 ≤ 0xBF
    → r ≡ (get_or draft (i + 1) 0 - low) * 64 + (get_or draft (i + 2) 0 - 0x80)
    → sequence (drop i draft) i ≡ Whole (0xD000 + (low - 0x80) * 64 + r) (i + 3)
surrogate draft i low r h lg ll first cg cl dg dl n =
    rw (
      behind draft i (i + 1) (omega arith) (omega arith),
      behind draft (i + 1) (i + 2) (omega arith) (omega arith),
      behind draft (i + 2) (i + 3) (omega arith) (omega arith),
      first,
    )
    (three (get_or draft (i + 1) 0) (get_or draft (i + 2) 0) (0xD000 + (low - 0x80) * 64 + r) (drop (i + 3) draft) i (i + 3) (omega arith)
    (omega arith) dg dl (omega arith) (omega arith))

-- a first byte ED is neither nul nor CR
judging :
    (bytes : List ℕ) (b : ℕ) (rest : List ℕ) (place : ℕ) → bytes ≡ b ∷ rest → b ≡ 0xED
    → character bytes place ≡ judged place (sequence bytes place) bytes
unfolding character
judging bytes b rest place shape first = rw (shape, first)

-- a high surrogate and right behind it a low one are one character, by the definition
joined :
    (bytes : List ℕ) (place high low : ℕ) → high < 0x400 → low < 0x400
    → sequence (drop 3 bytes) (place + 3) ≡ Whole (0xDC00 + low) (place + 6)
    → judged place (Whole (0xD800 + high) (place + 3)) bytes ≡ Clean (0x10000 + high * 0x400 + low) (place + 6)
unfolding judged paired
joined bytes place high low hl ll second =
    let gap : place + 3 - place ≡ 3 = omega arith in
    let above : 0xD800 + high - 0xD800 ≡ high = omega arith in
    let beyond : 0xDC00 + low - 0xDC00 ≡ low = omega arith in
    rw (
      inside 0xD800 0xDBFF (0xD800 + high) (omega arith) (omega arith),
      gap,
      second,
      inside 0xDC00 0xDFFF (0xDC00 + low) (omega arith) (omega arith),
      above,
      beyond,
    )

-- the same where they stand
pub two_surrogates :
    (draft : List ℕ) (i after high low : ℕ) → i + 6 ≤ length draft → after ≡ i + 6 → high < 0x400 → low < 0x400 → get_or draft i 0 ≡ 0xED
    → sequence (drop i draft) i ≡ Whole (0xD800 + high) (i + 3)
    → sequence (drop (i + 3) draft) (i + 3) ≡ Whole (0xDC00 + low) after
    → character_at draft i ≡ Clean (0x10000 + high * 0x400 + low) (i + 6)
unfolding character_at
two_surrogates draft i after high low h a hl ll first one two =
    let shape = behind draft i (i + 1) (omega arith) (omega arith) in
    rw (judging (drop i draft) (get_or draft i 0) (drop (i + 1) draft) i shape first, one)
    (joined (drop i draft) i high low hl ll (rw (drop-drop 3 i draft, ← a) two))

-- CR LF where it stands
pub feed :
    (draft : List ℕ) (i : ℕ) → i + 2 ≤ length draft → get_or draft i 0 ≡ 0x0D → get_or draft (i + 1) 0 ≡ 0x0A
    → character_at draft i ≡ Clean 0x0A (i + 2)
unfolding character_at character carriage
feed draft i h first second =
    rw (
      behind draft i (i + 1) (omega arith) (omega arith),
      behind draft (i + 1) (i + 2) (omega arith) (omega arith),
      first,
      second,
    )
