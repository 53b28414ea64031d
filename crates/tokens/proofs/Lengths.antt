-- How long a token and a string may be, over every length and every limit: up to the limit they are read whole, and one byte more is
-- refused at its own place, however much follows.
use mathlib.Core.Path.{◌≡◌, sym, ◌∙◌, ap}
use mathlib.Core.Bool.{true, false}
use mathlib.Core.List.{List}
use Prim.Native.Nat.{ℕ, suc, ◌+◌, ◌-◌, ◌<◌, ◌≤◌}
use native.Mathlib.Omega.{arith}
use lib.ListN.{length, get_or}
use borrow.Author.Tests.{ne_eqb}
use Rattle.chars.specs.Limits.{Limits}
use Rattle.chars.specs.Character.{character_at}
use Rattle.chars.specs.Stream.{stream_at}
use Rattle.chars.specs.Character.{Clean}
use Rattle.chars.proofs.Extent.{encoded_one}
use Rattle.tokens.specs.Sorts.{exclusive, legal}
use Rattle.tokens.specs.Tokens.{between, word, string, Tokens, Opened, closed, down, tokens, first, shown}
use Rattle.tokens.specs.Tokens.{Simple, Refused}
use Rattle.tokens.proofs.Passing.{class_at, stepwise}
use Rattle.tokens.proofs.Classes.{low, plain, ordinary}
use Rattle.tokens.proofs.Skipping.{alone_at}
use Rattle.tokens.proofs.Words.{longer, ended, too_long}
use Rattle.tokens.proofs.Strings.{plainly, down_not, closes_here, too_long as too_much}
use Rattle.tokens.proofs.Starts.{worded}

-- `n` bytes in a row have a class from `least` to `most`
abbrev pub Row : (draft : List ℕ) → (least most i n : ℕ) → Type 0
Row draft least most i n =
    (i + n ≤ length draft)
    × ((j : ℕ) → i ≤ j → j < i + n → (least ≤ class_at draft j) × (class_at draft j ≤ most))

-- A word of `n` plain characters, whose first is no bar.
module _ (L : Limits) (one : 1 ≤ L.token) (draft : List ℕ) (i n : ℕ) (all : Row draft 3 4 i n) (some : 1 ≤ n)
    (no-bar : get_or draft i 0 ≡ 0x7C → ⊥) where
  -- its first `m` characters
  beginning : (m : ℕ) → 1 ≤ m → m ≤ n → m ≤ L.token
      → first (tokens L between (stream_at draft i)) ≡ first (tokens L (word i m) (stream_at draft (i + m)))
  beginning m g h l =
      let b = get_or draft i 0 in
      let k = all.1 i (omega arith) (omega arith) in
      let p = plain b k.0 k.1 in
      let is = alone_at draft i (omega (arith, all.0)) (omega (arith, k.0)) in
      let F : ℕ → Tokens = λ j. tokens L (word i (j - i)) (stream_at draft j) in
      let start : i + 1 - i ≡ 1 = omega arith in
      let stop : i + 1 + (m - 1) ≡ i + m = omega arith in
      let long : i + m - i ≡ m = omega arith in
      worded L draft i b (i + 1) is p.no_white p.no_remark p.is_visible p.no_inclusive p.no_atomic (ne_eqb b 0x7C no-bar)
      ∙ ap first
      (ap (λ j. tokens L (word i j) (stream_at draft (i + 1))) (sym start)
      ∙ (stepwise F (m - 1) (i + 1)
      (λ j a z.
      let c = all.1 j (omega arith) (omega arith) in
      let next : suc (j - i) ≡ j + 1 - i = omega arith in
      longer L draft i j (j - i) (omega (arith, all.0)) c.0 c.1 (omega arith)
      ∙ ap (λ r. tokens L (word i r) (stream_at draft (j + 1))) next)
      ∙ (ap F stop ∙ ap (λ r. tokens L (word i r) (stream_at draft (i + m))) long)))

  -- up to the limit it is a token, where a character ends it
  pub short_word :
      n ≤ L.token → (number after : ℕ) → character_at draft (i + n) ≡ Clean number after → legal number ≡ true
      → exclusive number ≡ true → first (tokens L between (stream_at draft i)) ≡ Simple i (i + n) n
  short_word l number after e t x =
      beginning n some (omega arith) l ∙ ended L draft i (i + n) number after n e t x

  -- above it, it is refused at the first byte over the limit
  pub long_word : L.token < n → first (tokens L between (stream_at draft i)) ≡ Refused 8 (i + L.token)
  long_word l =
      let j = i + L.token in
      let k = all.1 j (omega arith) (omega arith) in
      let p = plain (get_or draft j 0) k.0 k.1 in
      beginning L.token one (omega arith) (omega arith)
      ∙ too_long L draft i j (get_or draft j 0) (j + 1) L.token (alone_at draft j (omega (arith, all.0)) (omega (arith, k.0)))
      p.is_legal p.no_exclusive p.no_inclusive (omega arith)

-- `n` bytes of plain data from `i` on, in a quoted string or a curly one.
module _ (L : Limits) (draft : List ℕ) (o : Opened) (i n : ℕ) (all : Row draft 4 9 i n) where
  -- its first `m` bytes
  held : (m : ℕ) → m ≤ n → m ≤ L.string → first (tokens L (string o 0 1 false) (stream_at draft i))
      ≡ first (tokens L (string o m 1 false) (stream_at draft (i + m)))
  held m h l =
      let F : ℕ → Tokens = λ j. tokens L (string o (j - i) 1 false) (stream_at draft j) in
      let start : i - i ≡ 0 = omega arith in
      let long : i + m - i ≡ m = omega arith in
      ap first
      (ap (λ j. tokens L (string o j 1 false) (stream_at draft i)) (sym start)
      ∙ (stepwise F m i
      (λ j a z.
      let c = all.1 j (omega arith) (omega arith) in
      let next : j - i + 1 ≡ j + 1 - i = omega arith in
      plainly L draft o j (j - i) 1 (omega (arith, all.0)) c.0 c.1 (omega arith)
      ∙ ap (λ r. tokens L (string o r 1 false) (stream_at draft (j + 1))) next)
      ∙ ap (λ r. tokens L (string o r 1 false) (stream_at draft (i + m))) long))

  -- up to the limit it is the string's data, where a character closes it
  pub short_string :
      n ≤ L.string → (number after : ℕ) → character_at draft (i + n) ≡ Clean number after → down o.sort number ≡ true
      → first (tokens L (string o 0 1 false) (stream_at draft i)) ≡ shown (closed o after n)
  short_string l number after e d =
      held n (omega arith) l ∙ closes_here L draft o (i + n) number after n 1 false e (rw d)

  -- above it, it is refused at the first byte over the limit
  pub long_string : L.string < n → first (tokens L (string o 0 1 false) (stream_at draft i)) ≡ Refused 9 (i + L.string)
  long_string l =
      let j = i + L.string in
      let b = get_or draft j 0 in
      let k = all.1 j (omega arith) (omega arith) in
      let p = ordinary b k.0 k.1 in
      let size = ap length (encoded_one b (low b (omega (arith, k.0)))) in
      held L.string (omega arith) (omega arith)
      ∙ too_much L draft o j b (j + 1) L.string 1 false (alone_at draft j (omega (arith, all.0)) (omega (arith, k.0)))
      (rw (down_not o.sort b p)) (omega (arith, size))
