-- What a number is re-encoded in is one character by the grammar of RFC 3629, if the number is no surrogate, and nothing else is one: the
-- range of the number tells the first byte's alternative and bounds the second byte, and six bits are always a tail. Only nul has a nul
-- byte.
use mathlib.Core.Path.{◌≡◌, refl}
use mathlib.Core.Bool.{Bool, true, false, ◌||◌, or-true, false≢true}
use mathlib.Core.List.{List, [], ◌∷◌}
use Prim.Native.Nat.{ℕ, ◌+◌, ◌-◌, ◌*◌, ◌/◌, ◌%◌, ◌<◌, ◌≤◌}
use native.Mathlib.Omega.{arith}
use lib.Dec.{eqb}
use borrow.Author.Tests.{ne_eqb}
use Rattle.chars.specs.Choice.{within, among}
use Rattle.chars.specs.Character.{encoded}
use Rattle.chars.specs.Rfc3629.{each, tail, utf8_1, utf8_2, utf8_3, utf8_4, utf8_char}
use Rattle.chars.proofs.Cases.{both, by_bound}
use Rattle.chars.proofs.Extent.{within_true, inside, encoded_one, encoded_two, encoded_three, encoded_four, by_range}

-- a number that is no surrogate is below or above them
pub by_side {κ} : {P : Type κ} (n : ℕ) → (0xD800 ≤ n → n ≤ 0xDFFF → ⊥) → (n < 0xD800 → P) → (0xDFFF < n → P) → P
by_side n none below above = by_bound n 0xD800 below (λ g. by_bound 0xDFFF n above (λ l. absurd (none g l)))

bits : (m : ℕ) → tail (0x80 + m % 64) ≡ true
bits m = inside 0x80 0xBF (0x80 + m % 64) (omega arith) (omega arith)

one : (n : ℕ) → n < 0x80 → utf8_1 (encoded n) ≡ true
unfolding utf8_1
one n l = rw (encoded_one n l) (simp (inside 0x00 0x7F n (omega arith) (omega arith)))

two : (n : ℕ) → 0x80 ≤ n → n < 0x800 → utf8_2 (encoded n) ≡ true
unfolding utf8_2
two n g l = rw (encoded_two n g l) (simp (inside 0xC2 0xDF (0xC0 + n / 64) (omega arith) (omega arith), bits n))

three : (n : ℕ) → 0x800 ≤ n → n < 0x10000 → (0xD800 ≤ n → n ≤ 0xDFFF → ⊥) → utf8_3 (encoded n) ≡ true
unfolding utf8_3
three n g l none =
    let b = 0xE0 + n / 4096 in
    let c = 0x80 + n / 64 % 64 in
    rw (encoded_three n g l)
    (by_side n none
    (λ s. by_bound n 0x1000
    (λ h. simp (inside 0xE0 0xE0 b (omega arith) (omega arith), inside 0xA0 0xBF c (omega arith) (omega arith), bits n))
    (λ h. by_bound n 0xD000
    (λ k. simp (inside 0xE1 0xEC b (omega arith) (omega arith), bits (n / 64), bits n, or-true))
    (λ k. simp (inside 0xED 0xED b (omega arith) (omega arith), inside 0x80 0x9F c (omega arith) (omega arith), bits n, or-true))))
    (λ s. simp (inside 0xEE 0xEF b (omega arith) (omega arith), bits (n / 64), bits n, or-true)))

four : (n : ℕ) → 0x10000 ≤ n → n < 0x110000 → utf8_4 (encoded n) ≡ true
unfolding utf8_4
four n g l =
    let b = 0xF0 + n / 262144 in
    let c = 0x80 + n / 4096 % 64 in
    let third = bits (n / 64) in
    let last = bits n in
    rw (encoded_four n g)
    (by_bound n 0x40000
    (λ h. simp (inside 0xF0 0xF0 b (omega arith) (omega arith), inside 0x90 0xBF c (omega arith) (omega arith), third, last))
    (λ h. by_bound n 0x100000
    (λ k. simp (inside 0xF1 0xF3 b (omega arith) (omega arith), bits (n / 4096), third, last, or-true))
    (λ k. simp (inside 0xF4 0xF4 b (omega arith) (omega arith), inside 0x80 0x8F c (omega arith) (omega arith), third, last, or-true))))

pub one_character : (n : ℕ) → n < 0x110000 → (0xD800 ≤ n → n ≤ 0xDFFF → ⊥) → utf8_char (encoded n) ≡ true
unfolding utf8_char
one_character n h none =
    by_range n
    (λ l. simp (one n l))
    (λ g l. simp (two n g l, or-true))
    (λ g l. simp (three n g l none, or-true))
    (λ g. simp (four n g h, or-true))

some : (b : ℕ) → 0 < b → eqb 0 b ≡ false
some b h = ne_eqb 0 b (λ e. omega arith)

pub no_nul_byte : (n : ℕ) → 0 < n → among 0 (encoded n) ≡ false
no_nul_byte n p =
    let last = some (0x80 + n % 64) (omega arith) in
    let third = some (0x80 + n / 64 % 64) (omega arith) in
    let second = some (0x80 + n / 4096 % 64) (omega arith) in
    by_range n
    (λ l. rw (encoded_one n l) (simp (some n p)))
    (λ g l. rw (encoded_two n g l) (simp (some (0xC0 + n / 64) (omega arith), last)))
    (λ g l. rw (encoded_three n g l) (simp (some (0xE0 + n / 4096) (omega arith), third, last)))
    (λ g. rw (encoded_four n g) (simp (some (0xF0 + n / 262144) (omega arith), second, third, last)))

-- The other way: what is one character by the grammar is what a number, no surrogate, is re-encoded in.
pub record Numbered (bytes : List ℕ) : Type 0 where
  pub number : ℕ
  pub are : bytes ≡ encoded number
  pub small : number < 0x110000
  pub no_surrogate : 0xD800 ≤ number → number ≤ 0xDFFF → ⊥

-- bytes that meet their tests: the first of them, and none
met :
    (P : List ℕ → Type 0) (from to : ℕ) (tests : List (ℕ → Bool)) (bytes : List ℕ) → each (within from to ∷ tests) bytes ≡ true
    → ((b : ℕ) (behind : List ℕ) → from ≤ b → b ≤ to → each tests behind ≡ true → P (b ∷ behind)) → P bytes
met P from to tests [] e go = absurd (false≢true e)
met P from to tests (b ∷ bytes) e go =
    let t = both (within from to b) (each tests bytes) e in
    let r = within_true from to b t.0 in
    go b bytes r.0 r.1 t.1

none_left : (P : List ℕ → Type 0) (bytes : List ℕ) → each [] bytes ≡ true → P [] → P bytes
none_left P [] e p = p
none_left P (b ∷ bytes) e p = absurd (false≢true e)

-- one of two alternatives is met
or_else {κ} : {P : Type κ} (s t : Bool) → (s || t) ≡ true → (s ≡ true → P) → (t ≡ true → P) → P
or_else true t e left right = left refl
or_else false t e left right = right e

numbered_one : (bytes : List ℕ) → utf8_1 bytes ≡ true → Numbered bytes
unfolding utf8_1
numbered_one bytes e =
    met Numbered 0x00 0x7F [] bytes e
    (λ a behind g h e. none_left (λ l. Numbered (a ∷ l)) behind e
    (record {
      number = a;
      are = rw (encoded_one a (omega arith));
      small = omega arith;
      no_surrogate = λ k l. omega arith;
    }))

numbered_two : (bytes : List ℕ) → utf8_2 bytes ≡ true → Numbered bytes
unfolding utf8_2
numbered_two bytes e =
    met Numbered 0xC2 0xDF (tail ∷ []) bytes e
    (λ a behind g h e. met (λ l. Numbered (a ∷ l)) 0x80 0xBF [] behind e
    (λ b behind g2 h2 e. none_left (λ l. Numbered (a ∷ b ∷ l)) behind e
    (let n = (a - 0xC0) * 64 + (b - 0x80) in
    let first : 0xC0 + n / 64 ≡ a = omega arith in
    let last : 0x80 + n % 64 ≡ b = omega arith in
    record {
      number = n;
      are = rw (encoded_two n (omega arith) (omega arith), first, last);
      small = omega arith;
      no_surrogate = λ k l. omega arith;
    })))

-- the first two of three bytes: no overlong form and no surrogate
record Three (a b : ℕ) : Type 0 where
  first : (0xE0 ≤ a) × (a ≤ 0xEF)
  second : (0x80 ≤ b) × (b ≤ 0xBF)
  least : 0x20 ≤ (a - 0xE0) * 64 + (b - 0x80)
  no_surrogate : 0x360 ≤ (a - 0xE0) * 64 + (b - 0x80) → (a - 0xE0) * 64 + (b - 0x80) < 0x380 → ⊥

alternative_three :
    (from to low high : ℕ) (bytes : List ℕ) → each (within from to ∷ within low high ∷ tail ∷ []) bytes ≡ true
    → ((a b : ℕ) → from ≤ a → a ≤ to → low ≤ b → b ≤ high → Three a b) → Numbered bytes
alternative_three from to low high bytes e fit =
    met Numbered from to (within low high ∷ tail ∷ []) bytes e
    (λ a behind g h e. met (λ l. Numbered (a ∷ l)) low high (tail ∷ []) behind e
    (λ b behind g2 h2 e. met (λ l. Numbered (a ∷ b ∷ l)) 0x80 0xBF [] behind e
    (λ c behind g3 h3 e. none_left (λ l. Numbered (a ∷ b ∷ c ∷ l)) behind e
    (let f = fit a b g h g2 h2 in
    let n = ((a - 0xE0) * 64 + (b - 0x80)) * 64 + (c - 0x80) in
    let first : 0xE0 + n / 4096 ≡ a = omega arith in
    let third : 0x80 + n / 64 % 64 ≡ b = omega arith in
    let last : 0x80 + n % 64 ≡ c = omega arith in
    record {
      number = n;
      are = rw (encoded_three n (omega arith) (omega arith), first, third, last);
      small = omega arith;
      no_surrogate = λ k l. f.no_surrogate (omega arith) (omega arith);
    }))))

numbered_three : (bytes : List ℕ) → utf8_3 bytes ≡ true → Numbered bytes
unfolding utf8_3
numbered_three bytes e =
    or_else _ _ e
    (λ e. or_else _ _ e
    (λ e. or_else _ _ e
    (λ e. alternative_three 0xE0 0xE0 0xA0 0xBF bytes e (λ a b g h k l. omega arith))
    (λ e. alternative_three 0xE1 0xEC 0x80 0xBF bytes e (λ a b g h k l. omega arith)))
    (λ e. alternative_three 0xED 0xED 0x80 0x9F bytes e (λ a b g h k l. omega arith)))
    (λ e. alternative_three 0xEE 0xEF 0x80 0xBF bytes e (λ a b g h k l. omega arith))

-- six bits are what is left over by 64
remainder : (v b : ℕ) → 0x80 ≤ b → b ≤ 0xBF → 0x80 + (v * 64 + (b - 0x80)) % 64 ≡ b
remainder v b g h = omega arith

-- the first two of four bytes: no overlong form and no number above 10FFFF
record Four (a b : ℕ) : Type 0 where
  first : (0xF0 ≤ a) × (a ≤ 0xF4)
  second : (0x80 ≤ b) × (b ≤ 0xBF)
  least : 0x10 ≤ (a - 0xF0) * 64 + (b - 0x80)
  most : (a - 0xF0) * 64 + (b - 0x80) < 0x110

alternative_four :
    (from to low high : ℕ) (bytes : List ℕ) → each (within from to ∷ within low high ∷ tail ∷ tail ∷ []) bytes ≡ true
    → ((a b : ℕ) → from ≤ a → a ≤ to → low ≤ b → b ≤ high → Four a b) → Numbered bytes
alternative_four from to low high bytes e fit =
    met Numbered from to (within low high ∷ tail ∷ tail ∷ []) bytes e
    (λ a behind g h e. met (λ l. Numbered (a ∷ l)) low high (tail ∷ tail ∷ []) behind e
    (λ b behind g2 h2 e. met (λ l. Numbered (a ∷ b ∷ l)) 0x80 0xBF (tail ∷ []) behind e
    (λ c behind g3 h3 e. met (λ l. Numbered (a ∷ b ∷ c ∷ l)) 0x80 0xBF [] behind e
    (λ d behind g4 h4 e. none_left (λ l. Numbered (a ∷ b ∷ c ∷ d ∷ l)) behind e
    (let f = fit a b g h g2 h2 in
    let v = (a - 0xF0) * 64 + (b - 0x80) in
    let n = (v * 64 + (c - 0x80)) * 64 + (d - 0x80) in
    let upper : n / 64 ≡ v * 64 + (c - 0x80) = omega arith in
    let first : 0xF0 + n / 262144 ≡ a = omega arith in
    let second : 0x80 + n / 4096 % 64 ≡ b = omega arith in
    let third : 0x80 + n / 64 % 64 ≡ c = rw upper (remainder v c g3 h3) in
    let last : 0x80 + n % 64 ≡ d = omega arith in
    record {
      number = n;
      are = rw (encoded_four n (omega arith), first, second, third, last);
      small = omega arith;
      no_surrogate = λ k l. omega arith;
    })))))

numbered_four : (bytes : List ℕ) → utf8_4 bytes ≡ true → Numbered bytes
unfolding utf8_4
numbered_four bytes e =
    or_else _ _ e
    (λ e. or_else _ _ e
    (λ e. alternative_four 0xF0 0xF0 0x90 0xBF bytes e (λ a b g h k l. omega arith))
    (λ e. alternative_four 0xF1 0xF3 0x80 0xBF bytes e (λ a b g h k l. omega arith)))
    (λ e. alternative_four 0xF4 0xF4 0x80 0x8F bytes e (λ a b g h k l. omega arith))

pub numbered : (bytes : List ℕ) → utf8_char bytes ≡ true → Numbered bytes
unfolding utf8_char
numbered bytes e =
    or_else _ _ e
    (λ e. or_else _ _ e (λ e. or_else _ _ e (numbered_one bytes) (numbered_two bytes)) (numbered_three bytes))
    (numbered_four bytes)
