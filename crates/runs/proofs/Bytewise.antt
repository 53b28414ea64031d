-- Why what is done to one number is done to each of its eight bytes. `and`, `or` and `xor` go byte by byte, and so does a sum, as long as
-- no sum of two bytes reaches 256 and is carried. So a byte of the outcome is what the same steps make of one byte. Assumes nothing.
use mathlib.Core.Path.{◌≡◌, refl, sym, ◌∙◌, ap, ap₂}
use mathlib.Core.Bool.{Bool, true}
use mathlib.Core.List.{List, [], ◌∷◌}
use Prim.Native.Nat.{ℕ, zero, suc, ◌+◌, ◌*◌, ◌/◌, ◌%◌, ◌^◌, ◌<◌, ◌≤◌}
use native.Mathlib.Omega.{arith}
use native.Mathlib.Nat.{mod-lt, div-add-mod', pow-suc}
use lib.Arith.{lt-one, digits_div, digits_mod}
use lib.Bits.{bit_and, bit_or, bit_xor, and_block, or_block, xor_block, and_lt, or_lt, xor_lt, and_le_l, and_le_r}
use lib.ListN.{length, get_or}
use Rattle.tokens.specs.Runs.{bytes_of}
use Rattle.runs.specs.Bytes.{Flags}

-- the number whose bytes, the lowest first, are what `f` makes of these
abbrev pub number : (ℕ → ℕ) → List ℕ → ℕ
number f [] = 0
number f (b ∷ bytes) = number f bytes * 256 + f b

abbrev Bytes : List ℕ → Type 0
Bytes [] = Unit
Bytes (b ∷ bytes) = (b < 256) × Bytes bytes

-- `f` makes a byte of every byte
abbrev Small : (ℕ → ℕ) → Type 0
Small f = (b : ℕ) → b < 256 → f b < 256

module _ (f g : ℕ → ℕ) (s : Small f) (t : Small g) where
  -- what works on the low byte and on the others apart works on each byte apart
  apart :
      (op : ℕ → ℕ → ℕ) → op 0 0 ≡ 0
      → ((x y c d : ℕ) → c < 256 → d < 256 → op (x * 256 + c) (y * 256 + d) ≡ op x y * 256 + op c d)
      → (bytes : List ℕ) → Bytes bytes → op (number f bytes) (number g bytes) ≡ number (λ b. op (f b) (g b)) bytes
  apart op none block [] h = none
  apart op none block (b ∷ bytes) h =
      block (number f bytes) (number g bytes) (f b) (g b) (s b h.0) (t b h.0)
      ∙ ap (λ n. n * 256 + op (f b) (g b)) (apart op none block bytes h.1)

are_bytes : (n w : ℕ) → Bytes (bytes_of n w)
unfolding bytes_of
are_bytes zero w = tt
are_bytes (suc n) w = (mod-lt w (omega arith), are_bytes n (w / 256))

of_its_bytes : (n w : ℕ) → w < 256 ^ n → w ≡ number (λ b. b) (bytes_of n w)
unfolding bytes_of
of_its_bytes zero w h = lt-one h
of_its_bytes (suc n) w h =
    let l = rw (pow-suc 256 n) at h in
    sym (div-add-mod' w 256) ∙ ap (λ q. q * 256 + w % 256) (of_its_bytes n (w / 256) (omega arith))

module _ (f : ℕ → ℕ) (s : Small f) where
  -- each byte of what is made
  byte_made :
      (bytes : List ℕ) → Bytes bytes → (i : ℕ) → i < length bytes
      → get_or (bytes_of (length bytes) (number f bytes)) i 0 ≡ f (get_or bytes i 0)
  unfolding bytes_of
  byte_made [] h i l = absurd (omega arith)
  byte_made (b ∷ bytes) h zero l = digits_mod (number f bytes) (s b h.0)
  byte_made (b ∷ bytes) h (suc i) l = rw (digits_div (number f bytes) (s b h.0)) (byte_made bytes h.1 i (omega arith))

  number_fits : (bytes : List ℕ) → Bytes bytes → number f bytes < 256 ^ length bytes
  number_fits [] h = omega arith
  number_fits (b ∷ bytes) h = rw (pow-suc 256 (length bytes)) (omega (arith, number_fits bytes h.1, s b h.0))

its_byte : (bytes : List ℕ) → Bytes bytes → (i : ℕ) → get_or bytes i 0 < 256
its_byte [] h i = omega arith
its_byte (b ∷ bytes) h zero = h.0
its_byte (b ∷ bytes) h (suc i) = its_byte bytes h.1 i

-- `x` is `w` with each of its eight bytes made into the byte that `f` says
pub record Made (w : ℕ) (f : ℕ → ℕ) (x : ℕ) : Type 0 where
  small : Small f
  same : x ≡ number f (bytes_of 8 w)

pub itself : (w : ℕ) → w < 2 ^ 64 → Made w (λ b. b) w
itself w h = record { small = λ b l. l; same = of_its_bytes 8 w h }

-- eight times the same byte
pub always : (w k : ℕ) → k < 256 → Made w (λ b. k) (number (λ b. k) (bytes_of 8 w))
always w k h = record { small = λ b l. h; same = refl }

pub repeated : (w k : ℕ) → k < 256 → Made w (λ b. k) (k * 0x0101010101010101)
unfolding bytes_of
repeated w k h = record { small = λ b l. h; same = omega arith }

module _ {w : ℕ} {f : ℕ → ℕ} {x : ℕ} (p : Made w f x) where
  pub made_fits : x < 2 ^ 64
  unfolding bytes_of
  made_fits = rw p.same (number_fits f p.small (bytes_of 8 w) (are_bytes 8 w))

  -- a test that every byte passes of which `f` makes 0
  pub made_flags : (test : ℕ → Bool) → ((b : ℕ) → b < 256 → f b ≡ 0 → test b ≡ true) → Flags test w x
  unfolding bytes_of
  made_flags test so i l e =
      let bytes = bytes_of 8 w in
      let s = ap (λ n. get_or (bytes_of 8 n) i 0) p.same in
      so (get_or bytes i 0) (its_byte bytes (are_bytes 8 w) i)
      (sym (byte_made f p.small bytes (are_bytes 8 w) i l) ∙ (sym s ∙ e))

  module _ {g : ℕ → ℕ} {y : ℕ} (q : Made w g y) where
    made_by :
        (op : ℕ → ℕ → ℕ) → op 0 0 ≡ 0
        → ((x y c d : ℕ) → c < 256 → d < 256 → op (x * 256 + c) (y * 256 + d) ≡ op x y * 256 + op c d)
        → Small (λ b. op (f b) (g b)) → Made w (λ b. op (f b) (g b)) (op x y)
    made_by op none block s =
        record {
          small = s;
          same = ap₂ op p.same q.same ∙ apart f g p.small q.small op none block (bytes_of 8 w) (are_bytes 8 w);
        }

    pub made_and : Made w (λ b. bit_and (f b) (g b)) (bit_and x y)
    made_and = made_by bit_and refl (and_block 8) (λ b l. and_lt 8 (f b) (g b) (p.small b l) (q.small b l))

    pub made_or : Made w (λ b. bit_or (f b) (g b)) (bit_or x y)
    made_or = made_by bit_or refl (or_block 8) (λ b l. or_lt 8 (f b) (g b) (p.small b l) (q.small b l))

    pub made_xor : Made w (λ b. bit_xor (f b) (g b)) (bit_xor x y)
    made_xor = made_by bit_xor refl (xor_block 8) (λ b l. xor_lt 8 (f b) (g b) (p.small b l) (q.small b l))

    pub made_sum : ((b : ℕ) → b < 256 → f b + g b < 256) → Made w (λ b. f b + g b) (x + y)
    made_sum s = made_by ◌+◌ refl (λ x y c d i j. omega arith) s

module _ (w : ℕ) (h : w < 2 ^ 64) where
  -- each byte without its highest bit
  pub seven : Made w (λ b. bit_and b 0x7F) (bit_and w 0x7F7F7F7F7F7F7F7F)
  unfolding bytes_of
  seven = made_and (itself w h) (always w 0x7F (omega arith))

  pub raised : (k : ℕ) → k ≤ 0x80 → Made w (λ b. bit_and b 0x7F + k) (bit_and w 0x7F7F7F7F7F7F7F7F + k * 0x0101010101010101)
  raised k l = made_sum seven (repeated w k (omega arith)) (λ b i. omega (arith, and_le_r b 0x7F))

  -- the same with some bits turned
  pub turned :
      (k m : ℕ) → k < 0x80 → m ≤ 0x80
      → Made w (λ b. bit_xor (bit_and b 0x7F) k + m)
      (bit_xor (bit_and w 0x7F7F7F7F7F7F7F7F) (k * 0x0101010101010101) + m * 0x0101010101010101)
  turned k m l n =
      made_sum (made_xor seven (repeated w k (omega arith))) (repeated w m (omega arith))
      (λ b i. omega (arith, xor_lt 7 (bit_and b 0x7F) k (omega (arith, and_le_r b 0x7F)) l))

  -- the same as they are or raised, with some bits left out
  pub masked :
      (k m n : ℕ) → m < 256 → k + n ≤ 0x80
      → Made w (λ b. bit_and (bit_and b 0x7F + k) m + n)
      (bit_and (bit_and w 0x7F7F7F7F7F7F7F7F + k * 0x0101010101010101) (m * 0x0101010101010101) + n * 0x0101010101010101)
  masked k m n l s =
      made_sum (made_and (raised k (omega arith)) (repeated w m l)) (repeated w n (omega arith))
      (λ b i. omega (arith, and_le_l (bit_and b 0x7F + k) m, and_le_r b 0x7F))
