-- Numbers made of a draft's bytes, the first of them lowest: the definition's bytes of a number are the library's. Assumes nothing.
use mathlib.Core.Path.{◌≡◌, refl, sym, ◌∙◌, ap}
use mathlib.Core.List.{List}
use Prim.Native.Nat.{ℕ, zero, suc, ◌+◌, ◌/◌, ◌%◌, ◌^◌, ◌<◌}
use lib.ListN.{get_or, take, drop, length-take}
use lib.Seq.{get_or-take, get_or-drop}
use Rattle.std.proofs.lemmas.List.{get_or_past}
use Rattle.chars.proofs.Cases.{by_bound}
use native.Mathlib.Omega.{arith}
use native.Mathlib.Nat.{pow-suc, div-one, div-div-eq-div-mul}
use Rattle.std.specs.Int.{byte_at, bytes_low_first}
use Rattle.tokens.specs.Runs.{bytes_of}

byte_is : (i n : ℕ) → byte_at i n ≡ n / 256 ^ i % 256
byte_is zero n = ap (λ k. k % 256) (sym (div-one n))
byte_is (suc i) n = refl

from_byte : (k i n : ℕ) → bytes_of k (n / 256 ^ i) ≡ bytes_low_first i k n
unfolding bytes_of
from_byte zero i n = refl
from_byte (suc k) i n =
    let next : n / 256 ^ i / 256 ≡ n / 256 ^ suc i = div-div-eq-div-mul n (256 ^ i) 256 ∙ ap (λ k. n / k) (sym (pow-suc 256 i)) in
    rw (byte_is i n, next, from_byte k (suc i) n)

pub same_bytes : (k n : ℕ) → bytes_of k n ≡ bytes_low_first 0 k n
same_bytes k n = ap (bytes_of k) (sym (div-one n)) ∙ from_byte k 0 n

-- a part of a draft is bytes too
pub part_small :
    (draft part : List ℕ) (at n : ℕ) → part ≡ take n (drop at draft) → ((i : ℕ) → get_or draft i 0 < 256)
    → (i : ℕ) → get_or part i 0 < 256
part_small draft part at n e small i =
    rw e
    (by_bound i n
    (λ l. rw (get_or-take n (drop at draft) i 0 l, get_or-drop at draft i 0) (small (at + i)))
    (λ g. rw (get_or_past (take n (drop at draft)) i 0 (simp length-take (omega arith))) (omega arith)))
