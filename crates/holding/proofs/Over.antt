-- Stores in a row, and bytes written over a part of which the front already agrees with them: after that the front agrees as far as they
-- reach.
use mathlib.Core.Path.{◌≡◌, sym, ◌∙◌, ap}
use mathlib.Core.List.{List, [], ◌∷◌, ◌++◌, append_assoc}
use Prim.Native.Nat.{ℕ, ◌+◌, ◌-◌, ◌≤◌}
use native.Mathlib.Omega.{arith}
use native.Mathlib.Numerals.{add-one, add-two, add-three, add-four, add_five}
use lib.ListN.{length, take, drop, set}
use lib.Seq.{sets-eq, length-take-le, take-length, take-append-le, drop-append-add, take-take, take-add, drop-drop}

-- six stores
pub six :
    (l : List ℕ) (at a b c d e f : ℕ) → at + 6 ≤ length l
    → set (set (set (set (set (set l at a) (at + 1) b) (at + 2) c) (at + 3) d) (at + 4) e) (at + 5) f
    ≡ take at l ++ ((a ∷ b ∷ c ∷ d ∷ e ∷ f ∷ []) ++ drop (at + 6) l)
six l at a b c d e f h =
    rw (add_five, add-four, add-three, add-two, add-one)
    (sets-eq (a ∷ b ∷ c ∷ d ∷ e ∷ f ∷ []) l at h ∙ append_assoc (take at l) (a ∷ b ∷ c ∷ d ∷ e ∷ f ∷ []) (drop (at + 6) l))

-- `w` of the bytes at `m` of a part whose first `k` are theirs
pub over :
    (bytes before part : List ℕ) (m w k : ℕ) → part ≡ take k bytes ++ drop k before → m ≤ k → k ≤ m + w → m + w ≤ length bytes
    → take m part ++ (take w (drop m bytes) ++ drop (m + w) part) ≡ take (m + w) bytes ++ drop (m + w) before
over bytes before part m w k is h g e =
    let long : length (take k bytes) ≡ k = length-take-le k bytes (omega arith) in
    let front : take m part ≡ take m bytes =
    ap (take m) is ∙ (take-append-le m (take k bytes) (drop k before) (omega arith) ∙ take-take m k bytes h) in
    let far : m + w ≡ length (take k bytes) + (m + w - k) = omega arith in
    let near : k + (m + w - k) ≡ m + w = omega arith in
    let rest : drop (m + w) part ≡ drop (m + w) before =
    ap (drop (m + w)) is
    ∙ (ap (λ j. drop j (take k bytes ++ drop k before)) far
    ∙ (drop-append-add (take k bytes) (drop k before) (m + w - k) ∙ (drop-drop (m + w - k) k before ∙ ap (λ j. drop j before) near))) in
    rw (front, rest, take-add m w bytes) (sym (append_assoc (take m bytes) (take w (drop m bytes)) (drop (m + w) before)))

-- the last `w` of them, where the others are there
pub last_over :
    (bytes before part : List ℕ) (w k : ℕ) → part ≡ take k bytes ++ drop k before → length bytes - w ≤ k → k ≤ length bytes
    → w ≤ length bytes
    → take (length bytes - w) part ++ (take w (drop (length bytes - w) bytes) ++ drop (length bytes - w + w) part)
    ≡ bytes ++ drop (length bytes) before
last_over bytes before part w k is h g e =
    let all : length bytes - w + w ≡ length bytes = omega arith in
    over bytes before part (length bytes - w) w k is h (omega arith) (omega arith) ∙ rw (all, take-length bytes)
