-- What the numbers of a byte tell of its class. Each fact is one test that antt computes over all of US-ASCII; a byte above that has 0.
use mathlib.Core.Path.{◌≡◌, refl}
use mathlib.Core.Bool.{Bool, true, false, not, ◌&&◌, false≢true}
use mathlib.Core.List.{List, [], ◌∷◌}
use Prim.Native.Nat.{ℕ, ◌<◌, ◌≤◌}
use native.Mathlib.Omega.{arith}
use lib.Dec.{leb, ltb, eqb}
use borrow.Author.Tests.{eqb-true, eq-eqb, ltb-true, leb-true, le-leb, not-true}
use Rattle.chars.specs.Choice.{within, among, ascii}
use Rattle.chars.proofs.Cases.{either, both}
use Rattle.chars.proofs.Extent.{within_true}
use Rattle.tokens.specs.Sorts.{visible, white, atomic, exclusive, inclusive, legal}
use Rattle.tokens.specs.Runs.{class_of}
use Rattle.tokens.proofs.Table.{below, implied, if_then}
use Rattle.tokens.proofs.Classes.{Ending}
use Rattle.runs.specs.Bytes.{begins_of, ends_of}

-- what stands in a list of bytes of US-ASCII is one
abbrev all_low : List ℕ → Bool
all_low [] = true
all_low (m ∷ ms) = ltb m 0x80 && all_low ms

among_low : (n : ℕ) (ms : List ℕ) → all_low ms ≡ true → among n ms ≡ true → n < 0x80
among_low n [] t e = absurd (false≢true e)
among_low n (m ∷ ms) t e =
    let two = both (ltb m 0x80) (all_low ms) t in
    either (eqb n m)
    (λ q. omega (arith, eqb-true n m q, ltb-true m 0x80 two.0))
    (λ q. among_low n ms two.1 (rw q at e))

visible_low : (b : ℕ) → visible b ≡ true → b < 0x80
unfolding visible
visible_low b t = omega (arith, (within_true 0x21 0x7E b t).1)

white_low : (b : ℕ) → white b ≡ true → b < 0x80
unfolding white
white_low b t = among_low b (ascii "\t \n") refl t

inclusive_low : (b : ℕ) → inclusive b ≡ true → b < 0x80
unfolding inclusive
inclusive_low b t = among_low b (ascii "\"{") refl t

atomic_low : (b : ℕ) → atomic b ≡ true → b < 0x80
unfolding atomic
atomic_low b t = among_low b (ascii "()[],%;\"{}") refl t

exclusive_low : (b : ℕ) → exclusive b ≡ true → b < 0x80
unfolding exclusive
exclusive_low b t = among_low b (ascii "\t \n()[],%;#}") refl t

ends_low : (b : ℕ) → 1 ≤ ends_of b → b < 0x80
unfolding ends_of
ends_low b h =
    either (exclusive b)
    (λ t. exclusive_low b t)
    (λ t. either (inclusive b)
    (λ u. inclusive_low b u)
    (λ u. either (visible b)
    (λ v. visible_low b v)
    (λ v. absurd (let none : 1 ≤ 0 = rw (t, u, v) at h in omega arith))))

begins_low : (b : ℕ) → 1 ≤ begins_of b → b < 0x80
unfolding begins_of
begins_low b h =
    either (white b)
    (λ t. white_low b t)
    (λ t. either (eqb b 0x23)
    (λ u. omega (arith, eqb-true b 0x23 u))
    (λ u. either (inclusive b)
    (λ v. inclusive_low b v)
    (λ v. either (eqb b 0x7C)
    (λ w. omega (arith, eqb-true b 0x7C w))
    (λ w. either (eqb b 0x7D)
    (λ x. omega (arith, eqb-true b 0x7D x))
    (λ x. either (atomic b)
    (λ y. atomic_low b y)
    (λ y. either (visible b)
    (λ z. visible_low b z)
    (λ z. absurd (let none : 1 ≤ 0 = rw (t, u, v, w, x, y, z) at h in omega arith))))))))

-- a byte of US-ASCII with one of the numbers has a class in a range
classed :
    (f : ℕ → ℕ) (k low high : ℕ) → below (λ b. if_then (eqb (f b) k) (within low high (class_of b))) 0x80 ≡ true → (b : ℕ) → b < 0x80
    → f b ≡ k → (low ≤ class_of b) × (class_of b ≤ high)
classed f k low high t b h e =
    within_true low high (class_of b)
    (implied (λ j. eqb (f j) k) (λ j. within low high (class_of j)) 0x80 t b h (eq-eqb (f b) k e))

-- a byte that has a number above 0 is a character by itself
pub begins_own : (b : ℕ) → 1 ≤ begins_of b → 1 ≤ class_of b
unfolding begins_of class_of visible white atomic exclusive inclusive legal
begins_own b h =
    leb-true 1 (class_of b)
    (implied (λ j. leb 1 (begins_of j)) (λ j. leb 1 (class_of j)) 0x80 refl b (begins_low b h) (le-leb 1 (begins_of b) h))

pub ends_own : (b : ℕ) → 1 ≤ ends_of b → 1 ≤ class_of b
unfolding ends_of class_of visible white atomic exclusive inclusive legal
ends_own b h =
    leb-true 1 (class_of b)
    (implied (λ j. leb 1 (ends_of j)) (λ j. leb 1 (class_of j)) 0x80 refl b (ends_low b h) (le-leb 1 (ends_of b) h))

-- what goes on with a token: classes 3 and 4
pub ends_plain : (b : ℕ) → ends_of b ≡ 3 → (3 ≤ class_of b) × (class_of b ≤ 4)
unfolding ends_of class_of visible white atomic exclusive inclusive legal
ends_plain b e = classed ends_of 3 3 4 refl b (ends_low b (omega arith)) e

-- whitespace ends a token
pub white_ends : (b : ℕ) → white b ≡ true → ends_of b ≡ 1
unfolding ends_of visible white exclusive inclusive
white_ends b t = eqb-true (ends_of b) 1 (implied white (λ j. eqb (ends_of j) 1) 0x80 refl b (among_low b (ascii "\t \n") refl t) t)

-- what ends a token, left out
pub ends_ending : (b : ℕ) → ends_of b ≡ 1 → Ending b
unfolding ends_of visible white atomic exclusive inclusive legal
ends_ending b e =
    let low = ends_low b (omega arith) in
    record {
      is_legal = implied (λ j. eqb (ends_of j) 1) legal 0x80 refl b low (eq-eqb (ends_of b) 1 e);
      is_exclusive = implied (λ j. eqb (ends_of j) 1) exclusive 0x80 refl b low (eq-eqb (ends_of b) 1 e);
    }

-- what opens a string: class 2
pub ends_opening : (b : ℕ) → ends_of b ≡ 2 → class_of b ≡ 2
unfolding ends_of class_of visible white atomic exclusive inclusive legal
ends_opening b e = let two = classed ends_of 2 2 2 refl b (ends_low b (omega arith)) e in omega (arith, two.0, two.1)

-- whitespace: classes 8 and 9
pub begins_white : (b : ℕ) → begins_of b ≡ 1 → (8 ≤ class_of b) × (class_of b ≤ 9)
unfolding begins_of class_of visible white atomic exclusive inclusive legal
begins_white b e = classed begins_of 1 8 9 refl b (begins_low b (omega arith)) e

-- `#`
pub begins_remark : (b : ℕ) → begins_of b ≡ 2 → b ≡ 0x23
unfolding begins_of visible white atomic exclusive inclusive legal
begins_remark b e =
    eqb-true b 0x23
    (implied (λ j. eqb (begins_of j) 2) (λ j. eqb j 0x23) 0x80 refl b (begins_low b (omega arith)) (eq-eqb (begins_of b) 2 e))

-- a token alone: class 7, and `}`, class 1
pub begins_atomic : (b : ℕ) → begins_of b ≡ 3 → class_of b ≡ 7
unfolding begins_of class_of visible white atomic exclusive inclusive legal
begins_atomic b e = let two = classed begins_of 3 7 7 refl b (begins_low b (omega arith)) e in omega (arith, two.0, two.1)

pub begins_curly : (b : ℕ) → begins_of b ≡ 7 → class_of b ≡ 1
unfolding begins_of class_of visible white atomic exclusive inclusive legal
begins_curly b e = let two = classed begins_of 7 1 1 refl b (begins_low b (omega arith)) e in omega (arith, two.0, two.1)

-- what opens a string: class 2
pub begins_opening : (b : ℕ) → begins_of b ≡ 4 → class_of b ≡ 2
unfolding begins_of class_of visible white atomic exclusive inclusive legal
begins_opening b e = let two = classed begins_of 4 2 2 refl b (begins_low b (omega arith)) e in omega (arith, two.0, two.1)

-- `|`
pub begins_bar : (b : ℕ) → begins_of b ≡ 5 → b ≡ 0x7C
unfolding begins_of visible white atomic exclusive inclusive legal
begins_bar b e =
    eqb-true b 0x7C
    (implied (λ j. eqb (begins_of j) 5) (λ j. eqb j 0x7C) 0x80 refl b (begins_low b (omega arith)) (eq-eqb (begins_of b) 5 e))

-- any other token: classes 3 and 4, and no `|`
pub begins_word : (b : ℕ) → begins_of b ≡ 6 → (3 ≤ class_of b) × (class_of b ≤ 4) × (eqb b 0x7C ≡ false)
unfolding begins_of class_of visible white atomic exclusive inclusive legal
begins_word b e =
    let low = begins_low b (omega arith) in
    let two = classed begins_of 6 3 4 refl b low e in
    let bar =
    implied (λ j. eqb (begins_of j) 6) (λ j. not (eqb j 0x7C)) 0x80 refl b low (eq-eqb (begins_of b) 6 e) in
    (two.0, two.1, not-true (eqb b 0x7C) bar)

-- what begins nothing is neither whitespace nor `#`
pub begins_nothing : (b : ℕ) → begins_of b ≡ 0 → (white b ≡ false) × (eqb b 0x23 ≡ false)
unfolding begins_of
begins_nothing b e =
    either (white b)
    (λ t. absurd (let none : ◌≡◌ {A = ℕ} 1 0 = rw t at e in omega arith))
    (λ t. either (eqb b 0x23)
    (λ u. absurd (let none : ◌≡◌ {A = ℕ} 2 0 = rw (t, u) at e in omega arith))
    (λ u. (t, u)))

-- what begins a token is neither whitespace nor `#`
pub begins_neither : (b : ℕ) → 3 ≤ begins_of b → (white b ≡ false) × (eqb b 0x23 ≡ false)
unfolding begins_of
begins_neither b h =
    either (white b)
    (λ t. absurd (let none : 3 ≤ 1 = rw t at h in omega arith))
    (λ t. either (eqb b 0x23)
    (λ u. absurd (let none : 3 ≤ 2 = rw (t, u) at h in omega arith))
    (λ u. (t, u)))
