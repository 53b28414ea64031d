-- What a byte's class tells of it. Each fact is one test that antt computes over all of US-ASCII; a byte above that has class 0.
use mathlib.Core.Path.{◌≡◌, refl, sym, ◌∙◌}
use mathlib.Core.Bool.{Bool, true, false, not, ◌&&◌, or-true, and-false, false≢true}
use Prim.Native.Nat.{ℕ, suc, ◌<◌, ◌≤◌}
use native.Mathlib.Omega.{arith}
use lib.Dec.{leb, eqb}
use borrow.Author.Tests.{le-leb, lt-leb, leb-true, leb-false, eqb-true, eqb-false, ne_eqb, not-true}
use Rattle.chars.specs.Choice.{within}
use Rattle.chars.proofs.Cases.{either, both}
use Rattle.tokens.specs.Sorts.{visible, white, atomic, exclusive, inclusive, legal}
use Rattle.tokens.specs.Runs.{class_of}
use Rattle.tokens.proofs.Table.{below, holds, if_then, so}

-- a byte with a class above 0 is US-ASCII
pub low : (b : ℕ) → 1 ≤ class_of b → b < 0x80
unfolding class_of
low b h =
    either (leb 0x80 b)
    (λ t. absurd (let none : 1 ≤ 0 = rw (t, or-true, or-true) at h in omega arith))
    (λ t. leb-false 0x80 b t)

-- a test that every byte of US-ASCII passes whose class is in a range
module _ (from to : ℕ) (f : ℕ → Bool) where
  abbrev tested : ℕ → Bool
  tested k = if_then (within from to (class_of k)) (f k)

  of_class : below tested 0x80 ≡ true → (b : ℕ) → b < 0x80 → from ≤ class_of b → class_of b ≤ to → f b ≡ true
  of_class t b h g l =
      so (within from to (class_of b)) (f b) (holds tested 0x80 t b h)
      (simp (le-leb from (class_of b) g, le-leb (class_of b) to l))

-- a byte that is a character by itself: neither nul nor CR
abbrev alone_test : ℕ → Bool
alone_test b = not (eqb b 0) && not (eqb b 0x0D)

pub alone : (b : ℕ) → 1 ≤ class_of b → class_of b ≤ 9 → (0 < b) × (b < 0x80) × (b ≡ 0x0D → ⊥)
unfolding class_of visible white atomic exclusive inclusive legal
alone b g l =
    let two = both (not (eqb b 0)) (not (eqb b 0x0D)) (of_class 1 9 alone_test refl b (low b g) g l) in
    (omega (arith, eqb-false b 0 (not-true (eqb b 0) two.0)), low b g, eqb-false b 0x0D (not-true (eqb b 0x0D) two.1))

-- every class is at most 9
pub at_most : (b : ℕ) → 1 ≤ class_of b → class_of b ≤ 9
unfolding class_of visible white atomic exclusive inclusive legal
at_most b g = leb-true (class_of b) 9 (holds (λ k. leb (class_of k) 9) 0x80 refl b (low b g))

-- a byte of US-ASCII that is neither nul nor CR has a class above 0
pub has_class : (b : ℕ) → 0 < b → b < 0x80 → (b ≡ 0x0D → ⊥) → 1 ≤ class_of b
unfolding class_of visible white atomic exclusive inclusive legal
has_class b z h r =
    leb-true 1 (class_of b)
    (so (alone_test b) (leb 1 (class_of b)) (holds (λ k. if_then (alone_test k) (leb 1 (class_of k))) 0x80 refl b h)
    (simp (ne_eqb b 0 (λ e. omega arith), ne_eqb b 0x0D r)))

-- a test that every byte of a range of classes fails
fails :
    (from to : ℕ) (f : ℕ → Bool) → below (tested from to (λ k. not (f k))) 0x80 ≡ true → (b : ℕ) → b < 0x80
    → from ≤ class_of b → class_of b ≤ to → f b ≡ false
fails from to f t b h g l = not-true (f b) (of_class from to (λ k. not (f k)) t b h g l)

-- whitespace is classes 8 and 9
pub is_white : (b : ℕ) → 8 ≤ class_of b → class_of b ≤ 9 → white b ≡ true
unfolding class_of visible white atomic exclusive inclusive legal
is_white b g l = of_class 8 9 white refl b (low b (omega arith)) g l

pub not_white : (b : ℕ) → 1 ≤ class_of b → class_of b ≤ 7 → white b ≡ false
unfolding class_of visible white atomic exclusive inclusive legal
not_white b g l = fails 1 7 white refl b (low b g) g l

-- what classes 3 and 4 are: a token goes on
pub record Plain (b : ℕ) : Type 0 where
  pub is_legal : legal b ≡ true
  pub is_visible : visible b ≡ true
  pub no_white : white b ≡ false
  pub no_remark : eqb b 0x23 ≡ false
  pub no_exclusive : exclusive b ≡ false
  pub no_inclusive : inclusive b ≡ false
  pub no_atomic : atomic b ≡ false

pub plain : (b : ℕ) → 3 ≤ class_of b → class_of b ≤ 4 → Plain b
unfolding class_of visible white atomic exclusive inclusive legal
plain b g l =
    let h = low b (omega arith) in
    record {
      is_legal = of_class 3 4 legal refl b h g l;
      is_visible = of_class 3 4 visible refl b h g l;
      no_white = fails 3 4 white refl b h g l;
      no_remark = fails 3 4 (λ k. eqb k 0x23) refl b h g l;
      no_exclusive = fails 3 4 exclusive refl b h g l;
      no_inclusive = fails 3 4 inclusive refl b h g l;
      no_atomic = fails 3 4 atomic refl b h g l;
    }

-- what classes 4 to 9 are inside a string: data like any other
pub record Ordinary (b : ℕ) : Type 0 where
  pub no_quote : eqb b 0x22 ≡ false
  pub no_open : eqb b 0x7B ≡ false
  pub no_close : eqb b 0x7D ≡ false
  pub no_backslash : eqb b 0x5C ≡ false

pub ordinary : (b : ℕ) → 4 ≤ class_of b → class_of b ≤ 9 → Ordinary b
unfolding class_of visible white atomic exclusive inclusive legal
ordinary b g l =
    let h = low b (omega arith) in
    record {
      no_quote = fails 4 9 (λ k. eqb k 0x22) refl b h g l;
      no_open = fails 4 9 (λ k. eqb k 0x7B) refl b h g l;
      no_close = fails 4 9 (λ k. eqb k 0x7D) refl b h g l;
      no_backslash = fails 4 9 (λ k. eqb k 0x5C) refl b h g l;
    }

-- the same in numbers that are no bytes: all above US-ASCII is illegal, and neither whitespace nor a mark of any kind
pub record Foreign (n : ℕ) : Type 0 where
  pub no_white : white n ≡ false
  pub no_visible : visible n ≡ false
  pub no_legal : legal n ≡ false
  pub no_remark : eqb n 0x23 ≡ false

pub foreign : (n : ℕ) → 0x80 ≤ n → Foreign n
unfolding visible white legal
foreign n h =
    let blank : white n ≡ false = simp (
      ne_eqb n 0x09 (λ e. omega arith),
      ne_eqb n 0x20 (λ e. omega arith),
      ne_eqb n 0x0A
          (λ e. omega arith),
    ) in
    let seen : visible n ≡ false = rw (lt-leb n 0x7E (omega arith)) (and-false (leb 0x21 n)) in
    record { no_white = blank; no_visible = seen; no_legal = rw (seen, blank); no_remark = ne_eqb n 0x23 (λ e. omega arith) }

-- what classes 1 and 6 to 9 are: they end a token, left out
pub record Ending (b : ℕ) : Type 0 where
  pub is_legal : legal b ≡ true
  pub is_exclusive : exclusive b ≡ true

ending_from : (from to : ℕ) → below (tested from to legal) 0x80 ≡ true → below (tested from to exclusive) 0x80 ≡ true → (b : ℕ) → b < 0x80
    → from ≤ class_of b → class_of b ≤ to → Ending b
ending_from from to s t b h g l = record {
  is_legal = of_class from to legal s b h g l;
  is_exclusive = of_class from to exclusive t b h g l;
}

pub ending : (b : ℕ) → 6 ≤ class_of b → class_of b ≤ 9 → Ending b
unfolding class_of visible white atomic exclusive inclusive legal
ending b g l = ending_from 6 9 refl refl b (low b (omega arith)) g l

pub ending_curly : (b : ℕ) → class_of b ≡ 1 → Ending b
unfolding class_of visible white atomic exclusive inclusive legal
ending_curly b e = ending_from 1 1 refl refl b (low b (omega arith)) (omega arith) (omega arith)

-- what class 2 is: it ends a token, kept, and opens a string
pub record Opening (b : ℕ) : Type 0 where
  pub is_legal : legal b ≡ true
  pub is_visible : visible b ≡ true
  pub is_inclusive : inclusive b ≡ true
  pub no_white : white b ≡ false
  pub no_remark : eqb b 0x23 ≡ false
  pub no_exclusive : exclusive b ≡ false

pub opening : (b : ℕ) → class_of b ≡ 2 → Opening b
unfolding class_of visible white atomic exclusive inclusive legal
opening b e =
    let h = low b (omega arith) in
    let g : 2 ≤ class_of b = omega arith in
    let l : class_of b ≤ 2 = omega arith in
    record {
      is_legal = of_class 2 2 legal refl b h g l;
      is_visible = of_class 2 2 visible refl b h g l;
      is_inclusive = of_class 2 2 inclusive refl b h g l;
      no_white = fails 2 2 white refl b h g l;
      no_remark = fails 2 2 (λ k. eqb k 0x23) refl b h g l;
      no_exclusive = fails 2 2 exclusive refl b h g l;
    }

-- what class 5 is: illegal, and so no mark of any kind
pub illegal : (b : ℕ) → class_of b ≡ 5 → Foreign b
unfolding class_of visible white atomic exclusive inclusive legal
illegal b e =
    let h = low b (omega arith) in
    let g : 5 ≤ class_of b = omega arith in
    let l : class_of b ≤ 5 = omega arith in
    record {
      no_white = fails 5 5 white refl b h g l;
      no_visible = fails 5 5 visible refl b h g l;
      no_legal = fails 5 5 legal refl b h g l;
      no_remark = fails 5 5 (λ k. eqb k 0x23) refl b h g l;
    }

-- what classes 1 and 7 are: a token alone
pub record Atomic (b : ℕ) : Type 0 where
  pub is_visible : visible b ≡ true
  pub is_atomic : atomic b ≡ true
  pub no_inclusive : inclusive b ≡ false

atomic_from :
    (k : ℕ) → below (tested k k visible) 0x80 ≡ true → below (tested k k atomic) 0x80 ≡ true
    → below (tested k k (λ b. not (inclusive b))) 0x80 ≡ true → 1 ≤ k → (b : ℕ) → class_of b ≡ k → Atomic b
atomic_from k s t u one b e =
    let h = low b (omega arith) in
    record {
      is_visible = of_class k k visible s b h (omega arith) (omega arith);
      is_atomic = of_class k k atomic t b h (omega arith) (omega arith);
      no_inclusive = fails k k inclusive u b h (omega arith) (omega arith);
    }

pub atomic_curly : (b : ℕ) → class_of b ≡ 1 → Atomic b
unfolding class_of visible white atomic exclusive inclusive legal
atomic_curly b e = atomic_from 1 refl refl refl (omega arith) b e

pub atomic_other : (b : ℕ) → class_of b ≡ 7 → Atomic b
unfolding class_of visible white atomic exclusive inclusive legal
atomic_other b e = atomic_from 7 refl refl refl (omega arith) b e

-- class 6 is `#` alone
pub remark : (b : ℕ) → class_of b ≡ 6 → eqb b 0x23 ≡ true
unfolding class_of visible white atomic exclusive inclusive legal
remark b e = of_class 6 6 (λ k. eqb k 0x23) refl b (low b (omega arith)) (omega arith) (omega arith)

above : (k n : ℕ) → n ≤ k → (k ≡ n → ⊥) → suc n ≤ k
above k n h e = omega arith

-- a byte of none of the classes above is a token alone, where it is neither whitespace nor `#`
pub atomic_left :
    (b : ℕ) → 1 ≤ class_of b → (class_of b ≡ 2 → ⊥) → (class_of b ≡ 3 → ⊥) → (class_of b ≡ 4 → ⊥) → (class_of b ≡ 5 → ⊥)
    → white b ≡ false → eqb b 0x23 ≡ false → Atomic b
atomic_left b g no2 no3 no4 no5 w r =
    let k = class_of b in
    either (eqb k 1)
    (λ t. atomic_curly b (eqb-true k 1 t))
    (λ t. either (eqb k 7)
    (λ u. atomic_other b (eqb-true k 7 u))
    (λ u. either (eqb k 6)
    (λ v. absurd (false≢true (sym r ∙ remark b (eqb-true k 6 v))))
    (λ v.
    let six = above k 5 (above k 4 (above k 3 (above k 2 (above k 1 g (eqb-false k 1 t)) no2) no3) no4) no5 in
    let eight = above k 7 (above k 6 six (eqb-false k 6 v)) (eqb-false k 7 u) in
    absurd (false≢true (sym w ∙ is_white b eight (at_most b g))))))
