-- A `match` on a byte, by what antt computes at every byte: an arm lists bytes, and in `_` no arm lists the byte. Comparisons tell a
-- range,
-- but for some bytes of it. CR before LF is one LF.
use mathlib.Core.Path.{◌≡◌, refl, sym}
use mathlib.Core.Bool.{Bool, true, false, not, ◌&&◌}
use mathlib.Core.List.{List, [], ◌∷◌}
use Prim.Native.Nat.{ℕ, suc, ◌+◌, ◌<◌, ◌≤◌}
use native.Mathlib.Omega.{arith}
use native.Mathlib.Numerals.{add-one}
use lib.Dec.{eqb}
use lib.ListN.{length, get_or, drop, drop_of_length-le}
use lib.Seq.{drop-cons}
use mir.Val.{has_key}
use types.Run.{OneOf, hit, miss}
use borrow.Author.Tests.{not-true, ne_eqb, le-leb}
use Rattle.std.specs.Prelude.{if◌then◌else◌}
use Rattle.chars.specs.Choice.{within, among}
use Rattle.chars.specs.Character.{character, character_at, carriage}
use Rattle.chars.specs.Character.{Clean}
use Rattle.chars.proofs.Characters.{refused}
use Rattle.chars.proofs.Cases.{either}
use Rattle.runs.specs.Bytes.{begins_of}
use Rattle.tokens.proofs.Table.{below, if_then, implied, constant}

-- a byte that an arm lists, and one that it does not
pub listed : (keys : List ℕ) (b : ℕ) → OneOf keys b → has_key keys b ≡ true
listed keys b h = either (has_key keys b) (λ t. t) (λ t. absurd (miss keys b (rw t tt) h))

not_listed : (keys : List ℕ) (b : ℕ) → (OneOf keys b → ⊥) → not (has_key keys b) ≡ true
not_listed keys b none = either (has_key keys b) (λ t. absurd (none (hit keys b (rw t tt)))) (λ t. rw t)

-- what `_` knows, behind arms that list these, the last one first
abbrev pub Rest : List (List ℕ) → (b : ℕ) → Type 0
Rest [] b = Unit {0}
Rest (keys ∷ arms) b = Rest arms b × (OneOf keys b → ⊥)

abbrev pub rest : List (List ℕ) → ℕ → Bool
rest [] b = true
rest (keys ∷ arms) b = not (has_key keys b) && rest arms b

pub in_rest : (arms : List (List ℕ)) (b : ℕ) → Rest arms b → rest arms b ≡ true
in_rest [] b r = refl
in_rest (keys ∷ arms) b r = rw (not_listed keys b r.1) (in_rest arms b r.0)

-- a test that every byte of some sort passes, or none
pub every :
    (f s : ℕ → Bool) → below (λ k. if_then (s k) (f k)) 256 ≡ true → (b : ℕ) → b < 256 → s b ≡ true → true ≡ f b
every f s t b h p = sym (implied s f 256 t b h p)

pub never :
    (f s : ℕ → Bool) → below (λ k. if_then (s k) (not (f k))) 256 ≡ true → (b : ℕ) → b < 256 → s b ≡ true → false ≡ f b
never f s t b h p = sym (not-true (f b) (implied s (λ k. not (f k)) 256 t b h p))

-- none of some bytes
abbrev pub None : List ℕ → (b : ℕ) → Type 0
None [] b = Unit {0}
None (m ∷ ms) b = (b ≡ m → ⊥) × None ms b

pub not_among : (ms : List ℕ) (b : ℕ) → None ms b → not (among b ms) ≡ true
not_among [] b none = refl
not_among (m ∷ ms) b none = rw (ne_eqb b m none.0) (not_among ms b none.1)

-- every byte of a range that begins no word begins the same, but for some
pub but_for_words :
    (v low high : ℕ) (but : List ℕ)
    → below (λ k. if_then (within low high k && (not (among k but) && not (eqb (begins_of k) 6))) (eqb v (begins_of k))) 256 ≡ true
    → (b : ℕ) → b < 256 → low ≤ b → b ≤ high → None but b → eqb (begins_of b) 6 ≡ false → v ≡ begins_of b
but_for_words v low high but t b h g l none no_word =
    constant begins_of v (λ k. within low high k && (not (among k but) && not (eqb (begins_of k) 6))) t b h
    (rw (le-leb low b g, le-leb b high l, no_word) (rw (not_among but b none) refl))

same : (x y : Bool) → (if x then y else not y) ≡ true → x ≡ y
same true y e = sym e
same false true e = e
same false false e = refl

-- two tests that agree at every byte of some sort
pub agree :
    (f g s : ℕ → Bool) → below (λ k. if_then (s k) (if f k then g k else not (g k))) 256 ≡ true → (b : ℕ) → b < 256 → s b ≡ true
    → f b ≡ g b
agree f g s t b h p = same (f b) (g b) (implied s (λ k. if f k then g k else not (g k)) 256 t b h p)

-- CR before LF
pub line_at :
    (draft : List ℕ) (at : ℕ) → at + 1 < length draft → get_or draft at 0 ≡ 0x0D → get_or draft (at + 1) 0 ≡ 0x0A
    → character_at draft at ≡ Clean 0x0A (at + 2)
unfolding character_at character carriage
line_at draft at h r l =
    let second : get_or draft (suc at) 0 ≡ 0x0A = rw add-one at l in
    rw (drop-cons draft at 0 (omega arith), r, drop-cons draft (suc at) 0 (omega arith), second)

-- CR before anything else
no_line :
    (draft : List ℕ) (at : ℕ) → at < length draft → get_or draft at 0 ≡ 0x0D → eqb (get_or (drop (suc at) draft) 0 0) 0x0A ≡ false
    → (number after : ℕ) → character_at draft at ≡ Clean number after → ⊥
unfolding character_at character carriage
no_line draft at h r l number after e = refused (rw (drop-cons draft at 0 h, r, l) at e)

pub no_line_at :
    (draft : List ℕ) (at : ℕ) → at + 1 < length draft → get_or draft at 0 ≡ 0x0D → (get_or draft (at + 1) 0 ≡ 0x0A → ⊥)
    → (number after : ℕ) → character_at draft at ≡ Clean number after → ⊥
no_line_at draft at h r l =
    let next = ne_eqb (get_or draft (suc at) 0) 0x0A (λ e. l (rw add-one e)) in
    no_line draft at (omega arith) r (rw (drop-cons draft (suc at) 0 (omega arith)) next)

pub no_line_end :
    (draft : List ℕ) (at : ℕ) → at < length draft → length draft ≤ at + 1 → get_or draft at 0 ≡ 0x0D
    → (number after : ℕ) → character_at draft at ≡ Clean number after → ⊥
no_line_end draft at h g r =
    let gone : length draft ≤ suc at = omega arith in no_line draft at h r (rw (drop_of_length-le draft gone))
