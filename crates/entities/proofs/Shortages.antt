-- Of a token's entities only the last has text, so the first that does not fit is found by counting: there are too many, or that text is
-- too long.
use mathlib.Core.Path.{◌≡◌, ap}
use mathlib.Core.List.{List, [], ◌∷◌, ◌++◌}
use Prim.Native.Nat.{ℕ, suc, ◌+◌, ◌-◌, ◌≤◌}
use native.Mathlib.Omega.{arith}
use lib.Dec.{eqb, ltb}
use lib.ListN.{length}
use borrow.Author.Tests.{eqb-true, eqb-false, lt-ltb, le-ltb, ltb-true, ltb-false}
use Rattle.chars.proofs.Cases.{either}
use Rattle.entities.specs.Entity.{Entity, bare, size, sizes}
use Rattle.entities.specs.Making.{shortage}
use Rattle.entities.specs.Judging.{bares, one, short_of}
use Rattle.entities.proofs.Listing.{no_bare, one_bare}

-- whatever fits leaves nothing short
pub fits : (E T : ℕ) (es : List Entity) → shortage E T es ≡ 0 → (length es ≤ E) × (sizes es ≤ T)
unfolding shortage sizes
fits E T [] h = (omega arith, omega arith)
fits E T (e ∷ es) h =
    either (eqb E 0)
    (λ t. let no : 18 ≡ 0 = rw t at h in absurd (omega arith))
    (λ t.
    either (ltb T (size e))
    (λ u. let no : 19 ≡ 0 = rw (t, u) at h in absurd (omega arith))
    (λ u.
    let rest = fits (E - 1) (T - size e) es (rw (t, u) at h) in
    (omega (arith, rest.0, eqb-false E 0 t), omega (arith, rest.1, ltb-false T (size e) u))))

-- it is found by counting
abbrev pub Counts : (T : ℕ) → List Entity → Type 0
Counts T es = (E : ℕ) → shortage E T es ≡ short_of E T (length es) (sizes es)

pub none_counts : (T : ℕ) → Counts T []
unfolding shortage short_of sizes
none_counts T E = rw (le-ltb E 0 (omega arith), le-ltb T 0 (omega arith))

pub one_counts : (T : ℕ) (e : Entity) → Counts T (e ∷ [])
unfolding shortage short_of sizes
one_counts T e E =
    let whole : size e + 0 ≡ size e = omega arith in
    either (eqb E 0)
    (λ t. rw (t, lt-ltb E 1 (omega (arith, eqb-true E 0 t))))
    (λ t. rw (t, le-ltb E 1 (omega (arith, eqb-false E 0 t)), whole))

pub bare_counts : (T kind place : ℕ) (es : List Entity) → Counts T es → Counts T (bares kind place ++ es)
unfolding shortage short_of sizes size bare
bare_counts T kind place es c E =
    either (eqb kind 0)
    (λ k. rw (no_bare kind place (eqb-true kind 0 k)) (c E))
    (λ k.
    rw (one_bare kind place (eqb-false kind 0 k))
    (either (eqb E 0)
    (λ t. rw (t, lt-ltb E (suc (length es)) (omega (arith, eqb-true E 0 t))))
    (λ t.
    let some = eqb-false E 0 t in
    let left : T - 0 ≡ T = omega arith in
    let same : 0 + sizes es ≡ sizes es = omega arith in
    rw (t, le-ltb T 0 (omega arith), left, same, c (E - 1))
    (either (ltb E (suc (length es)))
    (λ u. rw (u, lt-ltb (E - 1) (length es) (omega (arith, ltb-true E (suc (length es)) u))))
    (λ u. rw (u, le-ltb (E - 1) (length es) (omega (arith, ltb-false E (suc (length es)) u))))))))

pub bare_one : (kind place : ℕ) → length (bares kind place) ≡ one kind
unfolding one
bare_one kind place =
    either (eqb kind 0)
    (λ k. rw k (ap length (no_bare kind place (eqb-true kind 0 k))))
    (λ k. rw k (ap length (one_bare kind place (eqb-false kind 0 k))))
