-- The names defined, as the index and `whats` hold them (`sight/Arrays`): what is looked up is the entry that is found, a put leaves
-- them as they are, since it takes a cell of the kind that the name has, and one that is entered is one more.
use mathlib.Core.Path.{◌≡◌, refl, ◌∙◌, ap}
use mathlib.Core.List.{List, ◌∷◌}
use mathlib.Core.Option.{none, some}
use Prim.Native.Nat.{ℕ, zero, suc, ◌+◌, ◌%◌, ◌<◌}
use native.Mathlib.Numerals.{add-one}
use native.Mathlib.Omega.{arith}
use lib.Dec.{leb}
use lib.ListN.{length, get_or, set, take, drop}
use lib.Seq.{get_or-set_same, get_or-set_other}
use Rattle.chars.specs.Choice.{same}
use Rattle.chars.proofs.Cases.{by_test}
use Rattle.names.specs.Index.{key_of, position, entered}
use Rattle.names.specs.declared.Mark.{Mark}
use Rattle.names.proofs.Equal.{same_equal}
use Rattle.names.proofs.Positions.{position_agrees}
use Rattle.names.proofs.Entering.{key_before, key-entered}
use Rattle.rules.specs.Cells.{lookup, changed}
use Rattle.rules.specs.Kinds.{Checked, of}
use Rattle.sight.specs.Arrays.{name_at, names_of, apart}

pub so_many_names : (text index whats : List ℕ) (n : ℕ) → length (names_of text index whats n) ≡ n
unfolding names_of
so_many_names text index whats zero = refl
so_many_names text index whats (suc n) = ap suc (so_many_names text index whats n)

-- what is looked up
module _ (text index whats name : List ℕ) where
  pub lookup_none :
      (n : ℕ) → position (key_of text index) name n ≡ 0 → lookup name (names_of text index whats n) ≡ none
  unfolding position lookup names_of name_at
  lookup_none zero e = refl
  lookup_none (suc n) e =
      by_test (same name (key_of text index n)) (λ t z. absurd (omega arith)) (λ t z. rw t (lookup_none n z)) e

  pub lookup_found :
      (n j : ℕ) → position (key_of text index) name n ≡ suc j
      → lookup name (names_of text index whats n) ≡ some (name_at text index whats j)
  unfolding position lookup names_of name_at
  lookup_found zero j e = absurd (omega arith)
  lookup_found (suc n) j e =
      by_test (same name (key_of text index n))
      (λ t z. let i : j ≡ n = omega arith in rw (t, i))
      (λ t z. rw t (lookup_found n j z))
      e

  -- a value for a name that is not there, and for one that has it
  changed_none :
      (c : Checked) (n : ℕ) → position (key_of text index) name n ≡ 0
      → changed name c (names_of text index whats n) ≡ names_of text index whats n
  unfolding position changed names_of name_at
  changed_none c zero e = refl
  changed_none c (suc n) e =
      by_test (same name (key_of text index n)) (λ t z. absurd (omega arith)) (λ t z. rw (t, changed_none c n z)) e

  pub changed_found :
      (c : Checked) (n j : ℕ) → apart (key_of text index) n → position (key_of text index) name n ≡ suc j
      → (name_at text index whats j).value ≡ c → changed name c (names_of text index whats n) ≡ names_of text index whats n
  unfolding position changed names_of name_at apart
  changed_found c zero j a e v = absurd (omega arith)
  changed_found c (suc n) j a e v =
      by_test (same name (key_of text index n))
      (λ t z.
      let i : j ≡ n = omega arith in
      let alone : position (key_of text index) name n ≡ 0 = rw (same_equal name (key_of text index n) t) a.0 in
      rw (t, changed_none c n alone, ← v, i))
      (λ t z. rw (t, changed_found c n j a.1 z v))
      e

-- entries that have the same names and kinds
names_agree :
    (text index index' whats whats' : List ℕ) (n : ℕ) → ((j : ℕ) → j < n → key_of text index' j ≡ key_of text index j)
    → ((j : ℕ) → j < n → get_or whats' j 0 ≡ get_or whats j 0) → names_of text index' whats' n ≡ names_of text index whats n
unfolding names_of name_at
names_agree text index index' whats whats' zero k w = refl
names_agree text index index' whats whats' (suc n) k w =
    let rest = names_agree text index index' whats whats' n (λ j h. k j (omega arith)) (λ j h. w j (omega arith)) in
    rw (k n (omega arith), w n (omega arith), rest)

apart_agrees : (key key' : ℕ → List ℕ) (n : ℕ) → ((j : ℕ) → j < n → key' j ≡ key j) → apart key n → apart key' n
unfolding apart
apart_agrees key key' zero k a = tt
apart_agrees key key' (suc n) k a =
    let before : (j : ℕ) → j < n → key' j ≡ key j = λ j h. k j (omega arith) in
    (rw (k n (omega arith), position_agrees key' key (key n) n before) a.0, apart_agrees key key' n before a.1)

-- one name more, behind the first `count`
module _
    (text index : List ℕ) (count : ℕ) (m : Mark) (at n : ℕ) (small : m.bucket < 512) (room : count < 256)
    (all : length index ≡ 1792) where
  pub names_entered :
      (whats : List ℕ) (w : ℕ) → count < length whats
      → names_of text (entered index count m at n) (set whats count w) (count + 1)
      ≡ record { name = take n (drop at text); constant = leb 16 w; value = of (w % 16) } ∷ names_of text index whats count
  unfolding names_of name_at
  names_entered whats w h =
      let old = key_before index count m at n small text in
      let kept : (j : ℕ) → j < count → get_or (set whats count w) j 0 ≡ get_or whats j 0 =
      λ j l. get_or-set_other whats count j w 0 (λ e. omega arith) in
      let new = key-entered index count m at n small room all text in
      let rest = names_agree text index (entered index count m at n) whats (set whats count w) count old kept in
      rw (add-one, new, get_or-set_same whats count w 0 h, rest)

  pub apart_entered :
      position (key_of text index) (take n (drop at text)) count ≡ 0 → apart (key_of text index) count
      → apart (key_of text (entered index count m at n)) (count + 1)
  unfolding apart
  apart_entered new a =
      let old = key_before index count m at n small text in
      let key = key_of text (entered index count m at n) in
      let none = position_agrees key (key_of text index) (take n (drop at text)) count old ∙ new in
      rw (add-one, key-entered index count m at n small room all text) (none, apart_agrees (key_of text index) key count old a)
