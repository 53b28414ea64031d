-- What the rules make of a token without text, by its first byte, and what the code does with it: a refusal is Making's own, and what is
-- allowed is entities with nothing in them but a count, which Fitting holds against Making.
use mathlib.Core.Path.{◌≡◌, refl, sym, ◌∙◌, ap}
use mathlib.Core.Bool.{true, false}
use mathlib.Core.List.{List, [], ◌∷◌}
use Prim.Native.Nat.{ℕ, zero, suc, ◌+◌, ◌-◌, ◌<◌, ◌≤◌}
use native.Mathlib.Omega.{arith}
use lib.ListN.{length, get_or, set, length-set}
use borrow.Author.Tests.{lt-ltb, le-ltb}
use Rattle.std.specs.Prelude.{Result, Ok, Err, Some, slice_get}
use Rattle.chars.specs.Limits.{limits}
use Rattle.chars.specs.Refusal.{number_of}
use Rattle.chars.specs.declared.refusal.Refusal.{Refusal}
use Rattle.chars.specs.declared.refusal.Refusal.TheVariants.{NoGroup, NoElement, NoArray, TooManyGroups}
use Rattle.entities.specs.Entity.{Entity, bare, end-group}
use Rattle.entities.specs.Making.{Reader, Judged, refuses, makes, fitted, within_groups, group_begins, group_ends, element_ends}
use Rattle.entities.specs.Making.{counted, array_ends, regular, command, judged}
use Rattle.entities.specs.Judging.{bares, kind_of, counting}
use Rattle.entities.specs.Stepping.{Steady, open_groups, below, reader_of, judged_as, took, agrees, Fits, room, Ruled, bracketed, commanded}
use Rattle.entities.specs.declared.state.State.{State}
use Rattle.entities.specs.declared.state.Mode.{Mode}
use Rattle.entities.specs.declared.state.Mode.TheVariants.{Regular, Bracket, Metacommand}
use Rattle.entities.proofs.Listing.{written_none}
use Rattle.entities.proofs.Fitting.{Empty, nothing, more, empty_bares, empty_counting, fits_agrees}
use Rattle.entities.proofs.OpenGroups.{so_many, innermost, some_top, topped, renumbered, higher, below_top}

-- The rules by the innermost open group.
no_group :
    (gs : List ℕ) (place : ℕ) → ((n : ℕ) → Some n ≡ slice_get gs 0 → n ≡ 0 → ⊥) → group_ends gs place ≡ refuses 14
unfolding group_ends
no_group [] place h = refl
no_group (zero ∷ gs) place h = absurd (h 0 refl refl)
no_group (suc n ∷ gs) place h = refl

no_element : (gs : List ℕ) (place : ℕ) → ((n : ℕ) → Some n ≡ slice_get gs 0 → n ≡ 0) → element_ends gs place ≡ refuses 15
unfolding element_ends
no_element [] place h = refl
no_element (zero ∷ gs) place h = refl
no_element (suc n ∷ gs) place h = let no = h (suc n) refl in absurd (omega arith)

no_array : (gs : List ℕ) (place : ℕ) → ((n : ℕ) → Some n ≡ slice_get gs 0 → n ≡ 0) → array_ends false gs place ≡ refuses 16
unfolding array_ends
no_array [] place h = refl
no_array (zero ∷ gs) place h = refl
no_array (suc n ∷ gs) place h = let no = h (suc n) refl in absurd (omega arith)

next_element :
    (n : ℕ) (gs : List ℕ) (place : ℕ) → (n ≡ 0 → ⊥)
    → element_ends (n ∷ gs) place
    ≡ makes (bare end-group place ∷ counting 6 place 0 ∷ []) (within_groups ((n + 1) ∷ gs))
unfolding element_ends counting kind_of bare
next_element zero gs place h = absurd (h refl)
next_element (suc n) gs place h = let more_of : suc n + 1 ≡ suc (suc n) = omega arith in rw more_of

whole_array :
    (n : ℕ) (gs : List ℕ) (place : ℕ) → (n ≡ 0 → ⊥)
    → array_ends false (n ∷ gs) place ≡ makes (bare end-group place ∷ counting 8 place n ∷ []) (within_groups gs)
unfolding array_ends counted counting kind_of
whole_array zero gs place h = absurd (h refl)
whole_array (suc n) gs place h = refl

-- one and two entities with nothing but a count
empty_one : (kind place count : ℕ) → Empty (counting kind place count ∷ [])
empty_one kind place count = empty_counting kind place count [] nothing

empty_two : (kind place count : ℕ) → Empty (bare end-group place ∷ counting kind place count ∷ [])
unfolding bare
empty_two kind place count = more _ _ refl refl (empty_one kind place count)

-- `n` is the innermost of `k` open groups
abbrev pub Innermost : (a : List ℕ) → (k n : ℕ) → Type 0
Innermost a k n = Some n ≡ slice_get (open_groups a k) 0

pub deep_enough : (a : List ℕ) (k n : ℕ) → Innermost a k n → 1 ≤ k
deep_enough a k n t = let h = (some_top a k n t).0 in omega (arith, h)

split : (a : List ℕ) (k n : ℕ) → Innermost a k n → open_groups a k ≡ n ∷ open_groups a (k - 1)
split a k n t = let some = some_top a k n t in rw (some.1, innermost a k some.0) (topped a k some.0)

pub small_top : (a : List ℕ) (k n most : ℕ) → Innermost a k n → below (open_groups a k) most → n ≤ most
small_top a k n most t b = omega (arith, (some_top a k n t).1, below_top (open_groups a k) most b)

module _ (s : State) (list groups : List ℕ) (place : ℕ) where
  abbrev gs : List ℕ
  gs = open_groups groups s.depth

  abbrev comes : (T : List ℕ) → Judged
  comes T = judged_as 0 (reader_of s groups) place T []

  -- a refusal
  refused :
      (c : ℕ) (n : Refusal) (groups' : List ℕ) → ((T : List ℕ) → get_or T 0 0 ≡ c → comes T ≡ refuses (number_of n))
      → Ruled c 0 s list groups place (Err n) list groups'
  unfolding Ruled agrees fitted took
  refused c n groups' says T text e ready = rw (says T e) (refl, refl, refl, refl, refl)

  -- what is allowed
  allowed :
      {r : Result State Refusal} {list' : List ℕ} (c : ℕ) (own : List Entity) (q : Reader) (mode : Mode) (depth : ℕ) (groups' : List ℕ)
      → ((T : List ℕ) → get_or T 0 0 ≡ c → comes T ≡ makes own q) → Empty own
      → Fits s list own mode depth list' r
      → q ≡ record { metacommand = commanded mode; opened = bracketed mode; groups = open_groups groups' depth }
      → depth ≤ 64 → length groups' ≡ 64 → below (open_groups groups' depth) (place + 2)
      → Ruled c 0 s list groups place r list' groups'
  unfolding Ruled bares
  allowed {r} {list'} c own q mode depth groups' says x f eq deep long numbers T text e ready =
      rw (says T e)
      (fits_agrees s list text groups groups' place 0 own q (empty_bares 0 place own x) ready mode depth list' r f eq deep long
      numbers)

  module _ (steady : Steady s list groups place) where
    as_many : below gs (place + 2)
    as_many = higher gs (place + 1) (place + 2) (omega arith) steady.numbers

    -- without the innermost
    fewer : (s.depth ≡ 0 → ⊥) → below (open_groups groups (s.depth - 1)) (place + 2)
    unfolding below
    fewer some = (rw (topped groups s.depth some) at as_many).1

    module _ (regularly : commanded s.mode ≡ false) where
      -- `(`
      begins-here : (T : List ℕ) → get_or T 0 0 ≡ 0x28 → comes T ≡ group_begins limits (within_groups gs) place
      unfolding judged_as judged regular reader_of group_begins within_groups
      begins-here T e = rw (regularly, e)

      too_deep : (T : List ℕ) → get_or T 0 0 ≡ 0x28 → 64 ≤ s.depth → comes T ≡ refuses 17
      unfolding group_begins within_groups
      too_deep T e h = begins-here T e ∙ rw (so_many groups s.depth, le-ltb s.depth 64 h)

      one_more :
          (T : List ℕ) → get_or T 0 0 ≡ 0x28 → s.depth < 64 → comes T ≡ makes (counting 6 place 0 ∷ []) (within_groups (0 ∷ gs))
      unfolding group_begins within_groups counting kind_of bare
      one_more T e h = begins-here T e ∙ rw (so_many groups s.depth, lt-ltb s.depth 64 h)

      pub begins-refused :
          (groups' : List ℕ) → 64 ≤ s.depth → Ruled 0x28 0 s list groups place (Err TooManyGroups) list groups'
      begins-refused groups' h = refused 0x28 TooManyGroups groups' (λ T e. too_deep T e h)

      pub begins-allowed :
          {r : Result State Refusal} {list' : List ℕ} (groups' : List ℕ) → s.depth < 64
          → open_groups groups' (s.depth + 1) ≡ 0 ∷ gs → length groups' ≡ 64
          → Fits s list (counting 6 place 0 ∷ []) Regular (s.depth + 1) list' r
          → Ruled 0x28 0 s list groups place r list' groups'
      unfolding within_groups below
      begins-allowed groups' h o long f =
          allowed 0x28 (counting 6 place 0 ∷ []) (within_groups (0 ∷ gs)) Regular (s.depth + 1) groups' (λ T e. one_more T e h)
          (empty_one 6 place 0) f (rw o) (omega arith) long (rw o (omega arith, as_many))

      -- `)`
      ends-here : (T : List ℕ) → get_or T 0 0 ≡ 0x29 → comes T ≡ group_ends gs place
      unfolding judged_as judged regular reader_of
      ends-here T e = rw (regularly, e)

      one_fewer :
          (T : List ℕ) → get_or T 0 0 ≡ 0x29 → (n : ℕ) → Innermost groups s.depth n → n ≡ 0
          → comes T ≡ makes (counting 7 place 0 ∷ []) (within_groups (open_groups groups (s.depth - 1)))
      unfolding group_ends counting kind_of bare
      one_fewer T e n t z = ends-here T e ∙ rw (split groups s.depth n t, z)

      pub ends-refused :
          (groups' : List ℕ) → ((n : ℕ) → Innermost groups s.depth n → n ≡ 0 → ⊥)
          → Ruled 0x29 0 s list groups place (Err NoGroup) list groups'
      ends-refused groups' h = refused 0x29 NoGroup groups' (λ T e. ends-here T e ∙ no_group gs place h)

      pub ends-allowed :
          {r : Result State Refusal} {list' : List ℕ} (n : ℕ) → Innermost groups s.depth n → n ≡ 0
          → Fits s list (counting 7 place 0 ∷ []) Regular (s.depth - 1) list' r
          → Ruled 0x29 0 s list groups place r list' groups
      unfolding within_groups
      ends-allowed n t z f =
          allowed 0x29 (counting 7 place 0 ∷ []) (within_groups (open_groups groups (s.depth - 1))) Regular (s.depth - 1) groups
          (λ T e. one_fewer T e n t z) (empty_one 7 place 0) f refl (omega (arith, steady.deep)) steady.array
          (fewer (some_top groups s.depth n t).0)

      -- `[`
      array-here :
          (T : List ℕ) → get_or T 0 0 ≡ 0x5B → comes T ≡ makes [] (record { metacommand = false; opened = true; groups = gs })
      unfolding judged_as judged regular reader_of
      array-here T e = rw (regularly, e)

      pub array-allowed :
          (t : State) → t ≡ record { mode = Bracket; depth = s.depth; entities = s.entities; text = s.text }
          → Ruled 0x5B 0 s list groups place (Ok t) list groups
      array-allowed t is =
          let none : s.entities + 0 ≡ s.entities = omega arith in
          allowed 0x5B [] (record { metacommand = false; opened = true; groups = gs }) Bracket s.depth groups array-here nothing
          (room (omega (arith, steady.held)) (sym (written_none list s.entities s.text)) (rw (none, is))) refl steady.deep
          steady.array as_many

      -- `,`
      next_here : (T : List ℕ) → get_or T 0 0 ≡ 0x2C → comes T ≡ element_ends gs place
      unfolding judged_as judged regular reader_of
      next_here T e = rw (regularly, e)

      one_on :
          (T : List ℕ) → get_or T 0 0 ≡ 0x2C → (n : ℕ) → Innermost groups s.depth n → (n ≡ 0 → ⊥)
          → comes T
          ≡ makes (bare end-group place ∷ counting 6 place 0 ∷ []) (within_groups ((n + 1) ∷ open_groups groups (s.depth - 1)))
      one_on T e n t some =
          next_here T e
          ∙ (ap (λ x. element_ends x place) (split groups s.depth n t)
          ∙ next_element n (open_groups groups (s.depth - 1)) place some)

      pub next-refused :
          (groups' : List ℕ) → ((n : ℕ) → Innermost groups s.depth n → n ≡ 0)
          → Ruled 0x2C 0 s list groups place (Err NoElement) list groups'
      next-refused groups' h = refused 0x2C NoElement groups' (λ T e. next_here T e ∙ no_element gs place h)

      pub next-allowed :
          {r : Result State Refusal} {list' : List ℕ} (groups' : List ℕ) (n : ℕ) → Innermost groups s.depth n → (n ≡ 0 → ⊥)
          → groups' ≡ set groups (s.depth - 1) (n + 1)
          → Fits s list (bare end-group place ∷ counting 6 place 0 ∷ []) Regular s.depth list' r
          → Ruled 0x2C 0 s list groups place r list' groups'
      unfolding within_groups below
      next-allowed groups' n t some g f =
          let deep = deep_enough groups s.depth n t in
          let o : open_groups groups' s.depth ≡ (n + 1) ∷ open_groups groups (s.depth - 1) =
          rw g
          (renumbered groups s.depth (n + 1) (λ z. omega (arith, deep, z)) (omega (arith, deep, steady.deep, steady.array))) in
          allowed 0x2C (bare end-group place ∷ counting 6 place 0 ∷ []) (within_groups ((n + 1) ∷ open_groups groups (s.depth - 1))) Regular
          s.depth groups' (λ T e. one_on T e n t some) (empty_two 6 place 0) f (rw o) steady.deep
          (rw g (length-set groups (s.depth - 1) (n + 1) ∙ steady.array))
          (rw o (omega (arith, small_top groups s.depth n (place + 1) t steady.numbers), fewer (λ z. omega (arith, deep, z))))

      -- `]`
      closes_here : (T : List ℕ) → get_or T 0 0 ≡ 0x5D → comes T ≡ array_ends (bracketed s.mode) gs place
      unfolding judged_as judged regular reader_of
      closes_here T e = rw (regularly, e)

      empty-array :
          (T : List ℕ) → get_or T 0 0 ≡ 0x5D → bracketed s.mode ≡ true → comes T ≡ makes (counting 8 place 0 ∷ []) (within_groups gs)
      unfolding array_ends counted counting kind_of
      empty-array T e m = closes_here T e ∙ rw m

      closes-behind : (T : List ℕ) → get_or T 0 0 ≡ 0x5D → bracketed s.mode ≡ false → comes T ≡ array_ends false gs place
      closes-behind T e m = closes_here T e ∙ rw m

      pub closes-empty :
          {r : Result State Refusal} {list' : List ℕ} → bracketed s.mode ≡ true
          → Fits s list (counting 8 place 0 ∷ []) Regular s.depth list' r
          → Ruled 0x5D 0 s list groups place r list' groups
      unfolding within_groups
      closes-empty m f =
          allowed 0x5D (counting 8 place 0 ∷ []) (within_groups gs) Regular s.depth groups (λ T e. empty-array T e m)
          (empty_one 8 place 0) f
          refl steady.deep steady.array as_many

      pub closes-refused :
          bracketed s.mode ≡ false → ((n : ℕ) → Innermost groups s.depth n → n ≡ 0)
          → Ruled 0x5D 0 s list groups place (Err NoArray) list groups
      closes-refused m h = refused 0x5D NoArray groups (λ T e. closes-behind T e m ∙ no_array gs place h)

      pub closes-allowed :
          {r : Result State Refusal} {list' : List ℕ} (n : ℕ) → bracketed s.mode ≡ false → Innermost groups s.depth n → (n ≡ 0 → ⊥)
          → Fits s list (bare end-group place ∷ counting 8 place n ∷ []) Regular (s.depth - 1) list' r
          → Ruled 0x5D 0 s list groups place r list' groups
      unfolding within_groups
      closes-allowed n m t some f =
          let rest = open_groups groups (s.depth - 1) in
          allowed 0x5D (bare end-group place ∷ counting 8 place n ∷ []) (within_groups rest) Regular (s.depth - 1) groups
          (λ T e.
          closes-behind T e m
          ∙ (ap (λ x. array_ends false x place) (split groups s.depth n t) ∙ whole_array n rest place some))
          (empty_two 8 place n) f refl (omega (arith, steady.deep)) steady.array (fewer (some_top groups s.depth n t).0)

      -- `%`
      command_here :
          (T : List ℕ) → get_or T 0 0 ≡ 0x25
          → comes T ≡ makes (counting 1 place 0 ∷ []) (record { metacommand = true; opened = false; groups = gs })
      unfolding judged_as judged regular reader_of counting kind_of bare
      command_here T e = rw (regularly, e)

      pub command_begins :
          {r : Result State Refusal} {list' : List ℕ} → Fits s list (counting 1 place 0 ∷ []) Metacommand s.depth list' r
          → Ruled 0x25 0 s list groups place r list' groups
      command_begins f =
          allowed 0x25 (counting 1 place 0 ∷ []) (record { metacommand = true; opened = false; groups = gs }) Metacommand s.depth groups
          command_here (empty_one 1 place 0) f refl steady.deep steady.array as_many

    -- `;` in a metacommand
    command_over :
        s.mode ≡ Metacommand → (T : List ℕ) → get_or T 0 0 ≡ 0x3B → comes T ≡ makes (counting 2 place 0 ∷ []) (within_groups gs)
    unfolding judged_as judged command reader_of counting kind_of bare
    command_over m T e = rw (m, e)

    pub command_ends :
        {r : Result State Refusal} {list' : List ℕ} → s.mode ≡ Metacommand → Fits s list (counting 2 place 0 ∷ []) Regular s.depth list' r
        → Ruled 0x3B 0 s list groups place r list' groups
    unfolding within_groups
    command_ends m f =
        allowed 0x3B (counting 2 place 0 ∷ []) (within_groups gs) Regular s.depth groups (command_over m) (empty_one 2 place 0) f refl
        steady.deep steady.array as_many
