-- Why a name is found by going from entry to entry in its bucket: none of the entries between two of a chain has it.
use mathlib.Core.Path.{◌≡◌, refl, sym, ◌∙◌, ap}
use mathlib.Core.Bool.{Bool, true, false}
use mathlib.Core.List.{List}
use Prim.Native.Nat.{ℕ, suc, ◌<◌, ◌≤◌}
use native.Mathlib.Omega.{arith}
use lib.ListN.{get_or}
use Rattle.chars.specs.Choice.{same}
use Rattle.names.specs.Marks.{bucket_of}
use Rattle.names.specs.Index.{before_at, key_of, position, latest, Indexed}
use Rattle.names.proofs.Entering.{bucket_most}
use Rattle.names.proofs.Positions.{position_latest, latest_most, latest_found}

-- A place in the chain of a name's bucket, counted from 1: the name is found among the entries up to it, if it is found at all.
pub record Reached (key : ℕ → List ℕ) (name : List ℕ) (count p : ℕ) : Type 0 where
  pub most : p ≤ count
  pub same_found : position key name p ≡ position key name count
  pub in_bucket : (j : ℕ) → p ≡ suc j → bucket_of (key j) ≡ bucket_of name

module _ (key : ℕ → List ℕ) (name : List ℕ) (count : ℕ) where
  position_here : (j : ℕ) → true ≡ same name (key j) → position key name (suc j) ≡ suc j
  unfolding position
  position_here j t = rw (← t)

  position_past : (j : ℕ) → false ≡ same name (key j) → position key name (suc j) ≡ position key name j
  unfolding position
  position_past j t = rw (← t)

  reached_latest :
      (p k : ℕ) → p ≡ latest key (bucket_of name) k → k ≤ count → position key name k ≡ position key name count
      → Reached key name count p
  reached_latest p k e h f =
      record {
        most = omega (arith, latest_most key (bucket_of name) k);
        same_found = rw e (sym (position_latest key name k) ∙ f);
        in_bucket = λ j q. latest_found key (bucket_of name) k j (sym e ∙ q);
      }

  -- the end of the chain
  pub reached_end : Reached key name count 0 → 0 ≡ position key name count
  unfolding position
  reached_end r = r.same_found

  module _ (entry : ℕ) (r : Reached key name count (suc entry)) where
    -- an entry that has the name
    pub reached-name : (t : Bool) → t ≡ same name (key entry) → t ≡ true → suc entry ≡ position key name count
    reached-name t e y = sym (position_here entry (sym y ∙ e)) ∙ r.same_found

    -- an entry that has another one
    passed : false ≡ same name (key entry) → position key name entry ≡ position key name count
    passed t = sym (position_past entry t) ∙ r.same_found

-- from the head of a name's bucket on, and then from each entry to the one before it
module _ (keys index : List ℕ) (count : ℕ) (i : Indexed keys index count) (name : List ℕ) where
  pub begun : (b p : ℕ) → b ≡ bucket_of name → p ≡ get_or index b 0 → Reached (key_of keys index) name count p
  begun b p e q =
      reached_latest (key_of keys index) name count p count
      (q ∙ (ap (λ k. get_or index k 0) e ∙ i.heads (bucket_of name) (bucket_most name))) (omega arith) refl

  module _
      (entry : ℕ) (r : Reached (key_of keys index) name count (suc entry)) (q : ℕ) (e : q ≡ get_or index (before_at entry) 0) where
    before_latest : q ≡ latest (key_of keys index) (bucket_of name) entry
    before_latest =
        e ∙ (i.chain entry (omega arith) ∙ ap (λ b. latest (key_of keys index) b entry) (r.in_bucket entry refl))

    pub fewer : q < suc entry
    fewer = omega (arith, before_latest, latest_most (key_of keys index) (bucket_of name) entry)

    pub onward :
        (t : Bool) → t ≡ same name (key_of keys index entry) → t ≡ false → Reached (key_of keys index) name count q
    onward t f n =
        reached_latest (key_of keys index) name count q entry before_latest (omega arith)
        (passed (key_of keys index) name count entry r (sym n ∙ f))
