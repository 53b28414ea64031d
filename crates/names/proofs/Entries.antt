-- Whether an entry of an index has a name (specs/Index.antt, Indexed): not if its length or a number of its mark is another, and it has if
-- these are the same and the name is of eight bytes at most.
use mathlib.Core.Path.{◌≡◌, refl, sym, ◌∙◌, ap}
use mathlib.Core.Bool.{true, false}
use mathlib.Core.List.{List}
use Prim.Native.Nat.{ℕ, ◌+◌, ◌-◌, ◌<◌, ◌≤◌}
use native.Mathlib.Omega.{arith}
use lib.ListN.{length, get_or, take, drop}
use Rattle.chars.specs.Choice.{same}
use Rattle.names.specs.Marks.{first_of, last_of, mark_of}
use Rattle.names.specs.Index.{begin_at, length_at, first_at, last_at, key_of, Indexed}
use Rattle.names.specs.declared.Mark.{Mark}
use Rattle.names.proofs.Apart.{Bytes, take_bytes, drop_bytes, told_apart}
use Rattle.names.proofs.Equal.{equal_same, unequal_same}
use Rattle.names.proofs.Numbers.{length_name}

module _
    (keys index : List ℕ) (count entry : ℕ) (i : Indexed keys index count) (h : entry < count)
    (name : List ℕ) (m : Mark) (e : m ≡ mark_of name) where
  key_length : length (key_of keys index entry) ≡ get_or index (length_at entry) 0
  unfolding key_of
  key_length = length_name keys (get_or index (begin_at entry) 0) (get_or index (length_at entry) 0) (i.inside entry h)

  key_first : (get_or index (first_at entry) 0 ≡ m.first) → first_of name ≡ first_of (key_of keys index entry)
  unfolding mark_of
  key_first q = sym (ap (λ r. r.first) e) ∙ (sym q ∙ i.firsts entry h)

  key_last : (get_or index (last_at entry) 0 ≡ m.last) → last_of name ≡ last_of (key_of keys index entry)
  unfolding mark_of
  key_last q = sym (ap (λ r. r.last) e) ∙ (sym q ∙ i.lasts entry h)

  other : (name ≡ key_of keys index entry → ⊥) → false ≡ same name (key_of keys index entry)
  other ne = sym (unequal_same name (key_of keys index entry) ne)

  pub other_length :
      (get_or index (length_at entry) 0 ≡ length name → ⊥) → false ≡ same name (key_of keys index entry)
  other_length ne = other (λ q. ne (sym key_length ∙ ap length (sym q)))

  pub other_first :
      (get_or index (first_at entry) 0 ≡ m.first → ⊥) → false ≡ same name (key_of keys index entry)
  unfolding mark_of
  other_first ne = other (λ q. ne (i.firsts entry h ∙ (ap first_of (sym q) ∙ sym (ap (λ r. r.first) e))))

  pub other_last :
      (get_or index (last_at entry) 0 ≡ m.last → ⊥) → false ≡ same name (key_of keys index entry)
  unfolding mark_of
  other_last ne = other (λ q. ne (i.lasts entry h ∙ (ap last_of (sym q) ∙ sym (ap (λ r. r.last) e))))

  pub one_mark :
      Bytes keys → Bytes name → get_or index (length_at entry) 0 ≡ length name → get_or index (first_at entry) 0 ≡ m.first
      → get_or index (last_at entry) 0 ≡ m.last → length name ≤ 8 → true ≡ same name (key_of keys index entry)
  unfolding key_of
  one_mark b c l f t most =
      let key = key_of keys index entry in
      let begin = get_or index (begin_at entry) 0 in
      let of-key : Bytes key = take_bytes (get_or index (length_at entry) 0) (drop begin keys) (drop_bytes begin keys b) in
      sym (equal_same name key
      (told_apart (length name) name key refl (key_length ∙ l) c of-key most (key_first f) (key_last t)))

  -- the bytes of an entry that is as long as the name
  module _ (begin : ℕ) (b : begin ≡ get_or index (begin_at entry) 0) (l : get_or index (length_at entry) 0 ≡ length name) where
    pub key_bytes : take (begin + length name - begin) (drop begin keys) ≡ key_of keys index entry
    unfolding key_of
    key_bytes =
        let all : begin + length name - begin ≡ length name = omega arith in
        rw (all, b, l)
