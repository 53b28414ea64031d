-- One entry more (specs/Index.antt, entered): the array stays the index of its entries, those before keep their names, and the new one has
-- its own. Each number is read where one was stored, or where none was.
use mathlib.Core.Path.{◌≡◌, sym, ◌∙◌, ap}
use mathlib.Core.Logic.{◌≢◌}
use mathlib.Core.List.{List}
use Prim.Native.Nat.{ℕ, ◌+◌, ◌<◌, ◌≤◌}
use native.Mathlib.Nat.{mod-lt}
use native.Mathlib.Numerals.{add-one}
use native.Mathlib.Omega.{arith}
use lib.Dec.{eqb}
use lib.ListN.{length, get_or, take, drop, set, length-set, replicate, get_or-replicate}
use lib.Seq.{get_or-set_same, get_or-set_other}
use borrow.Author.Count.{below_more}
use borrow.Author.Tests.{eq-eqb, ne_eqb, eqb-true, eqb-false}
use Rattle.chars.proofs.Cases.{either}
use Rattle.names.specs.Marks.{bucket_of, mark_of}
use Rattle.names.specs.Index.{begin_at, length_at, before_at, first_at, last_at, key_of, position, latest, Indexed, entered}
use Rattle.names.specs.declared.Mark.{Mark}
use Rattle.names.proofs.Positions.{position_agrees, latest_agrees}

-- an array of zeros is the index of no entry
pub no_entries : (keys : List ℕ) → Indexed keys (replicate 1792 0) 0
unfolding latest
no_entries keys =
    record {
      most = omega arith;
      inside = λ j h. absurd (omega arith);
      firsts = λ j h. absurd (omega arith);
      lasts = λ j h. absurd (omega arith);
      heads = λ b h. get_or-replicate 1792 b 0 0 (omega arith);
      chain = λ j h. absurd (omega arith);
    }

pub bucket_most : (name : List ℕ) → bucket_of name < 512
unfolding bucket_of
bucket_most name = mod-lt _ (omega arith)

-- what was stored is read again
stored : (l : List ℕ) (i v : ℕ) → length l ≡ 1792 → i < 1792 → get_or (set l i v) i 0 ≡ v
stored l i v all h = get_or-set_same l i v 0 (omega arith)

module _ (index : List ℕ) (count : ℕ) (m : Mark) (at n : ℕ) where
  pub length_entered : length (entered index count m at n) ≡ length index
  unfolding entered
  length_entered = simp length-set

  -- a number that stands before the new entry's and is not that of its bucket
  pub entered_before : (i : ℕ) → i < begin_at count → i ≢ m.bucket → get_or (entered index count m at n) i 0 ≡ get_or index i 0
  unfolding entered
  entered_before i h g =
      let e0 : i ≢ begin_at count = λ e. omega arith in
      let e1 : i ≢ length_at count = λ e. omega arith in
      let e2 : i ≢ before_at count = λ e. omega arith in
      let e3 : i ≢ first_at count = λ e. omega arith in
      let e4 : i ≢ last_at count = λ e. omega arith in
      simp get_or-set_other

  module _ (small : m.bucket < 512) where
    pub key_before :
        (keys : List ℕ) (j : ℕ) → j < count → key_of keys (entered index count m at n) j ≡ key_of keys index j
    unfolding key_of
    key_before keys j h =
        rw (entered_before (length_at j) (omega arith) (λ e. omega arith), entered_before (begin_at j) (omega arith) (λ e. omega arith))

    pub position_before :
        (keys name : List ℕ) → position (key_of keys (entered index count m at n)) name count ≡ position (key_of keys index) name count
    position_before keys name =
        position_agrees (key_of keys (entered index count m at n)) (key_of keys index) name count (key_before keys)

    module _ (room : count < 256) (all : length index ≡ 1792) where
      -- the new entry's numbers
      pub entered-begin : get_or (entered index count m at n) (begin_at count) 0 ≡ at
      unfolding entered
      entered-begin =
          let h : begin_at count < 1792 = omega arith in
          let e1 : begin_at count ≢ length_at count = λ e. omega arith in
          let e2 : begin_at count ≢ before_at count = λ e. omega arith in
          let e3 : begin_at count ≢ first_at count = λ e. omega arith in
          let e4 : begin_at count ≢ last_at count = λ e. omega arith in
          let e5 : begin_at count ≢ m.bucket = λ e. omega arith in
          simp (get_or-set_other, stored, all)

      pub entered-length : get_or (entered index count m at n) (length_at count) 0 ≡ n
      unfolding entered
      entered-length =
          let h : length_at count < 1792 = omega arith in
          let e2 : length_at count ≢ before_at count = λ e. omega arith in
          let e3 : length_at count ≢ first_at count = λ e. omega arith in
          let e4 : length_at count ≢ last_at count = λ e. omega arith in
          let e5 : length_at count ≢ m.bucket = λ e. omega arith in
          simp (get_or-set_other, stored, length-set, all)

      entered-previous : get_or (entered index count m at n) (before_at count) 0 ≡ get_or index m.bucket 0
      unfolding entered
      entered-previous =
          let h : before_at count < 1792 = omega arith in
          let e3 : before_at count ≢ first_at count = λ e. omega arith in
          let e4 : before_at count ≢ last_at count = λ e. omega arith in
          let e5 : before_at count ≢ m.bucket = λ e. omega arith in
          simp (get_or-set_other, stored, length-set, all)

      entered-first : get_or (entered index count m at n) (first_at count) 0 ≡ m.first
      unfolding entered
      entered-first =
          let h : first_at count < 1792 = omega arith in
          let e4 : first_at count ≢ last_at count = λ e. omega arith in
          let e5 : first_at count ≢ m.bucket = λ e. omega arith in
          simp (get_or-set_other, stored, length-set, all)

      entered-last : get_or (entered index count m at n) (last_at count) 0 ≡ m.last
      unfolding entered
      entered-last =
          let h : last_at count < 1792 = omega arith in
          let e5 : last_at count ≢ m.bucket = λ e. omega arith in
          simp (get_or-set_other, stored, length-set, all)

      entered-bucket : get_or (entered index count m at n) m.bucket 0 ≡ count + 1
      unfolding entered
      entered-bucket =
          let h : m.bucket < 1792 = omega arith in
          simp (stored, length-set, all)

      pub key-entered : (keys : List ℕ) → key_of keys (entered index count m at n) count ≡ take n (drop at keys)
      unfolding key_of
      key-entered keys = rw (entered-length, entered-begin)

-- The array is the index of one entry more.
module _
    (keys index : List ℕ) (count : ℕ) (m : Mark) (at n : ℕ) (i : Indexed keys index count) (room : count < 256)
    (all : length index ≡ 1792) (there : at + n ≤ length keys) (e : m ≡ mark_of (take n (drop at keys))) where
  in_bucket : m.bucket ≡ bucket_of (take n (drop at keys))
  unfolding mark_of
  in_bucket = ap (λ r. r.bucket) e

  bucket_small : m.bucket < 512
  bucket_small = rw in_bucket (bucket_most (take n (drop at keys)))

  old_key : (j : ℕ) → j < count → key_of keys (entered index count m at n) j ≡ key_of keys index j
  old_key = key_before index count m at n bucket_small keys

  new_key : key_of keys (entered index count m at n) count ≡ take n (drop at keys)
  new_key = key-entered index count m at n bucket_small room all keys

  kept : (j : ℕ) → j < begin_at count → 512 ≤ j → get_or (entered index count m at n) j 0 ≡ get_or index j 0
  kept j h l = entered_before index count m at n j h (λ e. omega (arith, bucket_small))

  old_latest :
      (b j : ℕ) → j ≤ count → latest (key_of keys (entered index count m at n)) b j ≡ latest (key_of keys index) b j
  old_latest b j h =
      latest_agrees (key_of keys (entered index count m at n)) (key_of keys index) b j (λ k l. old_key k (omega arith))

  new_head :
      (b : ℕ) → b < 512
      → get_or (entered index count m at n) b 0 ≡ latest (key_of keys (entered index count m at n)) b (count + 1)
  unfolding latest
  new_head b h =
      either (eqb b m.bucket)
      (λ t.
      let q = eqb-true b m.bucket t in
      rw (q, entered-bucket index count m at n bucket_small room all, add-one, new_key, eq-eqb _ _ (sym in_bucket)))
      (λ t.
      let q = eqb-false b m.bucket t in
      let other = ne_eqb (bucket_of (take n (drop at keys))) b (λ f. q (sym (in_bucket ∙ f))) in
      rw (entered_before index count m at n b (omega arith) q, add-one, new_key, other, old_latest b count (omega arith))
      (i.heads b h))

  pub indexed_entered : Indexed keys (entered index count m at n) (count + 1)
  unfolding mark_of
  indexed_entered =
      record {
        most = omega arith;
        inside =
            below_more _ count
            (λ j h. rw (kept (begin_at j) (omega arith) (omega arith), kept (length_at j) (omega arith) (omega arith)) (i.inside j h))
            (rw (entered-begin index count m at n bucket_small room all, entered-length index count m at n bucket_small room all) there);
        firsts =
            below_more _ count
            (λ j h. rw (kept (first_at j) (omega arith) (omega arith), old_key j h) (i.firsts j h))
            (rw (entered-first index count m at n bucket_small room all, new_key) (ap (λ r. r.first) e));
        lasts =
            below_more _ count
            (λ j h. rw (kept (last_at j) (omega arith) (omega arith), old_key j h) (i.lasts j h))
            (rw (entered-last index count m at n bucket_small room all, new_key) (ap (λ r. r.last) e));
        heads = new_head;
        chain =
            below_more _ count
            (λ j h.
            rw (kept (before_at j) (omega arith) (omega arith), old_key j h, old_latest (bucket_of (key_of keys index j)) j (omega arith))
            (i.chain j h))
            (let before = entered-previous index count m at n bucket_small room all in
            rw (before, new_key, ← in_bucket, old_latest m.bucket count (omega arith)) (i.heads m.bucket bucket_small));
      }
