-- One row more is entered: its name stands behind its length byte, and the rows entered before keep their entries.
use mathlib.Core.Path.{◌≡◌, ◌∙◌, ap}
use mathlib.Core.List.{List}
use Prim.Native.Nat.{ℕ, ◌+◌, ◌<◌, ◌≤◌}
use native.Mathlib.Omega.{arith}
use native.Mathlib.Nat.{div-mul-le_self}
use lib.ListN.{length, get_or, take, drop}
use borrow.Author.Count.{below_more}
use Rattle.names.specs.Marks.{mark_of}
use Rattle.names.specs.Index.{Indexed, begin_at, length_at, entered}
use Rattle.names.specs.declared.Mark.{Mark}
use Rattle.names.proofs.Entering.{bucket_most, length_entered, entered_before, entered-begin, entered-length, indexed_entered}
use Rattle.table.specs.Entered.{Entered, row_count, row_place}

pub none_entered : (table index : List ℕ) → Indexed table index 0 → length index ≡ 1792 → Entered table index 0
none_entered table index i all =
    record {
      indexed = i;
      whole = all;
      few = omega arith;
      places = λ j h. absurd (omega arith);
      lengths = λ j h. absurd (omega arith);
      short = λ j h. absurd (omega arith);
    }

module _
    (table index : List ℕ) (count : ℕ) (m : Mark) (p n : ℕ) (e : Entered table index count) (h : count < row_count table)
    (most : row_count table ≤ 256) (here : p ≡ row_place table count) (long : n ≡ get_or table p 0) (short : n < 256)
    (mark : m ≡ mark_of (take n (drop (p + 1) table))) where
  small : m.bucket < 512
  unfolding mark_of
  small = rw (ap (λ r. r.bucket) mark) (bucket_most (take n (drop (p + 1) table)))

  kept : (i : ℕ) → i < begin_at count → 512 ≤ i → get_or (entered index count m (p + 1) n) i 0 ≡ get_or index i 0
  kept i l k = entered_before index count m (p + 1) n i l (λ z. omega (arith, small))

  there : p + 1 + n ≤ length table
  there = omega (arith, div-mul-le_self (length table) 274)

  there_long : n ≡ get_or table (row_place table count) 0
  there_long = long ∙ ap (λ k. get_or table k 0) here

  pub one_more : Entered table (entered index count m (p + 1) n) (count + 1)
  one_more =
      let room : count < 256 = omega arith in
      let all = e.whole in
      record {
        indexed = indexed_entered table index count m (p + 1) n e.indexed room all there mark;
        whole = length_entered index count m (p + 1) n ∙ all;
        few = omega arith;
        places =
            below_more _ count
            (λ j l. kept (begin_at j) (omega arith) (omega arith) ∙ e.places j l)
            (entered-begin index count m (p + 1) n small room all ∙ ap (λ k. k + 1) here);
        lengths =
            below_more _ count
            (λ j l. kept (length_at j) (omega arith) (omega arith) ∙ e.lengths j l)
            (entered-length index count m (p + 1) n small room all ∙ there_long);
        short = below_more _ count e.short (omega (arith, there_long));
      }
