-- `operations::array` meets its contract: its tests are those of the definition, in the same order. Assumes nothing.
use mathlib.Core.Path.{◌≡◌, sym, ◌∙◌}
use Prim.Native.Nat.{◌-◌, ◌≤◌}
use native.Mathlib.Omega.{arith}
use mathlib.Core.Bool.{true, false}
use lib.ListN.{length, take, drop}
use borrow.Author.Tests.{le-leb, lt-leb}
use Rattle.chars.specs.Limits.{limits}
use Rattle.rules.specs.Cells.{all_of, take_array}
use Rattle.rules.specs.Kinds.{wanted_of, kinds}
use Rattle.sight.specs.Arrays.{sight_of}
use Rattle.operations.specs.Taken.{left_of, at_most}
use Rattle.sight.proofs.Sight.{small_cell, large_cell, so_many}
use Rattle.operations.proofs.Taking.{below, upper_slice}
use Rattle.operations.proofs.array.Goals as goal

pub returns-then-c-lt-KINDS : goal.returns-then-c-lt-KINDS
unfolding left_of at_most take_array wanted_of
returns-then-c-lt-KINDS c = (rw (small_cell c.args.c (omega arith)), tt)

pub returns-then-cells-many : goal.returns-then-cells-many
unfolding left_of at_most take_array wanted_of
returns-then-cells-many c =
    let a = c.args in
    (rw (large_cell a.c (omega arith), so_many, lt-leb (a.c - 16) (length a.cells.now) (omega arith)), tt)

pub returns-then-not-all : goal.returns-then-not-all
unfolding left_of at_most take_array wanted_of
returns-then-not-all c =
    let a = c.args in
    let cells = a.cells.now in
    let n = a.c - 16 in
    let fit : n ≤ length cells = omega arith in
    let from = length cells - n in
    let slice = take (length cells - from) (drop from cells) in
    let other : all_of limits kinds a.kind (sight_of slice 0 (length slice)) ≡ false = sym c.all.ensures ∙ c.if-not-all.true in
    (rw (large_cell a.c (omega arith), so_many, le-leb n (length cells) fit, ← upper_slice cells n fit, other), tt)

pub returns : goal.returns
unfolding left_of at_most take_array wanted_of
returns c =
    let a = c.args in
    let cells = a.cells.now in
    let n = a.c - 16 in
    let fit : n ≤ length cells = omega arith in
    let from = length cells - n in
    let slice = take (length cells - from) (drop from cells) in
    let right : all_of limits kinds a.kind (sight_of slice 0 (length slice)) ≡ true = sym c.all.ensures ∙ c.if-not-all.false in
    (rw (large_cell a.c (omega arith), so_many, le-leb n (length cells) fit, ← upper_slice cells n fit, right, below), omega arith)
