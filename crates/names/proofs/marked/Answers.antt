-- `names::marked` meets its contract: each number of the mark is made of those that its parts return. Assumes nothing.
use native.Mathlib.Omega.{arith}
use Rattle.names.specs.Marks.{mark_of, bucket_of}
use Rattle.names.proofs.marked.Goals as goal

pub returns : goal.returns
unfolding mark_of bucket_of
returns c =
    let first = c.first_of-first.ensures in
    let last = c.last_of-last.ensures in
    (rw (c.from.ensures, c.from-2.ensures, c.from-3.ensures, c.between.ensures, first, last), omega arith)
