-- `names::find` meets its contract. The invariant: the name is found among the entries up to this one, which is in the name's bucket, if it
-- is found at all. The measure is the entry, since each leads to one entered before it. Assumes nothing.
use mathlib.Core.Path.{◌≡◌, ap}
use native.Mathlib.Omega.{arith}
use Rattle.names.specs.Marks.{bucket_of, mark_of}
use Rattle.names.specs.Index.{key_of}
use Rattle.names.proofs.Chains.{begun, reached-name, reached_end, fewer, onward}
use Rattle.names.proofs.Entering.{bucket_most}
use Rattle.names.proofs.find.Goals as goal
use Rattle.names.proofs.find.Goals.{Start}

in_bucket : (c : Start) → c.args.m.bucket ≡ bucket_of c.args.name.now
unfolding mark_of
in_bucket c = ap (λ r. r.bucket) c.requires.1

pub led-next-requires : goal.led-next-requires
led-next-requires c =
    omega (arith, in_bucket (goal.at.led-next-requires c).Start, bucket_most c.args.name.now)

pub loop-next-init : goal.loop-next-init
loop-next-init c =
    let a = c.args in
    begun a.keys.now a.index.now a.count c.requires.0 a.name.now a.m.bucket _
    (in_bucket (goal.at.loop-next-init c).Start) c.led-next.ensures

pub returns-then-has : goal.returns-then-has
returns-then-has c =
    let a = c.args in
    let r = rw c.in-Some.is at c.loop-next.invariant in
    (reached-name (key_of a.keys.now a.index.now) a.name.now a.count c.in-Some.entry r c.has.result c.has.ensures c.if-has.true, r.most)

pub loop-next-smaller : goal.loop-next-smaller
loop-next-smaller c =
    let a = c.args in
    let r = rw c.in-Some.is at c.loop-next.invariant in
    rw c.in-Some.is
    (fewer a.keys.now a.index.now a.count c.requires.0 a.name.now c.in-Some.entry r _ c.led-next-in-Some.ensures)

pub loop-next-preserved : goal.loop-next-preserved
loop-next-preserved c =
    let a = c.args in
    let r = rw c.in-Some.is at c.loop-next.invariant in
    onward a.keys.now a.index.now a.count c.requires.0 a.name.now c.in-Some.entry r _ c.led-next-in-Some.ensures
    c.has.result c.has.ensures c.if-has.false

pub returns : goal.returns
returns c =
    let a = c.args in
    (reached_end (key_of a.keys.now a.index.now) a.name.now a.count (rw c.in_default.is at c.loop-next.invariant), omega arith)
