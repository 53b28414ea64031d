-- `names::has` meets its contract: an entry of another length or another mark has another name, names of one mark and up to eight bytes are
-- the same, and longer ones are compared. Assumes nothing.
use mathlib.Core.Path.{refl, ◌∙◌}
use native.Mathlib.Omega.{arith}
use Rattle.names.specs.Index.{key_of}
use Rattle.names.proofs.Entries.{other_length, other_first, other_last, one_mark, key_bytes}
use Rattle.names.proofs.Equal.{compared}
use Rattle.names.proofs.has.Goals as goal

pub returns-then-index-k : goal.returns-then-index-k
returns-then-index-k c =
    let a = c.args in
    let r = c.requires in
    other_length a.keys.now a.index.now a.count a.entry r.0 r.1 a.name.now a.m r.2 c.if-index-k.true

pub returns-then-index-k-2 : goal.returns-then-index-k-2
returns-then-index-k-2 c =
    let a = c.args in
    let r = c.requires in
    other_first a.keys.now a.index.now a.count a.entry r.0 r.1 a.name.now a.m r.2 c.if-index-k-2.true

pub returns-then-index-k-3 : goal.returns-then-index-k-3
returns-then-index-k-3 c =
    let a = c.args in
    let r = c.requires in
    other_last a.keys.now a.index.now a.count a.entry r.0 r.1 a.name.now a.m r.2 c.if-index-k-3.true

pub returns-then-n-le8 : goal.returns-then-n-le8
returns-then-n-le8 c =
    let a = c.args in
    let r = c.requires in
    one_mark a.keys.now a.index.now a.count a.entry r.0 r.1 a.name.now a.m r.2
    (λ i h. omega (arith, c.type_inv.keys i)) (λ i h. omega (arith, c.type_inv.name i))
    c.if-index-k.false c.if-index-k-2.false c.if-index-k-3.false c.if-n-le8.true

pub returns : goal.returns
returns c =
    let a = c.args in
    let r = c.requires in
    let there = key_bytes a.keys.now a.index.now a.count a.entry r.0 r.1 a.name.now a.m r.2 _ refl c.if-index-k.false in
    rw there at c.eq.ensures ∙ compared a.name.now (key_of a.keys.now a.index.now a.entry)
