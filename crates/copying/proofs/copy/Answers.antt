-- `copying::copy` meets its contract. The invariant: so many clean bytes stand at the front, and behind them the part is as it was
-- lent. A turn copies a surrogate pair, or
-- the bytes that stay as they are and then one character. Assumes nothing.
use mathlib.Core.Path.{◌≡◌, sym, ◌∙◌, ap}
use lib.ListN.{length}
use Prim.Native.Nat.{◌+◌, ◌-◌}
use native.Mathlib.Omega.{arith}
use borrow.Author.Rules.{rules}
use Rattle.chars.specs.Character.{encoded}
use Rattle.chars.proofs.Extent.{encoded_size, encoded_four, nearest_length}
use Rattle.copying.specs.Copy.{told}
use Rattle.copying.proofs.Copying.{Copying, advance_kept, advance_coded, stored, finished, too_small}
use Rattle.tokens.proofs.Clean.{clean_zero, clean_full, clean_none}
use Rattle.tokens.proofs.Skipping.{reaches}
use Rattle.copying.proofs.copy.Goals as goal
use Rattle.copying.proofs.copy.Goals.{After-kept-same}

pub returns-then-out-n : goal.returns-then-out-n
unfolding told
returns-then-out-n c = let a = c.args in too_small a.draft.now a.from a.n a.out.now c.if-out-n.true

pub overflow_add-i : goal.overflow_add-i
overflow_add-i c = omega (arith, (reaches _ _ _ _ c.in-Some.ensures.0).1)

pub loop-two-preserved-in-Some : goal.loop-two-preserved-in-Some
loop-two-preserved-in-Some c =
    let l = c.loop-two in
    let two = c.in-Some in
    let p = two.ensures in
    let coded = c.encode in (
      rw c.put_four.ensures (advance_coded _ _ _ _ _ _ _ two.two _ 4 coded.result.bytes
          l.invariant.0 p.0 (sym (ap length (encoded_four two.two p.1))) p.2 coded.ensures.0),
      omega (arith, (reaches _ _ _ _ p.0).1),
    )

front :
    (c : After-kept-same)
    → Copying c.args.draft.now
    c.args.from
    c.args.n
    c.args.out.now c.kept-same.new.out
    (c.loop-two.i + c.kept-same.result)
    (c.loop-two.k + c.kept-same.result)
front c =
    let l = c.loop-two in
    advance_kept _ _ _ _ l.out l.i l.k c.kept-same.result c.ahead.result.now c.kept-same.new.out l.invariant.0
    c.ahead.ensures c.kept-same.ensures

pub returns-then-k-n : goal.returns-then-k-n
unfolding told
returns-then-k-n c =
    let n = c.args.n in
    let none : n - (c.loop-two.k + c.kept-same.result) ≡ 0 = omega arith in
    finished _ _ _ _ _ _ _ (front (goal.at.returns-then-k-n c).After-kept-same) (rw none (clean_zero _))

pub returns-in_default-next : goal.returns-in_default-next
unfolding told
returns-in_default-next c =
    finished _ _ _ _ _ _ _ (front (goal.at.returns-in_default-next c).After-kept-same) (clean_none _ _ _ c.in_default-next.ensures)

pub returns-then-n-k : goal.returns-then-n-k
unfolding told
returns-then-n-k c =
    let is = c.in-Some-next.ensures in
    let own = nearest_length c.in-Some-next.c.number in
    finished _ _ _ _ _ _ _ (front (goal.at.returns-then-n-k c).After-kept-same)
    (clean_full _ _ _ c.in-Some-next.c.number c.in-Some-next.c.after is (omega (arith, own, c.encode-coded.ensures.1)))

pub shared_ref_as_front-own : goal.shared_ref_as_front-own
shared_ref_as_front-own c =
    omega (arith, nearest_length c.in-Some-next.c.number, c.encode-coded.ensures.1, (encoded_size c.in-Some-next.c.number).1)

pub loop-two-smaller : goal.loop-two-smaller
loop-two-smaller c =
    let f = front (goal.at.loop-two-smaller c).After-kept-same in
    let many = encoded_size c.in-Some-next.c.number in
    omega (arith, f.within, c.if-n-k.false, nearest_length c.in-Some-next.c.number, c.encode-coded.ensures.1, many.0)

pub loop-two-preserved : goal.loop-two-preserved
loop-two-preserved c =
    let f = front (goal.at.loop-two-preserved c).After-kept-same in
    let is = c.in-Some-next.ensures in
    let coded = c.encode-coded in
    let size : coded.result.length ≡ length (encoded c.in-Some-next.c.number) = coded.ensures.1 ∙ nearest_length c.in-Some-next.c.number in
    let is_stored =
    stored c.kept-same.new.out coded.result.bytes c.copy_from_slice.new.self (c.loop-two.k + c.kept-same.result) coded.result.length
    c.copy_from_slice.ensures.after in (
      rw is_stored (advance_coded _ _ _ _ _ _ _ c.in-Some-next.c.number c.in-Some-next.c.after coded.result.length coded.result.bytes f is size
          c.if-n-k.false coded.ensures.0),
      search rules,
    )
