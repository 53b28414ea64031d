-- `holding::lines::lines` meets its contract. The invariant is the copier's: so many clean bytes stand at the front, and behind them the
-- part is as it was lent. A turn copies bytes as they stand, and passes over one CR or re-encodes one surrogate pair. Assumes nothing.
use mathlib.Core.Path.{◌≡◌, sym, ◌∙◌, ap}
use Prim.Native.Nat.{◌+◌, ◌-◌, ◌<◌}
use native.Mathlib.Omega.{arith}
use lib.ListN.{length, drop, length-drop, length-take}
use borrow.Rule.Slice.PartMut.{put_mid}
use Rattle.chars.specs.Stream.{stream_at, clean}
use Rattle.chars.proofs.Extent.{encoded_four}
use Rattle.tokens.proofs.Skipping.{reaches}
use Rattle.copying.proofs.Copying.{Copying, begun, advance_coded}
use Rattle.holding.proofs.Filling.{copied_front, part_filled, part_taken}
use Rattle.holding.proofs.Returns.{rest_whole, room, advance_run, past_return, copied_rest, copied_all}
use Rattle.holding.proofs.lines.lines.Goals as goal
use Rattle.holding.proofs.lines.lines.Goals.{After-front, After-put_four}

pub bounds-draft-from : goal.bounds-draft-from
bounds-draft-from c =
    let a = c.args in
    let p = c.requires in
    let first = begun a.draft.now a.from a.n a.out.now p.0 in
    omega (arith, room a.draft.now a.from a.n a.out.now p.1 a.out.now a.from 0 first p.2, p.2)

pub returns-then-draft-from : goal.returns-then-draft-from
returns-then-draft-from c =
    let a = c.args in
    let p = c.requires in
    c.copy.ensures.1 ∙ copied_front a.draft.now a.from a.n a.out.now p.0 p.1

pub overflow_add-i : goal.overflow_add-i
overflow_add-i c =
    let a = c.args in
    let l = c.loop-k in
    omega (arith, room a.draft.now a.from a.n a.out.now l.invariant.2 l.out l.i l.k l.invariant.0 l.invariant.1)

pub past_settled-r-requires : goal.past_settled-r-requires
past_settled-r-requires c =
    let a = c.args in
    let l = c.loop-k in
    (omega arith, room a.draft.now a.from a.n a.out.now l.invariant.2 l.out l.i l.k l.invariant.0 l.invariant.1)

front :
    (h : After-front)
    → Copying h.args.draft.now
    h.args.from
    h.args.n
    h.args.out.now
    (put_mid h.loop-k.k (length h.loop-k.out - h.loop-k.k)
    h.loop-k.out h.front.new.out) h.past_settled-r.result
    (h.loop-k.k + (h.past_settled-r.result - h.loop-k.i))
front h =
    let a = h.args in
    let l = h.loop-k in
    let p = h.past_settled-r in
    let there = room a.draft.now a.from a.n a.out.now l.invariant.2 l.out l.i l.k l.invariant.0 l.invariant.1 in
    advance_run a.draft.now a.from a.n a.out.now l.invariant.2 l.out l.i l.k l.invariant.0 l.invariant.1 p.result
    p.ensures _
    (part_taken (drop l.i a.draft.now) (p.result - l.i) l.out l.k h.front.new.out
    (omega (arith, p.ensures.1, there, length-drop l.i a.draft.now))
    (omega (arith, p.ensures.1, l.invariant.0.within, l.invariant.0.long, l.invariant.0.fits)) h.front.ensures)

-- a byte stands behind them, unless they are the last
more :
    (h : After-front)
    → (h.loop-k.k + (h.past_settled-r.result - h.loop-k.i)
    ≡ h.args.n → ⊥)
    → h.past_settled-r.result
    < length h.args.draft.now
more h not-all =
    let a = h.args in
    let l = h.loop-k in
    let p = h.past_settled-r.ensures in
    let there = room a.draft.now a.from a.n a.out.now l.invariant.2 l.out l.i l.k l.invariant.0 l.invariant.1 in
    omega (arith, p.0.on, p.1, l.invariant.1)

pub returns-then-k-n : goal.returns-then-k-n
returns-then-k-n c =
    copied_all _ _ _ _ c.loop-k.invariant.2 _ _ _ (front (goal.at.returns-then-k-n c).After-front) c.if-k-n.true

pub bounds-draft-r : goal.bounds-draft-r
bounds-draft-r c = more (goal.at.bounds-draft-r c).After-front c.if-k-n.false

pub loop-k-preserved-then-draft-r-eq13 : goal.loop-k-preserved-then-draft-r-eq13
loop-k-preserved-then-draft-r-eq13 c =
    let l = c.loop-k in
    let f = front (goal.at.loop-k-preserved-then-draft-r-eq13 c).After-front in
    let less :
    l.k + (c.past_settled-r.result - l.i)
    < c.args.n =
    omega (arith, f.within, c.if-k-n.false) in
    (past_return _ _ _ _ l.invariant.2 _ _ _ f less c.if-draft-r-eq13.true, less, l.invariant.2)

pub returns-in_default : goal.returns-in_default
returns-in_default c =
    let a = c.args in
    let l = c.loop-k in
    let r = c.past_settled-r.result in
    let k = l.k + (r - l.i) in
    let f = front (goal.at.returns-in_default c).After-front in
    let out = put_mid l.k (length l.out - l.k) l.out c.front.new.out in
    let long = rest_whole a.draft.now a.from a.n a.out.now l.invariant.2 out r k f in
    copied_rest a.draft.now a.from a.n a.out.now l.invariant.2 out r k f _
    (part_filled (clean (a.n - k) (stream_at a.draft.now r)) (a.n - k) out k c.copy-in_default.new.out
    (omega (arith, f.within, f.long, f.fits))
    (c.copy-in_default.ensures.1 ∙ copied_front a.draft.now r (a.n - k) _ (omega (
      arith,
      f.within,
      f.long,
      f.fits,
      length-drop k out,
      length-take (length out - k) (drop k out),
    )) long))

-- the pair
behind_pair :
    (q : After-put_four)
    → Copying q.args.draft.now
    q.args.from
    q.args.n
    q.args.out.now
    q.put_four.new.out (q.past_settled-r.result + 6)
    (q.loop-k.k +
    (q.past_settled-r.result - q.loop-k.i) + 4)
behind_pair q =
    let two = q.in-Some in
    let p = two.ensures in
    let coded = q.encode in
    rw q.put_four.ensures
    (advance_coded _ _ _ _ _ _ _ two.two _ 4 coded.result.bytes (front (goal.at.After-put_four q).After-front) p.0
    (sym (ap length (encoded_four two.two p.1))) p.2 coded.ensures.0)

pub returns-then-k-n-2 : goal.returns-then-k-n-2
returns-then-k-n-2 c =
    copied_all _ _ _ _ c.loop-k.invariant.2 _ _ _ (behind_pair (goal.at.returns-then-k-n-2 c).After-put_four) c.if-k-n-2.true

pub loop-k-smaller : goal.loop-k-smaller
loop-k-smaller c = omega (arith, (reaches _ _ _ _ c.in-Some.ensures.0).1, c.past_settled-r.ensures.0.on)

pub loop-k-preserved : goal.loop-k-preserved
loop-k-preserved c =
    let g = behind_pair (goal.at.loop-k-preserved c).After-put_four in (
      g,
      omega (arith, g.within, c.if-k-n-2.false),
      c.loop-k.invariant.2,
    )
