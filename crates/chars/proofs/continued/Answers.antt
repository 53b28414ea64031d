-- `chars::continued` meets its contract. The loop's invariant: what the definition answers from here is what it answered at the start,
-- and the number in hand leaves room for the bits still to come. Assumes nothing.
use mathlib.Core.Path.{◌≡◌, ◌∙◌, sym}
use Prim.Native.Nat.{◌+◌, ◌-◌}
use native.Mathlib.Omega.{arith}
use Rattle.chars.proofs.Sequences.{onward, room}
use Rattle.chars.proofs.continued.Goals as goal

pub loop-i-preserved : goal.loop-i-preserved
loop-i-preserved c =
    let l = c.loop-i in
    let left = c.in-Some.after - l.i in
    let less : c.in-Some.after - (l.i + 1) ≡ left - 1 = omega arith in
    let more = onward c.args.draft.now l.i left l.from l.to l.value (omega arith) (omega arith) (omega arith) (omega arith) in (
      rw (less, c.from.ensures) (sym more ∙ l.invariant.0),
      omega arith,
      omega arith,
      rw less (room l.value c.from.result left (omega (arith, c.from.ensures)) (omega arith) l.invariant.3),
    )
