-- The loop's invariant: what the definition answers from here is what it answered at the start, and the number in hand leaves room for
-- the bits still to come.
use mathlib.Core.Path.{◌≡◌}
use Prim.Native.Nat.{◌+◌, ◌-◌, ◌*◌, ◌^◌, ◌≤◌}
use lib.ListN.{drop}
use Rattle.chars.specs.Character.{continued}
use Rattle.chars.proofs.continued.Given as goal

abbrev pub invariant-loop-i : goal.invariant-loop-i
invariant-loop-i l =
    (continued (l.after - l.i) l.from l.to l.value (drop l.i l.draft) l.i
    ≡ continued l.n l.low l.high l.number (drop l.place l.draft) l.place)
    × (128 ≤ l.from)
    × (l.to ≤ 191)
    × ((l.value + 1) * 64 ^ (l.after - l.i) ≤ 2 ^ 21)
