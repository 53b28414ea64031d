-- `copying::pair` meets its contract: a high surrogate and right behind it a low one are one character. Assumes nothing.
use Prim.Native.Nat.{◌+◌}
use native.Mathlib.Omega.{arith}
use Rattle.copying.proofs.Pairs.{two_surrogates}
use Rattle.copying.proofs.pair.Goals as goal

pub returns : goal.returns
returns c =
    let high = c.in_ok-high in
    let low = c.in_ok-low in
    let a = c.args in (
      two_surrogates a.draft.now a.i (a.i + 3 + 3) high.high low.low (omega arith) (omega arith) high.ensures.0 low.ensures.0
          high.ensures.1 high.ensures.2 low.ensures.2,
      omega arith,
    )
