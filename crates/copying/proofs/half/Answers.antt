-- `copying::half` meets its contract: each test of the code is one of those that make three bytes from ED on a surrogate. Assumes
-- nothing.
use native.Mathlib.Omega.{arith}
use Rattle.copying.proofs.Pairs.{surrogate}
use Rattle.copying.proofs.half.Goals as goal

pub returns : goal.returns
returns c =
    let first = c.if-draft-i.false in
    let a = c.args in (
      omega arith,
      first,
      surrogate a.draft.now a.i a.low _ c.requires.0 c.requires.1 c.requires.2 first (omega arith) (omega arith) (omega arith)
          (omega arith) (omega arith),
    )
