-- `scan::word::among_last` meets its contract: the token goes on as far as bytes are passed over, and the next says what it does. Assumes
-- nothing.
use mathlib.Core.Path.{refl, sym}
use native.Mathlib.Omega.{arith}
use Rattle.runs.specs.Bytes.{goes_on}
use Rattle.scan.proofs.word.among_last.Goals as goal

pub returns-then-draft-i : goal.returns-then-draft-i
returns-then-draft-i c = λ said. absurd (said refl)

pub overflow_sub-i : goal.overflow_sub-i
overflow_sub-i c = omega (arith, (c.past_bytes-i.ensures goes_on (λ b r h e. e)).0.on)

pub returns : goal.returns
returns c = λ said. record {
  passed = (c.past_bytes-i.ensures goes_on (λ b r h e. e)).0;
  there = c.if-draft-i.false;
  ends = sym c.ends.ensures;
  short = omega arith;
}
