-- `copying::next` meets its contract: each function that it asks tells the character by its own contract. Assumes nothing.
use native.Mathlib.Omega.{arith}
use Rattle.tokens.proofs.Skipping.{reaches}
use Rattle.copying.proofs.next.Goals as goal

pub overflow_add-result : goal.overflow_add-result
overflow_add-result c = omega (arith, (reaches _ _ _ _ c.in-Some.ensures.0).1)

pub overflow_add-result-then-line_end : goal.overflow_add-result-then-line_end
overflow_add-result-then-line_end c = omega (arith, (reaches _ _ _ _ (c.line_end.ensures c.if-line_end.true)).1)
