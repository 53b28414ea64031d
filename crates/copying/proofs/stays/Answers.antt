-- `copying::stays` meets its contract: a byte of US-ASCII that is neither nul nor CR has a class above 0. Assumes nothing.
use native.Mathlib.Omega.{arith}
use borrow.Author.Tests.{ltb-true}
use Rattle.tokens.proofs.Classes.{has_class}
use Rattle.copying.proofs.stays.Goals as goal

pub returns-then-b-ne13 : goal.returns-then-b-ne13
returns-then-b-ne13 c e = has_class _ (omega arith) (ltb-true _ _ e) (λ r. omega arith)
