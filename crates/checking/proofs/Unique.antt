-- No second answer, with what the list and the text buffer hold afterwards, meets the contract of `check` or of a part of it that the call
-- for C has too.
use mathlib.Core.List.{[], ◌∷◌}
use Rattle.chars.proofs.Only.{one, with_buffers, OneAnswer, OneOutcome}
use Rattle.checking.proofs as fn

pub unsound : OneOutcome fn.unsound.Kinds.ps fn.unsound.Kinds.r fn.unsound.Reads.Post (λ κs x. x.0.now ∷ x.1.0.now ∷ [])
unsound κs given a b x y = with_buffers

pub checked : OneAnswer fn.checked.Kinds.ps fn.checked.Kinds.r fn.checked.Reads.Post
checked κs given a b x y = one

pub check : OneOutcome fn.check.Kinds.ps fn.check.Kinds.r fn.check.Reads.Post (λ κs x. x.1.0.now ∷ x.1.1.0.now ∷ [])
check κs given a b x y = with_buffers
