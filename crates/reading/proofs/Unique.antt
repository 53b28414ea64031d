-- No second answer, with what the list and the text buffer hold afterwards, meets the contract of `read`.
use mathlib.Core.List.{[], ◌∷◌}
use Rattle.chars.proofs.Only.{with_buffers, OneOutcome}
use Rattle.reading.proofs as fn

pub read : OneOutcome fn.read.Kinds.ps fn.read.Kinds.r fn.read.Reads.Post (λ κs x. x.1.0.now ∷ x.1.1.0.now ∷ [])
read κs given a b x y = with_buffers
