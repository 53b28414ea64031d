-- No second answer, with what the buffers hold afterwards, meets the contract of a call for C.
use mathlib.Core.List.{[], ◌∷◌}
use Rattle.chars.proofs.Only.{one, with_buffers, OneAnswer, OneOutcome}
use Rattle.vogieburn.proofs as fn

pub read :
    OneOutcome fn.vogieburn_read.Kinds.ps fn.vogieburn_read.Kinds.r fn.vogieburn_read.Reads.Post
    (λ κs x. x.1.0.now ∷ x.1.1.0.now ∷ [])
read κs given a b x y = with_buffers

pub check :
    OneOutcome fn.vogieburn_check.Kinds.ps fn.vogieburn_check.Kinds.r fn.vogieburn_check.Reads.Post
    (λ κs x. x.1.0.now ∷ x.1.1.0.now ∷ [])
check κs given a b x y = with_buffers

pub tail : OneAnswer fn.vogieburn_tail.Kinds.ps fn.vogieburn_tail.Kinds.r fn.vogieburn_tail.Reads.Post
tail κs given a b x y = one

pub step : OneAnswer fn.vogieburn_step.Kinds.ps fn.vogieburn_step.Kinds.r fn.vogieburn_step.Reads.Post
step κs given a b x y = one
