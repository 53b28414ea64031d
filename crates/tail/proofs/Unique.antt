-- No second answer meets the contract of `tail`.
use Rattle.chars.proofs.Only.{one, OneAnswer}
use Rattle.tail.proofs as fn

pub tail : OneAnswer fn.tail.Kinds.ps fn.tail.Kinds.r fn.tail.Reads.Post
tail κs given a b x y = one
