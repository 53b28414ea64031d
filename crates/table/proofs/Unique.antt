-- No second answer meets the contract of a public function of `table`. Of `judge` that is its answer alone: what the index holds afterwards
-- is told by what it finds, and after a table that is not sound not at all.
use Rattle.chars.proofs.Only.{one, OneAnswer}
use Rattle.table.proofs as fn

pub judge : OneAnswer fn.judge.Kinds.ps fn.judge.Kinds.r fn.judge.Reads.Post
judge κs given a b x y p q = one p.0 q.0
