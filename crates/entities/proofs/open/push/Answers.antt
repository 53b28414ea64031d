-- `entities::open::push` meets its contract: a store right behind the open ones is one more. Assumes nothing.
use native.Mathlib.Omega.{arith}
use Rattle.entities.proofs.OpenGroups.{pushed}
use Rattle.entities.proofs.open.push.Goals as goal

pub returns : goal.returns
returns c = let a = c.args in pushed a.groups.now a.depth a.number (omega arith)
