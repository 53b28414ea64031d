-- The invariant: the name is found among the entries up to this one, which is in the name's bucket, if it is found at all. The measure is
-- the entry, since each leads to one entered before it.
use Rattle.names.specs.Index.{key_of, found_of}
use Rattle.names.proofs.Chains.{Reached}
use Rattle.names.proofs.find.Given as goal

abbrev pub invariant-loop-next : goal.invariant-loop-next
invariant-loop-next l = Reached (key_of l.keys l.index) l.name l.count (found_of l.next)

abbrev pub decreases-loop-next : goal.decreases-loop-next
decreases-loop-next l = found_of l.next
