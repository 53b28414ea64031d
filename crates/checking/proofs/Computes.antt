-- Naming `computes` on an `unfolding` line has every definition of this crate's specs/ compute there.
use Rattle.checking.specs.Checking.{checked, unsound, completed, checked_with, checking}

unfoldable pub computes : Unit {0}
unfolding checked unsound completed checked_with checking
computes = tt
