-- No two answers that differ in the refusal, in what is held or in a buffer meet the contract of a public function of `texts`. What
-- `agrees` leaves open is what a state says behind a refusal.
use mathlib.Core.Path.{◌≡◌}
use contract.Lifetimes.{Lfts}
use borrow.Fn.Kinds.{Dens, ended_of}
use denote.Triple.Clauses.{AtExit}
use Rattle.std.specs.Prelude.{Result}
use Rattle.chars.specs.declared.refusal.Refusal.{Refusal}
use Rattle.entities.specs.Stepping.{took}
use Rattle.entities.specs.declared.state.State.{State}
use Rattle.entities.proofs.Unique.{Same, agreed}
use Rattle.texts.proofs as fn

pub take :
    (κs : Lfts 4) (given : Dens κs fn.take.Kinds.ps) (a b : Result State Refusal)
    (x y : AtExit (ended_of 4 fn.take.Kinds.ps fn.take.Kinds.r) κs)
    → fn.take.Reads.Post κs given a x → fn.take.Reads.Post κs given b y
    → Same (took given.1.1.1.1.0 a) (took given.1.1.1.1.0 b) × (x.1.0.now ≡ y.1.0.now) × (x.1.1.0.now ≡ y.1.1.0.now)
take κs given a b x y p q = agreed _ (took given.1.1.1.1.0 a) (took given.1.1.1.1.0 b) _ _ _ _ _ _ _ _ _ _ p q

pub take_word :
    (κs : Lfts 4) (given : Dens κs fn.take_word.Kinds.ps) (a b : Result State Refusal)
    (x y : AtExit (ended_of 4 fn.take_word.Kinds.ps fn.take_word.Kinds.r) κs)
    → fn.take_word.Reads.Post κs given a x → fn.take_word.Reads.Post κs given b y
    → Same (took given.1.1.1.1.0 a) (took given.1.1.1.1.0 b) × (x.1.0.now ≡ y.1.0.now) × (x.1.1.0.now ≡ y.1.1.0.now)
take_word κs given a b x y p q = agreed _ (took given.1.1.1.1.0 a) (took given.1.1.1.1.0 b) _ _ _ _ _ _ _ _ _ _ p q
