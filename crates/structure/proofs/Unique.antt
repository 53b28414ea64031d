-- What a token comes to is told by `agrees`, which leaves open what a state says behind a refusal: there are no two answers that differ in
-- the refusal, in what is held or in the list.
use mathlib.Core.Path.{◌≡◌, refl}
use mathlib.Core.List.{List, [], ◌∷◌}
use Prim.Native.Nat.{ℕ}
use contract.Lifetimes.{Lfts}
use borrow.Fn.Kinds.{Dens, ended_of}
use denote.Triple.Clauses.{AtExit}
use Rattle.std.specs.Prelude.{Result}
use Rattle.chars.specs.declared.refusal.Refusal.{Refusal}
use Rattle.entities.specs.Stepping.{Ready, took}
use Rattle.entities.specs.declared.state.State.{State}
use Rattle.entities.proofs.Unique.{Same, agreed_bare}
use Rattle.structure.proofs as fn

-- These ask for what is held so far, and their contracts speak of any text buffer that it fits: with one there are no two answers.
pub last :
    (κs : Lfts 2) (given : Dens κs fn.last.last.Kinds.ps) (a b : Result State Refusal)
    (x y : AtExit (ended_of 2 fn.last.last.Kinds.ps fn.last.last.Kinds.r) κs) (text : List ℕ)
    → Ready given.1.1.0 given.0.now text given.1.0.now given.1.1.1.0 → fn.last.last.Reads.Post κs given a x
    → fn.last.last.Reads.Post κs given b y → Same (took given.1.1.0 a) (took given.1.1.0 b) × (x.0.now ≡ y.0.now)
last κs given a b x y text ready p q =
    agreed_bare _ (took given.1.1.0 a) (took given.1.1.0 b) _ _ _ _ _ _ _ _ _ _ (p text ready) (q text ready)

pub structure :
    (κs : Lfts 2) (given : Dens κs fn.structure.Kinds.ps) (a b : Result State Refusal)
    (x y : AtExit (ended_of 2 fn.structure.Kinds.ps fn.structure.Kinds.r) κs) (text : List ℕ)
    → Ready given.1.1.0 given.0.now text given.1.0.now given.1.1.1.1.0
    → fn.structure.Reads.Post κs given a x → fn.structure.Reads.Post κs given b y
    → Same (took given.1.1.0 a) (took given.1.1.0 b) × (x.0.now ≡ y.0.now)
structure κs given a b x y text ready p q =
    let c = given.1.1.1.0 in
    agreed_bare _ (took given.1.1.0 a) (took given.1.1.0 b) _ _ _ _ _ _ _ _ _ _ (p (c ∷ []) text refl ready) (q (c ∷ []) text refl ready)
