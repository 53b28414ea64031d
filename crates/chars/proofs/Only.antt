-- No second answer: what it means of a contract as the source states it, and the law that shows it where the contract is an equation.
-- `ps` and `r` are what a function takes and hands back, and `Post` its contract: of what is given, of the answer and of what the buffers
-- hold at exit.
use Prim.Native.Nat.{ℕ}
use mathlib.Core.Path.{◌≡◌, sym, ◌∙◌}
use mathlib.Core.List.{List, [], ◌∷◌}
use contract.Lifetimes.{Lfts}
use borrow.Fn.Kinds.{ParamKind, ResultKind, Out, Dens, res_t, ended_of}
use denote.Triple.Clauses.{AtExit}

-- what meets the same equation is the same
pub one : {A : Type 0} {a b is : A} → a ≡ is → b ≡ is → a ≡ b
one p q = p ∙ sym q

-- likewise an answer and a buffer, and an answer and two buffers
pub with_buffer :
    {A B : Type 0} {a b is : A} {l m holds : B} → (a ≡ is) × (l ≡ holds) → (b ≡ is) × (m ≡ holds)
    → (a ≡ b) × (l ∷ [] ≡ m ∷ [])
with_buffer p q = (one p.0 q.0, rw (one p.1 q.1))

pub with_buffers :
    {A B : Type 0} {a b is : A} {l m holds t u keeps : B} → (a ≡ is) × ((l ≡ holds) × (t ≡ keeps))
    → (b ≡ is) × ((m ≡ holds) × (u ≡ keeps)) → (a ≡ b) × (l ∷ t ∷ [] ≡ m ∷ u ∷ [])
with_buffers p q = (one p.0 q.0, rw (one p.1.0 q.1.0, one p.1.1 q.1.1))

module _ {n : ℕ} (ps : List (ParamKind n)) (r : ResultKind n) (Post : Out n ps r) where
  -- two answers to one call that meet the contract are the same
  abbrev pub OneAnswer : Type 0
  OneAnswer =
      (κs : Lfts n) (given : Dens κs ps) (a b : (res_t r κs).Denot) (x y : AtExit (ended_of n ps r) κs)
      → Post κs given a x → Post κs given b y → a ≡ b

  -- and so is what each of some buffers holds afterwards
  abbrev pub OneOutcome : ((κs : Lfts n) → AtExit (ended_of n ps r) κs → List (List ℕ)) → Type 0
  OneOutcome held =
      (κs : Lfts n) (given : Dens κs ps) (a b : (res_t r κs).Denot) (x y : AtExit (ended_of n ps r) κs)
      → Post κs given a x → Post κs given b y → (a ≡ b) × (held κs x ≡ held κs y)
