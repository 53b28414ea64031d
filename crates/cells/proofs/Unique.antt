-- No second answer meets the contract of `check_kept`.
use mathlib.Core.Path.{◌≡◌, refl, ap}
use Prim.Native.Nat.{ℕ}
use native.Mathlib.Omega.{arith}
use Rattle.std.proofs.Common.{Result, Ok, Err}
use Rattle.chars.specs.declared.refusal.Refusal.{Refusal}
use Rattle.chars.proofs.Numbers.{same_number}
use Rattle.chars.proofs.Only.{one, OneAnswer}
use Rattle.cells.specs.Kept.{ended_of}
use Rattle.cells.proofs.Refusals.{some_number}
use Rattle.cells.specs.declared.Passed.{Passed}
use Rattle.cells.specs.declared.Stopped.{Stopped}
use Rattle.cells.proofs as fn

-- an answer is told by its numbers
passed : (p : Passed) (steps cells : ℕ) → steps ≡ p.steps → cells ≡ p.cells → ◌≡◌ {A = Passed} (record { steps = steps; cells = cells }) p
passed p steps cells s c = rw (s, c) refl

stopped :
    (s : Stopped) (refusal : Refusal) (place steps : ℕ) → refusal ≡ s.refusal → place ≡ s.place → steps ≡ s.steps
    → ◌≡◌ {A = Stopped} (record { refusal = refusal; place = place; steps = steps }) s
stopped s refusal place steps r p t = rw (r, p, t) refl

same : (a b : Result Passed Stopped) → ended_of a ≡ ended_of b → a ≡ b
unfolding ended_of
same (Ok p) (Ok q) e = ap Ok (passed q p.steps p.cells (ap (λ r. r.steps) e) (ap (λ r. r.cells) e))
same (Ok p) (Err s) e = let z = ap (λ r. r.number) e in absurd (omega (arith, z, some_number s.refusal))
same (Err s) (Ok p) e = let z = ap (λ r. r.number) e in absurd (omega (arith, z, some_number s.refusal))
same (Err s) (Err t) e =
    ap Err (stopped t s.refusal s.place s.steps (same_number s.refusal t.refusal (ap (λ r. r.number) e)) (ap (λ r. r.place) e)
    (ap (λ r. r.steps) e))

pub check_kept_lem : OneAnswer fn.check_kept.Kinds.ps fn.check_kept.Kinds.r fn.check_kept.Reads.Post
check_kept_lem κs given a b x y p q = same a b (one p q)
