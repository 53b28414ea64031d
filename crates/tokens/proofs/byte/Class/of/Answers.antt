-- `tokens::byte::Class::of` meets its contract: antt computes the definition at every byte of each range that the code tells by its ends,
-- and finds class 4. SP is computed alone, and `rare` ensures the rest. Assumes nothing.
use mathlib.Core.Path.{◌≡◌, refl, sym, ap}
use mathlib.Core.Bool.{true, ◌&&◌}
use Prim.Native.Nat.{ℕ, ◌<◌}
use native.Mathlib.Omega.{arith}
use lib.Dec.{ltb, eqb}
use borrow.Author.Rules.{rules}
use borrow.Author.Tests.{lt-ltb}
use Rattle.tokens.specs.Sorts.{visible, white, atomic, exclusive, inclusive, legal}
use Rattle.tokens.specs.Runs.{class_of}
use Rattle.tokens.proofs.Table.{below, if_then, constant}
use Rattle.tokens.proofs.byte.Class.of.Goals as goal

-- class 4 is all that lies between two bytes
between :
    (low high : ℕ) → below (λ k. if_then (ltb low k && ltb k high) (eqb 4 (class_of k))) 256 ≡ true
    → (b : ℕ) → b < 256 → low < b → b < high → 4 ≡ class_of b
between low high t b h g l = constant class_of 4 (λ k. ltb low k && ltb k high) t b h (rw (lt-ltb low b g, lt-ltb b high l))

pub returns-then-b-lt123 : goal.returns-then-b-lt123
unfolding class_of visible white atomic exclusive inclusive legal
returns-then-b-lt123 c = between 0x5D 0x7B refl c.args.b (search rules) (omega arith) (omega arith)

pub returns-then-b-lt91 : goal.returns-then-b-lt91
unfolding class_of visible white atomic exclusive inclusive legal
returns-then-b-lt91 c = between 0x3B 0x5B refl c.args.b (search rules) (omega arith) (omega arith)

pub returns-then-b-lt59 : goal.returns-then-b-lt59
unfolding class_of visible white atomic exclusive inclusive legal
returns-then-b-lt59 c = between 0x2C 0x3B refl c.args.b (search rules) (omega arith) (omega arith)

pub returns-then-b-eq32 : goal.returns-then-b-eq32
unfolding class_of visible white atomic exclusive inclusive legal
returns-then-b-eq32 c = ap class_of (sym c.if-b-eq32.true)
