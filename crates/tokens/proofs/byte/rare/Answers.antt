-- `tokens::rare` meets its contract: an arm lists the bytes of its class, or the even ones or the odd ones of them, and what no arm lists
-- has class 0. Assumes nothing.
use mathlib.Core.Path.{◌≡◌, refl, ap}
use mathlib.Core.Bool.{Bool, true, not, ◌&&◌}
use mathlib.Core.List.{List, [], ◌∷◌}
use Prim.Native.Nat.{ℕ, ◌%◌}
use lib.Dec.{eqb}
use types.Run.{OneOf}
use borrow.Author.Rules.{rules}
use borrow.Author.Tests.{eqb-true}
use Rattle.chars.proofs.Cases.{both}
use Rattle.tokens.specs.Sorts.{visible, white, atomic, exclusive, inclusive, legal}
use Rattle.tokens.specs.Runs.{class_of}
use Rattle.tokens.proofs.Table.{constant}
use Rattle.tokens.proofs.Arms.{passing, in_arm, any, in_rest}
use Rattle.tokens.proofs.byte.rare.Goals as goal

abbrev every : ℕ → Bool
every k = true

abbrev even : ℕ → Bool
even k = eqb (k % 2) 0

abbrev odd : ℕ → Bool
odd k = not (even k)

-- a byte of the class `v` that passes a test: what an arm lists
abbrev of : (ℕ → Bool) → ℕ → ℕ → Bool
of s v k = s k && eqb v (class_of k)

in_class : (s : ℕ → Bool) (v b : ℕ) → OneOf (passing (of s v) 0 256) b → v ≡ class_of b
in_class s v b h = eqb-true v (class_of b) (both (s b) (eqb v (class_of b)) (in_arm (of s v) 256 b h)).1

-- the arms, the last one first
arms : List (ℕ → Bool)
arms =
    of every 9 ∷ of every 8 ∷ of odd 7 ∷ of even 7 ∷ of every 6 ∷ of odd 5 ∷ of even 5 ∷ of odd 4 ∷ of even 4 ∷ of every 3 ∷ of every 2 ∷ of
    every 1 ∷ []

pub returns-in_default : goal.returns-in_default
unfolding arms class_of visible white atomic exclusive inclusive legal
returns-in_default c =
    let b = c.args.b in
    constant class_of 0 (λ k. not (any arms k)) refl b (search rules) (ap not (in_rest arms 256 b c.in_default.in_default-own.rest (search rules)))

pub returns-in-125 : goal.returns-in-125
unfolding class_of visible white atomic exclusive inclusive legal
returns-in-125 c = in_class every 1 c.args.b c.in-125.is

pub returns-in-34 : goal.returns-in-34
unfolding class_of visible white atomic exclusive inclusive legal
returns-in-34 c = in_class every 2 c.args.b c.in-34.is

pub returns-in-92 : goal.returns-in-92
unfolding class_of visible white atomic exclusive inclusive legal
returns-in-92 c = in_class every 3 c.args.b c.in-92.is

pub returns-in-36 : goal.returns-in-36
unfolding class_of visible white atomic exclusive inclusive legal
returns-in-36 c = in_class even 4 c.args.b c.in-36.is

pub returns-in-33 : goal.returns-in-33
unfolding class_of visible white atomic exclusive inclusive legal
returns-in-33 c = in_class odd 4 c.args.b c.in-33.is

pub returns-in-2 : goal.returns-in-2
unfolding class_of visible white atomic exclusive inclusive legal
returns-in-2 c = in_class even 5 c.args.b c.in-2.is

pub returns-in-1 : goal.returns-in-1
unfolding class_of visible white atomic exclusive inclusive legal
returns-in-1 c = in_class odd 5 c.args.b c.in-1.is

pub returns-in-35 : goal.returns-in-35
unfolding class_of visible white atomic exclusive inclusive legal
returns-in-35 c = in_class every 6 c.args.b c.in-35.is

pub returns-in-40 : goal.returns-in-40
unfolding class_of visible white atomic exclusive inclusive legal
returns-in-40 c = in_class even 7 c.args.b c.in-40.is

pub returns-in-37 : goal.returns-in-37
unfolding class_of visible white atomic exclusive inclusive legal
returns-in-37 c = in_class odd 7 c.args.b c.in-37.is

pub returns-in-9 : goal.returns-in-9
unfolding class_of visible white atomic exclusive inclusive legal
returns-in-9 c = in_class every 8 c.args.b c.in-9.is

pub returns-in-10 : goal.returns-in-10
unfolding class_of visible white atomic exclusive inclusive legal
returns-in-10 c = in_class every 9 c.args.b c.in-10.is
