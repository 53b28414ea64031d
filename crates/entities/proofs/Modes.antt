-- What a test of a mode says: the derived `==` with a mode is the test of that mode. No two modes have the same tests.
use mathlib.Core.Path.{◌≡◌, refl, sym, ◌∙◌}
use mathlib.Core.Bool.{Bool}
use Rattle.std.specs.Prelude.{if◌then◌else◌}
use denote.Enum.Bare.{sameb}
use Rattle.entities.specs.Stepping.{bracketed, commanded}
use Rattle.entities.specs.declared.state.Mode.{Mode}
use Rattle.entities.specs.declared.state.Mode.TheVariants.{Regular, Bracket, Metacommand}
use Rattle.entities.specs.contracts.state.Mode.{the_type}

is_bracketed : (m : Mode) → bracketed m ≡ sameb the_type m Bracket
is_bracketed Regular = refl
is_bracketed Bracket = refl
is_bracketed Metacommand = refl

is_commanded : (m : Mode) → commanded m ≡ sameb the_type m Metacommand
is_commanded Regular = refl
is_commanded Bracket = refl
is_commanded Metacommand = refl

-- the test `t` of a mode came out as `b`
module _ (m : Mode) (t b : Bool) where
  pub so_bracketed : t ≡ sameb the_type m Bracket → t ≡ b → bracketed m ≡ b
  so_bracketed told is = is_bracketed m ∙ (rw told at is)

  pub so_commanded : t ≡ sameb the_type m Metacommand → t ≡ b → commanded m ≡ b
  so_commanded told is = is_commanded m ∙ (rw told at is)

-- the mode that has these tests
abbrev tested : (brackets commands : Bool) → Mode
tested brackets commands = if brackets then Bracket else if commands then Metacommand else Regular

again : (m : Mode) → tested (bracketed m) (commanded m) ≡ m
again Regular = refl
again Bracket = refl
again Metacommand = refl

pub same_mode : (m k : Mode) → bracketed m ≡ bracketed k → commanded m ≡ commanded k → m ≡ k
same_mode m k brackets commands = sym (again m) ∙ (rw (brackets, commands) (again k))
