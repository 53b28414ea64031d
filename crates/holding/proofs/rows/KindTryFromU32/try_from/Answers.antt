-- `Kind::try_from` meets its contract: each number is that of its variant, and past them no kind has one. Assumes nothing.
use mathlib.Core.Path.{refl, sym}
use Prim.Native.Nat.{◌<◌}
use native.Mathlib.Omega.{arith}
use Rattle.holding.specs.Kind.{kind_code}
use Rattle.holding.specs.declared.rows.Kind.{Kind}
use Rattle.holding.specs.declared.rows.Kind.TheVariants.{BeginMetacommand, EndMetacommand, MetacommandToken, MetacommandQuoted, MetacommandCurly, BeginGroup, EndGroup, Array, Number, QuotedString, CurlyString, DefineVariable, DefineConstant, Get, Put, Operation, End}
use Rattle.holding.proofs.rows.KindTryFromU32.try_from.Goals as goal

-- the numbers of kinds are 1 to 17
within : (k : Kind) → (0 < kind_code k) × (kind_code k < 18)
unfolding kind_code
within BeginMetacommand = (omega arith, omega arith)
within EndMetacommand = (omega arith, omega arith)
within MetacommandToken = (omega arith, omega arith)
within MetacommandQuoted = (omega arith, omega arith)
within MetacommandCurly = (omega arith, omega arith)
within BeginGroup = (omega arith, omega arith)
within EndGroup = (omega arith, omega arith)
within Array = (omega arith, omega arith)
within Number = (omega arith, omega arith)
within QuotedString = (omega arith, omega arith)
within CurlyString = (omega arith, omega arith)
within DefineVariable = (omega arith, omega arith)
within DefineConstant = (omega arith, omega arith)
within Get = (omega arith, omega arith)
within Put = (omega arith, omega arith)
within Operation = (omega arith, omega arith)
within End = (omega arith, omega arith)

pub returns-in-1 : goal.returns-in-1
unfolding kind_code
returns-in-1 c = sym c.in-1.is

pub returns-in-2 : goal.returns-in-2
unfolding kind_code
returns-in-2 c = sym c.in-2.is

pub returns-in-3 : goal.returns-in-3
unfolding kind_code
returns-in-3 c = sym c.in-3.is

pub returns-in-4 : goal.returns-in-4
unfolding kind_code
returns-in-4 c = sym c.in-4.is

pub returns-in-5 : goal.returns-in-5
unfolding kind_code
returns-in-5 c = sym c.in-5.is

pub returns-in-6 : goal.returns-in-6
unfolding kind_code
returns-in-6 c = sym c.in-6.is

pub returns-in-7 : goal.returns-in-7
unfolding kind_code
returns-in-7 c = sym c.in-7.is

pub returns-in-8 : goal.returns-in-8
unfolding kind_code
returns-in-8 c = sym c.in-8.is

pub returns-in-9 : goal.returns-in-9
unfolding kind_code
returns-in-9 c = sym c.in-9.is

pub returns-in-10 : goal.returns-in-10
unfolding kind_code
returns-in-10 c = sym c.in-10.is

pub returns-in-11 : goal.returns-in-11
unfolding kind_code
returns-in-11 c = sym c.in-11.is

pub returns-in-12 : goal.returns-in-12
unfolding kind_code
returns-in-12 c = sym c.in-12.is

pub returns-in-13 : goal.returns-in-13
unfolding kind_code
returns-in-13 c = sym c.in-13.is

pub returns-in-14 : goal.returns-in-14
unfolding kind_code
returns-in-14 c = sym c.in-14.is

pub returns-in-15 : goal.returns-in-15
unfolding kind_code
returns-in-15 c = sym c.in-15.is

pub returns-in-16 : goal.returns-in-16
unfolding kind_code
returns-in-16 c = sym c.in-16.is

pub returns-in-17 : goal.returns-in-17
unfolding kind_code
returns-in-17 c = sym c.in-17.is

pub returns-in_default : goal.returns-in_default
returns-in_default c =
    (refl, λ k e. let w = within k in omega arith)
