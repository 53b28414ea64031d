-- Each variant's code in the source is its number.
use Rattle.std.proofs.Common.{◌+◌, ◌≡◌}
use mathlib.Core.Path.{refl}
use denote.Enum.Declared.{tag_of}
use Rattle.holding.specs.Kind.{kind_code}
use Rattle.holding.specs.contracts.rows.Kind.{the_type}
use Rattle.holding.specs.declared.rows.Kind.{Kind}
use Rattle.holding.specs.declared.rows.Kind.TheVariants.{BeginMetacommand, EndMetacommand, MetacommandToken, MetacommandQuoted, MetacommandCurly, BeginGroup, EndGroup, Array, Number, QuotedString, CurlyString, DefineVariable, DefineConstant, Get, Put, Operation, End}
use Rattle.holding.proofs.rows.Kind.code.Goals as goal

by_variant : (k : Kind) → tag_of the_type k + 1 ≡ kind_code k
unfolding kind_code
by_variant BeginMetacommand = refl
by_variant EndMetacommand = refl
by_variant MetacommandToken = refl
by_variant MetacommandQuoted = refl
by_variant MetacommandCurly = refl
by_variant BeginGroup = refl
by_variant EndGroup = refl
by_variant Array = refl
by_variant Number = refl
by_variant QuotedString = refl
by_variant CurlyString = refl
by_variant DefineVariable = refl
by_variant DefineConstant = refl
by_variant Get = refl
by_variant Put = refl
by_variant Operation = refl
by_variant End = refl

pub returns : goal.returns
returns c = by_variant c.args.self
