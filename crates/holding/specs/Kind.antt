-- The numbers of the kinds of entities (document 01, "From tokens to entities").
use Rattle.std.specs.Prelude.{ℕ, ◌≡◌, ◌≢◌, Result, MatchResult}
use Rattle.holding.specs.declared.rows.Kind.{Kind}
use Rattle.holding.specs.declared.rows.Kind.TheVariants.{BeginMetacommand, EndMetacommand, MetacommandToken, MetacommandQuoted, MetacommandCurly, BeginGroup, EndGroup, Array, Number, QuotedString, CurlyString, DefineVariable, DefineConstant, Get, Put, Operation, End}

unfoldable pub kind_code : Kind → ℕ
kind_code BeginMetacommand = 1
kind_code EndMetacommand = 2
kind_code MetacommandToken = 3
kind_code MetacommandQuoted = 4
kind_code MetacommandCurly = 5
kind_code BeginGroup = 6
kind_code EndGroup = 7
kind_code Array = 8
kind_code Number = 9
kind_code QuotedString = 10
kind_code CurlyString = 11
kind_code DefineVariable = 12
kind_code DefineConstant = 13
kind_code Get = 14
kind_code Put = 15
kind_code Operation = 16
kind_code End = 17

-- the kind that has this number, or the number where none has it
abbrev pub Decodes : ℕ → Result Kind ℕ → Type 0
Decodes code r = MatchResult r (λ kind. kind_code kind ≡ code) (λ e. (e ≡ code) × ((kind : Kind) → kind_code kind ≢ code))
