-- No two kinds have the same number: each is the entry that its number has in a list of them.
use mathlib.Core.Path.{◌≡◌, refl, sym, ◌∙◌, ap}
use mathlib.Core.List.{List, [], ◌∷◌}
use Prim.Native.Nat.{ℕ}
use lib.ListN.{get_or}
use Rattle.holding.specs.Kind.{kind_code}
use Rattle.holding.specs.declared.rows.Kind.{Kind}
use Rattle.holding.specs.declared.rows.Kind.TheVariants.{BeginMetacommand, EndMetacommand, MetacommandToken, MetacommandQuoted, MetacommandCurly, BeginGroup, EndGroup, Array, Number, QuotedString, CurlyString, DefineVariable, DefineConstant, Get, Put, Operation, End}

-- none has the number 0
abbrev listed : List Kind
listed =
    BeginMetacommand ∷ BeginMetacommand ∷ EndMetacommand ∷ MetacommandToken ∷ MetacommandQuoted ∷ MetacommandCurly ∷ BeginGroup ∷ EndGroup ∷ Array ∷ Number ∷ QuotedString ∷ CurlyString ∷ DefineVariable ∷ DefineConstant ∷ Get ∷ Put ∷ Operation ∷ End ∷ []

abbrev named : (n : ℕ) → Kind
named n = get_or listed n End

again : (k : Kind) → named (kind_code k) ≡ k
unfolding kind_code
again BeginMetacommand = refl
again EndMetacommand = refl
again MetacommandToken = refl
again MetacommandQuoted = refl
again MetacommandCurly = refl
again BeginGroup = refl
again EndGroup = refl
again Array = refl
again Number = refl
again QuotedString = refl
again CurlyString = refl
again DefineVariable = refl
again DefineConstant = refl
again Get = refl
again Put = refl
again Operation = refl
again End = refl

pub same_kind : (k l : Kind) → kind_code k ≡ kind_code l → k ≡ l
same_kind k l e = sym (again k) ∙ ap named e ∙ again l
