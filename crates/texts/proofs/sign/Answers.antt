-- `texts::sign` meets its contract: kinds 12 to 15 are those of names. Assumes nothing.
use mathlib.Core.Path.{◌≡◌, refl}
use mathlib.Core.Bool.{true, false}
use mathlib.Core.Logic.{inl, inr}
use Prim.Native.Nat.{ℕ}
use native.Mathlib.Omega.{arith}
use Rattle.chars.specs.Choice.{within}
use Rattle.holding.specs.Kind.{kind_code}
use Rattle.holding.specs.declared.rows.Kind.{Kind}
use Rattle.holding.specs.declared.rows.Kind.TheVariants.{BeginMetacommand, EndMetacommand, MetacommandToken, MetacommandQuoted, MetacommandCurly, BeginGroup, EndGroup, Array, Number, QuotedString, CurlyString, DefineVariable, DefineConstant, Get, Put, Operation, End}
use Rattle.entities.specs.Judging.{cut_of, cut_from, cut_length}
use Rattle.texts.proofs.OneEntity.{Cuts}
use Rattle.texts.proofs.sign.Goals as goal

all_kept : (kind : ℕ) → within 12 15 kind ≡ false → Cuts kind 0
unfolding cut_of cut_from cut_length
all_kept kind t place prefix = (rw t (omega arith), rw t (omega arith))

one_left : (kind : ℕ) → within 12 15 kind ≡ true → Cuts kind 1
unfolding cut_of cut_from cut_length
one_left kind t place prefix = (rw t, rw t)

other :
    (k : Kind) → (k ≡ DefineVariable → ⊥) → (k ≡ DefineConstant → ⊥) → (k ≡ Get → ⊥) → (k ≡ Put → ⊥)
    → within 12 15 (kind_code k) ≡ false
unfolding kind_code
other BeginMetacommand v w g p = refl
other EndMetacommand v w g p = refl
other MetacommandToken v w g p = refl
other MetacommandQuoted v w g p = refl
other MetacommandCurly v w g p = refl
other BeginGroup v w g p = refl
other EndGroup v w g p = refl
other Array v w g p = refl
other Number v w g p = refl
other QuotedString v w g p = refl
other CurlyString v w g p = refl
other DefineVariable v w g p = absurd (v refl)
other DefineConstant v w g p = absurd (w refl)
other Get v w g p = absurd (g refl)
other Put v w g p = absurd (p refl)
other Operation v w g p = refl
other End v w g p = refl

pub returns-in-DefineVariable : goal.returns-in-DefineVariable
unfolding kind_code
returns-in-DefineVariable c = (
  elim c.in-DefineVariable.is [
    | inl v ↦ rw v (one_left 12 refl)
    | inr w ↦ elim w [
      | inl x ↦ rw x (one_left 13 refl)
      | inr y ↦ elim y [
        | inl g ↦ rw g (one_left 14 refl)
        | inr p ↦ rw p (one_left 15 refl)
      ]
    ]
  ],
  omega arith,
)

pub returns-in_default : goal.returns-in_default
returns-in_default c =
    let k = c.args.kind in
    let no = c.in_default in
    (all_kept (kind_code k) (other k no.not-DefineVariable no.not-DefineConstant no.not-Get no.not-Put), omega arith)
