-- `texts::listed_kind` meets its contract: antt computes the definition and what the code makes of three lists at every byte. Assumes
-- nothing.
use mathlib.Core.Bool.{◌&&◌}
use mathlib.Core.List.{[], ◌∷◌}
use mathlib.Core.Path.{refl}
use Prim.Native.Nat.{ℕ, ◌+◌, ◌-◌, ◌*◌, ◌/◌, ◌^◌}
use lib.Bits.{bit_and}
use lib.Dec.{eqb, leb}
use borrow.Author.Tests.{eqb-true, le-leb}
use borrow.Author.Rules.{rules}
use Rattle.std.proofs.Common.{slice_index_or}
use Rattle.tokens.proofs.Table.{implied}
use Rattle.holding.specs.Kind.{kind_code}
use Rattle.holding.specs.declared.rows.Kind.TheVariants.{BeginMetacommand, Number, DefineVariable, DefineConstant, Get, Put, Operation}
use Rattle.entities.specs.Judging.{word_kind}
use Rattle.texts.proofs.listed_kind.Goals as goal

-- the number of the kind that is made of a byte
unfoldable made : ℕ → ℕ
unfolding kind_code
made b =
    let bit : ℕ → ℕ = λ list. bit_and (list / 2 ^ (b - 0x21)) 1 in
    kind_code
    (slice_index_or (Operation ∷ Put ∷ Get ∷ DefineConstant ∷ DefineVariable ∷ Number ∷ Number ∷ Number ∷ [])
    (bit 0x83FF9400 + 2 * bit 0x91FF9400 + 4 * bit 0x41FF9400) BeginMetacommand)

pub returns : goal.returns
unfolding word_kind made kind_code
returns c =
    let b = c.args.c in
    rw (c.listed.ensures.0, c.listed-2.ensures.0, c.listed-3.ensures.0)
    (eqb-true (made b) (word_kind b) (implied (λ k. leb 0x21 k && leb k 0x60) (λ k. eqb (made k) (word_kind k)) 256 refl b (search rules)
    (rw (le-leb 0x21 b c.requires.0, le-leb b 0x60 c.requires.1))))
