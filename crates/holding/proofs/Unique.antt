-- No second content of a buffer meets the contract of a public function of `holding`.
use mathlib.Core.Path.{◌≡◌, refl, sym, ◌∙◌, ap}
use Prim.Native.Nat.{ℕ}
use Rattle.std.proofs.Common.{Result, Ok, Err}
use mathlib.Core.List.{[], ◌∷◌}
use Rattle.chars.proofs.Only.{one, with_buffer, OneAnswer, OneOutcome}
use Rattle.holding.specs.Kind.{Decodes}
use Rattle.holding.specs.declared.rows.Kind.{Kind}
use Rattle.holding.proofs.Coded.{same_kind}
use Rattle.holding.proofs as fn

pub code : OneAnswer fn.rows.Kind.code.Kinds.ps fn.rows.Kind.code.Kinds.r fn.rows.Kind.code.Reads.Post
code κs given a b x y p q = one p q

-- a number tells its kind, and where there is none is handed back
decoded : (n : ℕ) (a b : Result Kind ℕ) → Decodes n a → Decodes n b → a ≡ b
decoded n (Ok k) (Ok l) p q = ap Ok (same_kind k l (p ∙ sym q))
decoded n (Ok k) (Err e) p q = absurd (q.1 k p)
decoded n (Err d) (Ok k) p q = absurd (p.1 k q)
decoded n (Err d) (Err e) p q = ap Err (one p.0 q.0)

pub try_from :
    OneAnswer fn.rows.KindTryFromU32.try_from.Kinds.ps fn.rows.KindTryFromU32.try_from.Kinds.r
    fn.rows.KindTryFromU32.try_from.Reads.Post
try_from κs given a b x y p q = decoded _ a b p q

pub bare : OneAnswer fn.rows.Row.bare.Kinds.ps fn.rows.Row.bare.Kinds.r fn.rows.Row.bare.Reads.Post
bare κs given a b x y p q = one p q

pub row : OneOutcome fn.rows.Row.write.Kinds.ps fn.rows.Row.write.Kinds.r fn.rows.Row.write.Reads.Post (λ κs x. x.1.0.now ∷ [])
row κs given a b x y p q = with_buffer (refl, p) (refl, q)

pub as_it_stands :
    OneOutcome fn.text.as_it_stands.Kinds.ps fn.text.as_it_stands.Kinds.r fn.text.as_it_stands.Reads.Post
    (λ κs x. x.1.0.now ∷ [])
as_it_stands κs given a b x y p q = with_buffer (refl, p) (refl, q)

pub word_as_it_stands :
    OneOutcome fn.text.word_as_it_stands.Kinds.ps fn.text.word_as_it_stands.Kinds.r fn.text.word_as_it_stands.Reads.Post
    (λ κs x. x.1.0.now ∷ [])
word_as_it_stands κs given a b x y p q = with_buffer (refl, p) (refl, q)

pub fill : OneOutcome fn.text.fill.Kinds.ps fn.text.fill.Kinds.r fn.text.fill.Reads.Post (λ κs x. x.1.1.1.1.0.now ∷ [])
fill κs given a b x y p q = with_buffer (refl, p) (refl, q)
