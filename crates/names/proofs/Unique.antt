-- No second answer meets the contract of a public function of `names`.
use mathlib.Core.Path.{◌≡◌, refl, sym, ◌∙◌}
use mathlib.Core.List.{[], ◌∷◌}
use Prim.Native.Nat.{ℕ}
use Rattle.std.proofs.Common.{Option, Some, None, arith}
use Rattle.chars.proofs.Only.{one, with_buffer, OneAnswer, OneOutcome}
use Rattle.names.specs.Index.{found_of}
use Rattle.names.proofs as fn

-- entries that are counted alike are the same
counted_once : (a b : Option ℕ) → found_of a ≡ found_of b → a ≡ b
counted_once None None e = refl
counted_once None (Some j) e = absurd (omega arith)
counted_once (Some i) None e = absurd (omega arith)
counted_once (Some i) (Some j) e = let same : i ≡ j = omega arith in rw same

pub marked : OneAnswer fn.marked.Kinds.ps fn.marked.Kinds.r fn.marked.Reads.Post
marked κs given a b x y p q = one p.0 q.0

pub find : OneAnswer fn.find.Kinds.ps fn.find.Kinds.r fn.find.Reads.Post
find κs given a b x y p q = one (counted_once a b (p.0 ∙ sym q.0)) refl

pub enter : OneOutcome fn.enter.Kinds.ps fn.enter.Kinds.r fn.enter.Reads.Post (λ κs x. x.0.now ∷ [])
enter κs given a b x y p q = with_buffer (refl, p) (refl, q)
