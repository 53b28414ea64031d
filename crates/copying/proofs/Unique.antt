-- No second answer, and no second content of the part, meets the contract of `copy` or of `put_four`. `pair_within` may say nothing where a
-- pair stands.
use mathlib.Core.Path.{◌≡◌, refl}
use Prim.Native.Nat.{ℕ}
use Rattle.std.specs.Prelude.{Result, Ok, Err}
use Rattle.copying.specs.Copy.{told}
use Rattle.copying.specs.declared.TooSmall.{TooSmall as TooSmallPart}
use mathlib.Core.List.{[], ◌∷◌}
use Rattle.chars.proofs.Only.{with_buffer, OneOutcome}
use Rattle.copying.proofs as fn

-- answers that tell the same are the same
one_told : (a b : Result ℕ TooSmallPart) → told a ≡ told b → a ≡ b
unfolding told
one_told (Ok m) (Ok n) e = cc
one_told (Ok m) (Err n) e = cc
one_told (Err m) (Ok n) e = cc
one_told (Err m) (Err n) e = refl

pub copy : OneOutcome fn.copy.Kinds.ps fn.copy.Kinds.r fn.copy.Reads.Post (λ κs x. x.1.1.1.0.now ∷ [])
copy κs given a b x y p q = let same = with_buffer p q in (one_told a b same.0, same.1)

pub put_four : OneOutcome fn.put_four.Kinds.ps fn.put_four.Kinds.r fn.put_four.Reads.Post (λ κs x. x.0.now ∷ [])
put_four κs given a b x y p q = with_buffer (refl, p) (refl, q)
