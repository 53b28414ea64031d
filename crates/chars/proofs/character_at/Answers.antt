-- `chars::character_at` meets its contract: a byte of US-ASCII that is neither nul nor CR is a character by itself. Assumes nothing.
use mathlib.Core.Path.{sym}
use native.Mathlib.Omega.{arith}
use Rattle.chars.proofs.Characters.{at_ascii}
use Rattle.chars.proofs.character_at.Goals as goal

pub returns-in_default : goal.returns-in_default
returns-in_default c =
    let a = c.args in
    rw c.from.ensures (sym (at_ascii a.draft.now a.at (omega arith) (λ z. omega (arith, z)) (λ z. omega (arith, z)) (omega arith)))
