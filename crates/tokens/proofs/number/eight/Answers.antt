-- `tokens::number::eight` meets its contract: the library's number has the bytes that it was made of. Assumes nothing.
use mathlib.Core.Path.{◌≡◌, ◌∙◌}
use native.Mathlib.Omega.{arith}
use lib.ListN.{take, drop}
use Rattle.std.proofs.Common.{rules}
use Rattle.std.proofs.lemmas.Nat.{le_bytes_8}
use Rattle.tokens.proofs.Bytes.{same_bytes, part_small}
use Rattle.tokens.proofs.number.eight.Goals as goal

pub returns : goal.returns
returns c =
    let a = c.args in
    let e : c.unwrap.result.now ≡ take 8 (drop a.at a.draft.now) = search rules in
    let small = part_small a.draft.now c.unwrap.result.now a.at 8 e (λ i. omega (arith, c.type_inv.draft i)) in
    same_bytes 8 c.from_le_bytes.result
    ∙ (le_bytes_8 c.unwrap.result.now _ (search rules) small c.from_le_bytes.ensures ∙ e)
