-- `table::zeros` meets its contract: the bits of all bytes together are 0 if and only if each byte is. Assumes nothing.
use mathlib.Core.Path.{◌≡◌}
use borrow.Author.Rules.{rules}
use lib.Bits.{bit_or}
use Rattle.std.specs.List.{fold}
use Rattle.std.proofs.Common.{tests}
use Rattle.std.proofs.lemmas.Iterator.{YieldsList-from_slice}
use Rattle.std.proofs.lemmas.Iterator.Consumers.{fold_from_yields_List}
use Rattle.table.proofs.Eight.{all_zeros}
use Rattle.table.proofs.zeros.Goals as goal

pub returns : goal.returns
returns c =
    let s = c.args.part.now in
    let joined : c.fold.result ≡ fold bit_or 0 s =
    fold_from_yields_List _ bit_or 0 c.fold.result c.fold.ensures.ran (YieldsList-from_slice s cc) (λ a x b q k. search (rules, tests)) in
    rw joined (all_zeros s)
