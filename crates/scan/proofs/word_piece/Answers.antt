-- `scan::word_piece` meets its contract: where the prefix has ended, a string is opened. Assumes nothing.
use mathlib.Core.Path.{refl}
use Rattle.scan.specs.Opens.{how_code}
use Rattle.scan.proofs.word_piece.Goals as goal

pub string_piece-requires : goal.string_piece-requires
unfolding how_code
string_piece-requires c =
    let known = rw (c.in_ok-e.was, c.in-Prefix.is) at c.requires in
    (known.on, known.there, known.opened refl)
