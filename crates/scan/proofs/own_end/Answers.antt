-- `scan::own_end` meets its contract: a word or a prefix ends where its own bytes do. Assumes nothing.
use Rattle.scan.proofs.Starts.{begun_word, word_ends, word_goes}
use Rattle.scan.proofs.own_end.Goals as goal

pub line_ended-requires : goal.line_ended-requires
line_ended-requires c =
    let a = c.args in
    let w = c.in_ok-stop.ensures in
    (w.on, w.there, word_goes a.draft.now a.at _ _ (begun_word a.draft.now a.at c.requires.0 c.requires.1) w)

pub returns-in-Some : goal.returns-in-Some
returns-in-Some c =
    let a = c.args in
    word_ends a.draft.now a.at _ _ (begun_word a.draft.now a.at c.requires.0 c.requires.1) (rw c.in-Some.is at c.in_ok-stop.ensures)
