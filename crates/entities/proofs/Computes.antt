-- Naming `computes` on an `unfolding` line has every definition of this crate's specs/ compute there.
use Rattle.entities.specs.Entity.{kind_number, bare, size, sizes, texts, rows}
use Rattle.entities.specs.Making.{within_groups, adds, group_begins, group_ends, element_ends, counted, array_ends, named, word}
use Rattle.entities.specs.Making.{regular, command, string_kind, literal, closing, judged, judged_last, shortage, fitted, handled}
use Rattle.entities.specs.Judging.{kind_of, bares, cut, filled, counting, written, text_written, cut_from, cut_length}
use Rattle.entities.specs.Judging.{word_kind, text_kind, cut_of}
use Rattle.entities.specs.Stepping.{open_groups, below, judged_as, closing_as, reader_of, room_left, agrees, took, structural, worded}

unfoldable pub computes : Unit {0}
unfolding kind_number bare size sizes texts rows within_groups adds group_begins group_ends element_ends counted array_ends named word
    regular command string_kind literal closing judged judged_last shortage fitted handled kind_of bares cut filled counting written
    text_written cut_from cut_length word_kind text_kind cut_of open_groups below judged_as closing_as reader_of room_left agrees took structural
    worded
computes = tt
