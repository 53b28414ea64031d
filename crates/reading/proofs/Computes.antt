-- Naming `computes` on an `unfolding` line has every definition of this crate's specs/ compute there.
use Rattle.reading.specs.Reading.{refusal, success, before, taken, text_of, string_of, entities, read_with, answered, room_of, reading}
use Rattle.reading.specs.WellMade.{made, well_made}

unfoldable pub computes : Unit {0}
unfolding refusal success before taken text_of string_of entities read_with answered room_of reading made well_made
computes = tt
