-- Naming `computes` on an `unfolding` line has every definition of this crate's specs/ compute there.
use Rattle.chars.specs.Character.{continued, lowest, highest, sequence, paired, judged, carriage, character, character_at}
use Rattle.chars.specs.Character.{encoded, nearest, padded, told}
use Rattle.chars.specs.Stream.{begun, stream, stream_at, start, clean}
use Rattle.chars.specs.Rfc3629.{utf8_1, utf8_2, utf8_3, utf8_4, utf8_char}

unfoldable pub computes : Unit {0}
unfolding continued lowest highest sequence paired judged carriage character character_at encoded nearest padded told begun stream stream_at start
    clean utf8_1 utf8_2 utf8_3 utf8_4 utf8_char
computes = tt
