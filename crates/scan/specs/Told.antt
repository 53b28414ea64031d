-- What the code finds at a place, taken apart.
use Rattle.std.specs.Prelude.{ℕ, Result, Ok, Err}
use Rattle.chars.specs.Refusal.{number_of}
use Rattle.chars.specs.declared.refusal.Refused.{Refused}
use Rattle.tokens.specs.declared.Sort.{Sort}
use Rattle.tokens.specs.declared.Sort.TheVariants.{Simple, Quoted, Curly}
use Rattle.tokens.specs.declared.Token.TheVariants.{Whole, Last}
use Rattle.scan.specs.Found.{Piece}
use Rattle.scan.specs.declared.Piece.{Piece as Told}
use Rattle.scan.specs.declared.Piece.TheVariants.{Blank, Token}

abbrev pub sort_code : Sort → ℕ
sort_code Simple = 0
sort_code Quoted = 1
sort_code Curly = 2

-- a part that it has not is 0
abbrev pub told_piece : Result Told Refused → Piece
told_piece (Ok (Blank after)) = record { sort = 5; place = 0; after = after; prefix = 0; from = 0; bytes = 0; number = 0 }
told_piece (Ok (Token (Whole w))) =
    record {
      sort = sort_code w.sort;
      place = w.place;
      after = w.after;
      prefix = w.prefix;
      from = w.from;
      bytes = w.length;
      number = 0;
    }
told_piece (Ok (Token (Last place after))) =
    record { sort = 3; place = place; after = after; prefix = 0; from = 0; bytes = 0; number = 0 }
told_piece (Err r) =
    record { sort = 4; place = r.place; after = 0; prefix = 0; from = 0; bytes = 0; number = number_of r.refusal }
