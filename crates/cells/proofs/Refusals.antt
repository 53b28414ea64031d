-- A refusal has a number that is not 0, which is told where there is none.
use Prim.Native.Nat.{◌<◌}
use native.Mathlib.Omega.{arith}
use Rattle.chars.specs.Refusal.{number_of}
use Rattle.chars.specs.declared.refusal.Refusal.{Refusal}
use Rattle.chars.specs.declared.refusal.Refusal.TheVariants.{DraftTooLong, Malformed, UnpairedSurrogate, Nul, CarriageReturn, IllegalCharacter, DraftEnds, TokenTooLong, StringTooLong, PercentInside, SemicolonOutside, LastInMetacommand, LastInGroup, NoGroup, NoElement, NoArray, TooManyGroups, ListFull, TextFull, TableUnsound, OperationUnknown, TooFewCells, WrongKind, NoCount, NameDefined, NameUnknown, PutToConstant, NotOneCell, TooManyCells, TooManyNames, PlacePastDraft}

pub some_number : (r : Refusal) → 0 < number_of r
some_number DraftTooLong = omega arith
some_number Malformed = omega arith
some_number UnpairedSurrogate = omega arith
some_number Nul = omega arith
some_number CarriageReturn = omega arith
some_number IllegalCharacter = omega arith
some_number DraftEnds = omega arith
some_number TokenTooLong = omega arith
some_number StringTooLong = omega arith
some_number PercentInside = omega arith
some_number SemicolonOutside = omega arith
some_number LastInMetacommand = omega arith
some_number LastInGroup = omega arith
some_number NoGroup = omega arith
some_number NoElement = omega arith
some_number NoArray = omega arith
some_number TooManyGroups = omega arith
some_number ListFull = omega arith
some_number TextFull = omega arith
some_number TableUnsound = omega arith
some_number OperationUnknown = omega arith
some_number TooFewCells = omega arith
some_number WrongKind = omega arith
some_number NoCount = omega arith
some_number NameDefined = omega arith
some_number NameUnknown = omega arith
some_number PutToConstant = omega arith
some_number NotOneCell = omega arith
some_number TooManyCells = omega arith
some_number TooManyNames = omega arith
some_number PlacePastDraft = omega arith
