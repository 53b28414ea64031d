-- The numbers of refusal (document 01, "Numbers of refusal").
use Rattle.std.specs.Prelude.{ℕ}
use Rattle.chars.specs.declared.refusal.Refusal.{Refusal}
use Rattle.chars.specs.declared.refusal.Refusal.TheVariants.{DraftTooLong, Malformed, UnpairedSurrogate, Nul, CarriageReturn}
use Rattle.chars.specs.declared.refusal.Refusal.TheVariants.{IllegalCharacter, DraftEnds, TokenTooLong, StringTooLong, PercentInside}
use Rattle.chars.specs.declared.refusal.Refusal.TheVariants.{SemicolonOutside, LastInMetacommand, LastInGroup, NoGroup, NoElement}
use Rattle.chars.specs.declared.refusal.Refusal.TheVariants.{NoArray, TooManyGroups, ListFull, TextFull, TableUnsound, OperationUnknown}
use Rattle.chars.specs.declared.refusal.Refusal.TheVariants.{TooFewCells, WrongKind, NoCount, NameDefined, NameUnknown, PutToConstant}
use Rattle.chars.specs.declared.refusal.Refusal.TheVariants.{NotOneCell, TooManyCells, TooManyNames, PlacePastDraft}

abbrev pub number_of : Refusal → ℕ
number_of DraftTooLong = 1
number_of Malformed = 2
number_of UnpairedSurrogate = 3
number_of Nul = 4
number_of CarriageReturn = 5
number_of IllegalCharacter = 6
number_of DraftEnds = 7
number_of TokenTooLong = 8
number_of StringTooLong = 9
number_of PercentInside = 10
number_of SemicolonOutside = 11
number_of LastInMetacommand = 12
number_of LastInGroup = 13
number_of NoGroup = 14
number_of NoElement = 15
number_of NoArray = 16
number_of TooManyGroups = 17
number_of ListFull = 18
number_of TextFull = 19
number_of TableUnsound = 20
number_of OperationUnknown = 21
number_of TooFewCells = 22
number_of WrongKind = 23
number_of NoCount = 24
number_of NameDefined = 25
number_of NameUnknown = 26
number_of PutToConstant = 27
number_of NotOneCell = 28
number_of TooManyCells = 29
number_of TooManyNames = 30
number_of PlacePastDraft = 31
