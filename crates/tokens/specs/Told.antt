-- The answers of the code, each as the definition has it.
use Rattle.std.specs.Prelude.{ℕ, ◌≡◌, length, List, Result, Ok, Err}
use Rattle.chars.specs.Character.{Clean, character_at}
use Rattle.chars.specs.Refusal.{number_of}
use Rattle.chars.specs.declared.Clean.{Clean as Cleaned}
use Rattle.chars.specs.declared.refusal.Refused.{Refused as Refusing}
use Rattle.tokens.specs.Tokens.{Sort, simple, quoted, curly, Whole, Opened, shown, Token, Last, Refused}
use Rattle.tokens.specs.Runs.{refusal_of}
use Rattle.tokens.specs.declared.Sort.{Sort as Kind}
use Rattle.tokens.specs.declared.Sort.TheVariants.{Simple as IsSimple, Quoted as IsQuoted, Curly as IsCurly}
use Rattle.tokens.specs.declared.Whole.{Whole as Found}
use Rattle.tokens.specs.declared.byte.Class.{Class}
use Rattle.tokens.specs.declared.byte.Class.TheVariants.{Foreign, RightCurly, Opening, Backslash, Plain, Illegal, Comment, Atomic, Blank}
use Rattle.tokens.specs.declared.byte.Class.TheVariants.{Line}
use Rattle.tokens.specs.declared.Begun.{Begun}
use Rattle.tokens.specs.declared.Token.{Token as Answer}
use Rattle.tokens.specs.declared.Token.TheVariants.{Whole as IsWhole, Last as IsLast}

abbrev pub told_sort : Kind → Sort
told_sort IsSimple = simple
told_sort IsQuoted = quoted
told_sort IsCurly = curly

abbrev pub told_opened : Begun → Opened
told_opened o = record { sort = told_sort o.sort; place = o.place; prefix = o.prefix; from = o.from }

abbrev pub whole_of : Found → Whole
whole_of w =
    record { sort = told_sort w.sort; place = w.place; after = w.after; prefix = w.prefix; from = w.from; length = w.length }

abbrev pub told_whole : Result Found Refusing → Token
told_whole (Ok w) = shown (whole_of w)
told_whole (Err r) = Refused (number_of r.refusal) r.place

abbrev pub told_token : Result Answer Refusing → Token
told_token (Ok (IsWhole w)) = shown (whole_of w)
told_token (Ok (IsLast place after)) = Last place after
told_token (Err r) = Refused (number_of r.refusal) r.place

-- a simple token has no data
abbrev pub NoData : Found → Type 0
NoData w = w.sort ≡ IsSimple → (w.from ≡ 0) × (w.length ≡ 0)

abbrev pub NoDataIn : Answer → Type 0
NoDataIn (IsWhole w) = NoData w
NoDataIn (IsLast place after) = Unit

-- the character at a place, or what comes of it where none is there
abbrev pub CleanAt : (draft : List ℕ) → (place : ℕ) → Result Cleaned Refusing → Type 0
CleanAt draft place (Ok c) = character_at draft place ≡ Clean c.number c.after
CleanAt draft place (Err r) =
    (refusal_of (length draft) (character_at draft place) ≡ Refused (number_of r.refusal) r.place)
    × ((number after : ℕ) → character_at draft place ≡ Clean number after → ⊥)

-- a class of bytes by its number
abbrev pub class_code : Class → ℕ
class_code Foreign = 0
class_code RightCurly = 1
class_code Opening = 2
class_code Backslash = 3
class_code Plain = 4
class_code Illegal = 5
class_code Comment = 6
class_code Atomic = 7
class_code Blank = 8
class_code Line = 9
