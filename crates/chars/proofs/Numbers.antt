-- No two refusals have the same number: each is the entry that its number has in a list of them. So the definition tells any two answers
-- of the code apart.
use mathlib.Core.Path.{◌≡◌, refl, sym, ◌∙◌, ap}
use mathlib.Core.List.{List, [], ◌∷◌}
use Prim.Native.Nat.{ℕ}
use lib.ListN.{get_or}
use Rattle.std.specs.Prelude.{Option, Some, None, Result, Ok, Err}
use Rattle.chars.specs.Character.{seen}
use Rattle.chars.specs.Refusal.{number_of}
use Rattle.chars.specs.declared.Clean.{Clean as Cleaned}
use Rattle.chars.specs.declared.refusal.Refused.{Refused as Refusing}
use Rattle.chars.specs.declared.refusal.Refusal.{Refusal}
use Rattle.chars.specs.declared.refusal.Refusal.TheVariants.{DraftTooLong, Malformed, UnpairedSurrogate, Nul, CarriageReturn}
use Rattle.chars.specs.declared.refusal.Refusal.TheVariants.{IllegalCharacter, DraftEnds, TokenTooLong, StringTooLong, PercentInside}
use Rattle.chars.specs.declared.refusal.Refusal.TheVariants.{SemicolonOutside, LastInMetacommand, LastInGroup, NoGroup, NoElement}
use Rattle.chars.specs.declared.refusal.Refusal.TheVariants.{NoArray, TooManyGroups, ListFull, TextFull, TableUnsound, OperationUnknown}
use Rattle.chars.specs.declared.refusal.Refusal.TheVariants.{TooFewCells, WrongKind, NoCount, NameDefined, NameUnknown, PutToConstant}
use Rattle.chars.specs.declared.refusal.Refusal.TheVariants.{NotOneCell, TooManyCells, TooManyNames, PlacePastDraft}

-- none has the number 0
abbrev listed : List Refusal
listed =
    DraftTooLong ∷ DraftTooLong ∷ Malformed ∷ UnpairedSurrogate ∷ Nul ∷ CarriageReturn ∷ IllegalCharacter ∷ DraftEnds ∷ TokenTooLong
    ∷ StringTooLong ∷ PercentInside ∷ SemicolonOutside ∷ LastInMetacommand ∷ LastInGroup ∷ NoGroup ∷ NoElement ∷ NoArray ∷ TooManyGroups
    ∷ ListFull ∷ TextFull ∷ TableUnsound ∷ OperationUnknown ∷ TooFewCells ∷ WrongKind ∷ NoCount ∷ NameDefined ∷ NameUnknown
    ∷ PutToConstant ∷ NotOneCell ∷ TooManyCells ∷ TooManyNames ∷ PlacePastDraft ∷ []

abbrev named : (n : ℕ) → Refusal
named n = get_or listed n DraftTooLong

again : (r : Refusal) → named (number_of r) ≡ r
again DraftTooLong = refl
again Malformed = refl
again UnpairedSurrogate = refl
again Nul = refl
again CarriageReturn = refl
again IllegalCharacter = refl
again DraftEnds = refl
again TokenTooLong = refl
again StringTooLong = refl
again PercentInside = refl
again SemicolonOutside = refl
again LastInMetacommand = refl
again LastInGroup = refl
again NoGroup = refl
again NoElement = refl
again NoArray = refl
again TooManyGroups = refl
again ListFull = refl
again TextFull = refl
again TableUnsound = refl
again OperationUnknown = refl
again TooFewCells = refl
again WrongKind = refl
again NoCount = refl
again NameDefined = refl
again NameUnknown = refl
again PutToConstant = refl
again NotOneCell = refl
again TooManyCells = refl
again TooManyNames = refl
again PlacePastDraft = refl

pub same_number : (a b : Refusal) → number_of a ≡ number_of b → a ≡ b
same_number a b e = sym (again a) ∙ ap named e ∙ again b

-- likewise a refusal with its place
pub same_refused : (r s : Refusing) → number_of r.refusal ≡ number_of s.refusal → r.place ≡ s.place → r ≡ s
same_refused r s e p = by_parts r.refusal r.place (same_number r.refusal s.refusal e) p
  where
    by_parts : (refusal : Refusal) (place : ℕ) → refusal ≡ s.refusal → place ≡ s.place
        → ◌≡◌ {A = Refusing} (record { refusal = refusal; place = place }) s
    by_parts refusal place p q = rw (p, q) refl

same_clean : (c d : Cleaned) → c.number ≡ d.number → c.after ≡ d.after → c ≡ d
same_clean c d p q = by_parts c.number c.after p q
  where
    by_parts : (number after : ℕ) → number ≡ d.number → after ≡ d.after
        → ◌≡◌ {A = Cleaned} (record { number = number; after = after }) d
    by_parts number after p q = rw (p, q) refl

pub same_seen : (a b : Result (Option Cleaned) Refusing) → seen a ≡ seen b → a ≡ b
same_seen (Ok (Some c)) (Ok (Some d)) e =
    let p : c.number ≡ d.number = cc in
    let q : c.after ≡ d.after = cc in
    ap (λ (x : Cleaned). Ok (Some x)) (same_clean c d p q)
same_seen (Ok (Some c)) (Ok None) e = absurd cc
same_seen (Ok (Some c)) (Err s) e = absurd cc
same_seen (Ok None) (Ok (Some d)) e = absurd cc
same_seen (Ok None) (Ok None) e = refl
same_seen (Ok None) (Err s) e = absurd cc
same_seen (Err r) (Ok (Some d)) e = absurd cc
same_seen (Err r) (Ok None) e = absurd cc
same_seen (Err r) (Err s) e =
    let p : number_of r.refusal ≡ number_of s.refusal = cc in
    let q : r.place ≡ s.place = cc in
    ap (λ (x : Refusing). Err x) (same_refused r s p q)
