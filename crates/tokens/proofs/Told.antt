-- The definition tells any two answers of the code apart: a simple token has no data, and of any other token every part is told.
use mathlib.Core.Path.{◌≡◌, refl, sym, ap}
use mathlib.Core.Logic.{◌⊎◌, inl, inr}
use Prim.Native.Nat.{ℕ, ◌≤◌}
use native.Mathlib.Omega.{arith}
use Rattle.std.proofs.Common.{Result, Ok, Err, IfOk}
use Rattle.chars.proofs.Numbers.{same_refused}
use Rattle.chars.specs.Refusal.{number_of}
use Rattle.chars.specs.declared.refusal.Refused.{Refused as Refusing}
use Rattle.tokens.specs.Tokens.{shown}
use Rattle.tokens.specs.Told.{class_code, whole_of, told_token, NoData, NoDataIn}
use Rattle.tokens.specs.declared.byte.Class.{Class}
use Rattle.tokens.specs.declared.byte.Class.TheVariants.{Foreign, RightCurly, Opening, Backslash, Plain, Illegal, Comment, Atomic, Blank}
use Rattle.tokens.specs.declared.byte.Class.TheVariants.{Line}
use Rattle.tokens.specs.declared.Sort.{Sort}
use Rattle.tokens.specs.declared.Sort.TheVariants.{Simple, Quoted, Curly}
use Rattle.tokens.specs.declared.Whole.{Whole as Found}
use Rattle.tokens.specs.declared.Token.{Token}
use Rattle.tokens.specs.declared.Token.TheVariants.{Whole, Last}

abbrev told : (sort : Sort) → (place after prefix from length : ℕ) → Found
told sort place after prefix from length =
    record { sort = sort; place = place; after = after; prefix = prefix; from = from; length = length }

same_parts :
    (s t : Sort) (p a q f n p' a' q' f' n' : ℕ) → shown (whole_of (told s p a q f n)) ≡ shown (whole_of (told t p' a' q' f' n'))
    → NoData (told s p a q f n) → NoData (told t p' a' q' f' n') → told s p a q f n ≡ told t p' a' q' f' n'
unfolding shown
same_parts Simple Simple p a q f n p' a' q' f' n' e none none' =
    let f0 = (none refl).0 in
    let n0 = (none refl).1 in
    let f1 = (none' refl).0 in
    let n1 = (none' refl).1 in
    cc
same_parts Simple Quoted p a q f n p' a' q' f' n' e none none' = cc
same_parts Simple Curly p a q f n p' a' q' f' n' e none none' = cc
same_parts Quoted Simple p a q f n p' a' q' f' n' e none none' = cc
same_parts Quoted Quoted p a q f n p' a' q' f' n' e none none' = cc
same_parts Quoted Curly p a q f n p' a' q' f' n' e none none' = cc
same_parts Curly Simple p a q f n p' a' q' f' n' e none none' = cc
same_parts Curly Quoted p a q f n p' a' q' f' n' e none none' = cc
same_parts Curly Curly p a q f n p' a' q' f' n' e none none' = cc

pub same_whole : (v w : Found) → shown (whole_of v) ≡ shown (whole_of w) → NoData v → NoData w → v ≡ w
same_whole v w e none none' =
    same_parts v.sort w.sort v.place v.after v.prefix v.from v.length w.place w.after w.prefix w.from w.length e none none'

no_last : {P : Type 0} (w : Found) (place after : ℕ) → shown (whole_of w) ≡ told_token (Ok (Last place after)) → P
unfolding shown
no_last w place after e = by_sort w.sort e
  where
    by_sort :
        {P : Type 0} (s : Sort) → shown (whole_of (told s w.place w.after w.prefix w.from w.length)) ≡ told_token (Ok (Last place after))
        → P
    by_sort Simple e = cc
    by_sort Quoted e = cc
    by_sort Curly e = cc

no_refusal : {P : Type 0} (w : Found) (r : Refusing) → shown (whole_of w) ≡ told_token (Err r) → P
unfolding shown
no_refusal w r e = by_sort w.sort e
  where
    by_sort : {P : Type 0} (s : Sort) → shown (whole_of (told s w.place w.after w.prefix w.from w.length)) ≡ told_token (Err r) → P
    by_sort Simple e = cc
    by_sort Quoted e = cc
    by_sort Curly e = cc

pub same_told : (a b : Result Token Refusing) → told_token a ≡ told_token b → IfOk a NoDataIn → IfOk b NoDataIn → a ≡ b
same_told (Ok (Whole v)) (Ok (Whole w)) e none none' = ap (λ (x : Found). Ok (Whole x)) (same_whole v w e none none')
same_told (Ok (Whole v)) (Ok (Last place after)) e none none' = no_last v place after e
same_told (Ok (Whole v)) (Err r) e none none' = no_refusal v r e
same_told (Ok (Last place after)) (Ok (Whole w)) e none none' = no_last w place after (sym e)
same_told (Ok (Last place after)) (Ok (Last place' after')) e none none' = cc
same_told (Ok (Last place after)) (Err r) e none none' = cc
same_told (Err r) (Ok (Whole w)) e none none' = no_refusal w r (sym e)
same_told (Err r) (Ok (Last place after)) e none none' = cc
same_told (Err r) (Err s) e none none' =
    let p : number_of r.refusal ≡ number_of s.refusal = cc in
    let q : r.place ≡ s.place = cc in
    ap (λ (x : Refusing). Err x) (same_refused r s p q)

-- a byte that goes on with a word is of class 3 or 4
pub goes_on_code : (k : Class) → (k ≡ Backslash) ⊎ (k ≡ Plain) → (3 ≤ class_code k) × (class_code k ≤ 4)
goes_on_code k (inl e) = rw e (omega arith, omega arith)
goes_on_code k (inr e) = rw e (omega arith, omega arith)

-- and one that neither does so nor opens a string nor is refused is of class 1, or of 6 to 9
pub ending_code :
    (k : Class) → (k ≡ Foreign → ⊥) → (k ≡ Opening → ⊥) → (k ≡ Backslash → ⊥) → (k ≡ Plain → ⊥) → (k ≡ Illegal → ⊥)
    → (1 ≤ class_code k) × (2 ≤ class_code k → 6 ≤ class_code k)
ending_code Foreign f o b p i = absurd (f refl)
ending_code RightCurly f o b p i = (omega arith, λ h. absurd (omega arith))
ending_code Opening f o b p i = absurd (o refl)
ending_code Backslash f o b p i = absurd (b refl)
ending_code Plain f o b p i = absurd (p refl)
ending_code Illegal f o b p i = absurd (i refl)
ending_code Comment f o b p i = (omega arith, λ h. omega arith)
ending_code Atomic f o b p i = (omega arith, λ h. omega arith)
ending_code Blank f o b p i = (omega arith, λ h. omega arith)
ending_code Line f o b p i = (omega arith, λ h. omega arith)
