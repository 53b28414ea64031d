-- No second answer meets the contract of a public function of `scan`. `found` may pass over whitespace and comments in pieces, or tell
-- what stands behind them at once: of it there are no two answers that tell a token or a refusal.
use mathlib.Core.Path.{◌≡◌, refl, ap}
use mathlib.Core.List.{List}
use Prim.Native.Nat.{ℕ, ◌<◌}
use native.Mathlib.Omega.{arith}
use Rattle.std.specs.Prelude.{Result, Ok, Err}
use contract.Lifetimes.{Lfts}
use borrow.Fn.Kinds.{Dens, ended_of}
use denote.Triple.Clauses.{AtExit}
use Rattle.chars.proofs.Only.{one, OneAnswer}
use Rattle.runs.proofs.Unique.{same_begins}
use Rattle.chars.proofs.Numbers.{same_refused}
use Rattle.chars.specs.declared.refusal.Refused.{Refused}
use Rattle.tokens.specs.declared.Sort.{Sort}
use Rattle.tokens.specs.declared.Sort.TheVariants.{Simple, Quoted, Curly}
use Rattle.tokens.specs.declared.Token.TheVariants.{Whole, Last}
use Rattle.tokens.specs.declared.Whole.{Whole as Parts}
use Rattle.scan.specs.Told.{sort_code, told_piece}
use Rattle.scan.specs.declared.Piece.{Piece as Told}
use Rattle.scan.specs.declared.Piece.TheVariants.{Blank, Token}
use Rattle.scan.specs.Found.{Piece, Finds, passes, tells}
use Rattle.scan.proofs as fn

pub begins_at_lem : OneAnswer fn.begins_at.Kinds.ps fn.begins_at.Kinds.r fn.begins_at.Reads.Post
begins_at_lem κs given a b x y p q = same_begins a b (one p q)

low_sort : (s : Sort) → sort_code s < 3
low_sort Simple = omega arith
low_sort Quoted = omega arith
low_sort Curly = omega arith

same_sort : (s t : Sort) → sort_code s ≡ sort_code t → s ≡ t
same_sort Simple Simple e = refl
same_sort Simple Quoted e = absurd (omega arith)
same_sort Simple Curly e = absurd (omega arith)
same_sort Quoted Simple e = absurd (omega arith)
same_sort Quoted Quoted e = refl
same_sort Quoted Curly e = absurd (omega arith)
same_sort Curly Simple e = absurd (omega arith)
same_sort Curly Quoted e = absurd (omega arith)
same_sort Curly Curly e = refl

-- a whole token by its parts
by_parts :
    (s t : Sort) (p a q f n p' a' q' f' n' : ℕ) → s ≡ t → p ≡ p' → a ≡ a' → q ≡ q' → f ≡ f' → n ≡ n'
    → ◌≡◌ {A = Parts} (record { sort = s; place = p; after = a; prefix = q; from = f; length = n })
    (record { sort = t; place = p'; after = a'; prefix = q'; from = f'; length = n' })
by_parts s t p a q f n p' a' q' f' n' e1 e2 e3 e4 e5 e6 = rw (e1, e2, e3, e4, e5, e6)

same_whole : (v w : Parts) → told_piece (Ok (Token (Whole v))) ≡ told_piece (Ok (Token (Whole w))) → v ≡ w
same_whole v w e =
    by_parts v.sort w.sort v.place v.after v.prefix v.from v.length w.place w.after w.prefix w.from w.length
    (same_sort v.sort w.sort (ap (λ p. p.sort) e)) (ap (λ p. p.place) e) (ap (λ p. p.after) e) (ap (λ p. p.prefix) e) (ap (λ p. p.from) e)
    (ap (λ p. p.bytes) e)

-- what is taken apart alike is alike
same_piece : (a b : Result Told Refused) → told_piece a ≡ told_piece b → a ≡ b
same_piece (Ok (Blank after)) (Ok (Blank after')) e = ap (λ p. Ok (Blank p.after)) e
same_piece (Ok (Blank after)) (Ok (Token (Whole w))) e = absurd (omega (arith, low_sort w.sort, ap (λ p. p.sort) e))
same_piece (Ok (Blank after)) (Ok (Token (Last place after'))) e = absurd (omega (arith, ap (λ p. p.sort) e))
same_piece (Ok (Blank after)) (Err r) e = absurd (omega (arith, ap (λ p. p.sort) e))
same_piece (Ok (Token (Whole v))) (Ok (Blank after)) e = absurd (omega (arith, low_sort v.sort, ap (λ p. p.sort) e))
same_piece (Ok (Token (Whole v))) (Ok (Token (Whole w))) e = ap (λ w. Ok (Token (Whole w))) (same_whole v w e)
same_piece (Ok (Token (Whole v))) (Ok (Token (Last place after))) e = absurd (omega (arith, low_sort v.sort, ap (λ p. p.sort) e))
same_piece (Ok (Token (Whole v))) (Err r) e = absurd (omega (arith, low_sort v.sort, ap (λ p. p.sort) e))
same_piece (Ok (Token (Last place after))) (Ok (Blank after')) e = absurd (omega (arith, ap (λ p. p.sort) e))
same_piece (Ok (Token (Last place after))) (Ok (Token (Whole w))) e = absurd (omega (arith, low_sort w.sort, ap (λ p. p.sort) e))
same_piece (Ok (Token (Last place after))) (Ok (Token (Last place' after'))) e = ap (λ p. Ok (Token (Last p.place p.after))) e
same_piece (Ok (Token (Last place after))) (Err r) e = absurd (omega (arith, ap (λ p. p.sort) e))
same_piece (Err r) (Ok (Blank after)) e = absurd (omega (arith, ap (λ p. p.sort) e))
same_piece (Err r) (Ok (Token (Whole w))) e = absurd (omega (arith, low_sort w.sort, ap (λ p. p.sort) e))
same_piece (Err r) (Ok (Token (Last place after))) e = absurd (omega (arith, ap (λ p. p.sort) e))
same_piece (Err r) (Err s) e = ap (λ (x : Refused). Err x) (same_refused r s (ap (λ p. p.number) e) (ap (λ p. p.place) e))

told : (draft : List ℕ) (at : ℕ) (a b : Piece) → Finds draft at a → Finds draft at b → (a.sort ≡ 5 → ⊥) → (b.sort ≡ 5 → ⊥) → a ≡ b
told draft at a b (passes s on there same) g n m = absurd (n s)
told draft at a b (tells is here) (passes s on there same) n m = absurd (m s)
told draft at a b (tells is here) (tells is' here') n m = one is is'

pub found :
    (κs : Lfts 1) (given : Dens κs fn.found.Kinds.ps) (a b : Result Told Refused)
    (x y : AtExit (ended_of 1 fn.found.Kinds.ps fn.found.Kinds.r) κs)
    → ((told_piece a).sort ≡ 5 → ⊥) → ((told_piece b).sort ≡ 5 → ⊥)
    → fn.found.Reads.Post κs given a x → fn.found.Reads.Post κs given b y → a ≡ b
found κs given a b x y n m p q = same_piece a b (told _ _ _ _ p q n m)
