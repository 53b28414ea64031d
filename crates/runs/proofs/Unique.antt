-- No second answer meets the contract of a public function of `runs`, but for those of `eight` and `past_eights`, which may stop early.
use Prim.Native.Nat.{ℕ, ◌<◌, ◌≤◌}
use mathlib.Core.Path.{◌≡◌, refl, sym, ◌∙◌, ap}
use mathlib.Core.Bool.{Bool, true, false, true≢false}
use mathlib.Core.List.{List}
use native.Mathlib.Omega.{arith}
use lib.Dec.{eqb}
use lib.ListN.{get_or}
use Rattle.std.specs.Prelude.{if◌then◌else◌}
use Rattle.chars.proofs.Cases.{by_bound}
use Rattle.chars.proofs.Only.{one, OneAnswer}
use Rattle.runs.specs.contracts.past.past_bytes.F-Fn as words
use Rattle.runs.specs.Bytes.{settled, Tests, Passed}
use contract.Lifetimes.{Lfts}
use borrow.Fn.Kinds.{Dens, ended_of}
use denote.Triple.Clauses.{AtExit}
use denote.RattleType.{RattleType}
use denote.Param.Laws.{Laws}
use mir.Syntax.{Dict}
use Rattle.runs.specs.Codes.{begins_code, ends_code}
use Rattle.runs.specs.declared.sorts.Begins.{Begins}
use Rattle.runs.specs.declared.sorts.Begins.TheVariants.{Nothing, Whitespace, Comment, Atomic, Opening, Bar, Word, RightCurly}
use Rattle.runs.specs.declared.sorts.Ends.{Ends}
use Rattle.runs.specs.declared.sorts.Ends.TheVariants.{Illegal, Exclusive, Inclusive, GoesOn}
use Rattle.runs.proofs as fn

pub past_blanks_lem : OneAnswer fn.blank.past_blanks.Kinds.ps fn.blank.past_blanks.Kinds.r fn.blank.past_blanks.Reads.Post
past_blanks_lem κs given a b x y = one

pub white : OneAnswer fn.blank.white.Kinds.ps fn.blank.white.Kinds.r fn.blank.white.Reads.Post
white κs given a b x y = one

-- what has one number is one
abbrev begins_for : ℕ → Begins
begins_for n =
    if eqb n 0 then Nothing
    else if eqb n 1 then Whitespace
    else if eqb n 2 then Comment
    else if eqb n 3 then Atomic
    else if eqb n 4 then Opening
    else if eqb n 5 then Bar
    else if eqb n 6 then Word
    else RightCurly

begins_by : (b : Begins) → begins_for (begins_code b) ≡ b
unfolding begins_code
begins_by Nothing = refl
begins_by Whitespace = refl
begins_by Comment = refl
begins_by Atomic = refl
begins_by Opening = refl
begins_by Bar = refl
begins_by Word = refl
begins_by RightCurly = refl

pub same_begins : (a b : Begins) → begins_code a ≡ begins_code b → a ≡ b
same_begins a b e = sym (begins_by a) ∙ (ap begins_for e ∙ begins_by b)

abbrev ends_for : ℕ → Ends
ends_for n =
    if eqb n 0 then Illegal
    else if eqb n 1 then Exclusive
    else if eqb n 2 then Inclusive
    else GoesOn

ends_by : (e : Ends) → ends_for (ends_code e) ≡ e
unfolding ends_code
ends_by Illegal = refl
ends_by Exclusive = refl
ends_by Inclusive = refl
ends_by GoesOn = refl

pub same_ends : (a b : Ends) → ends_code a ≡ ends_code b → a ≡ b
same_ends a b e = sym (ends_by a) ∙ (ap ends_for e ∙ ends_by b)

pub begins : OneAnswer fn.byte.begins.Kinds.ps fn.byte.begins.Kinds.r fn.byte.begins.Reads.Post
begins κs given a b x y p q = same_begins a b (one p q)

pub goes_on : OneAnswer fn.byte.goes_on.Kinds.ps fn.byte.goes_on.Kinds.r fn.byte.goes_on.Reads.Post
goes_on κs given a b x y = one

pub ends : OneAnswer fn.byte.ends.Kinds.ps fn.byte.ends.Kinds.r fn.byte.ends.Reads.Post
ends κs given a b x y p q = same_ends a b (one p q)

pub is_line : OneAnswer fn.byte.is_line.Kinds.ps fn.byte.is_line.Kinds.r fn.byte.is_line.Reads.Post
is_line κs given true true x y p q = refl
is_line κs given true false x y p q = absurd (q.1 refl _ _ (p.0 refl).1)
is_line κs given false true x y p q = absurd (p.1 refl _ _ (q.0 refl).1)
is_line κs given false false x y p q = refl

-- bytes are passed over just as far as they go on
abbrev Far : (test : ℕ → Bool) → (draft : List ℕ) → (at end r : ℕ) → Type 0
Far test draft at end r = Passed test draft at r × (r ≤ end) × (r < end → test (get_or draft r 0) ≡ false)

module _ (test : ℕ → Bool) (draft : List ℕ) (at end : ℕ) where
  no_further : (a b : ℕ) → Far test draft at end a → Far test draft at end b → a < b → ⊥
  no_further a b p q l = absurd (true≢false (sym (q.0.each a p.0.on l) ∙ p.2 (omega (arith, l, q.1))))

  as_far : (a b : ℕ) → Far test draft at end a → Far test draft at end b → a ≡ b
  as_far a b p q =
      by_bound a b (λ l. absurd (no_further a b p q l))
      (λ g. by_bound b a (λ l. absurd (no_further b a q p l)) (λ h. omega (arith, g, h)))

pub past_settled : OneAnswer fn.settled.past_settled.Kinds.ps fn.settled.past_settled.Kinds.r fn.settled.past_settled.Reads.Post
past_settled κs given a b x y p q = as_far settled _ _ _ a b p q

-- `past_bytes`, where a test says what is passed
module _ (F : RattleType) (L : Laws F) (G : words.Ghosts F) (d e f g : Dict) where
  pub past_bytes :
      (κs : Lfts 2) (given : Dens κs (fn.past.past_bytes.Kinds.ps F L)) (a b : ℕ)
      (x y : AtExit (ended_of 2 (fn.past.past_bytes.Kinds.ps F L) (fn.past.past_bytes.Kinds.r F L)) κs) (test : ℕ → Bool)
      → Tests test ((words.words F G).post given.1.1.1.0)
      → fn.past.past_bytes.Reads.Post F L G d e f g κs given a x → fn.past.past_bytes.Reads.Post F L G d e f g κs given b y → a ≡ b
  past_bytes κs given a b x y test told p q = as_far test _ _ _ a b (p test told) (q test told)
