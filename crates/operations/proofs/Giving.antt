-- Kinds given become cells right above those in sight (specs/Taken.antt, `laid`): they are then in sight as the rule says, the hidden ones
-- stay, and laying them is one store after the other.
use mathlib.Core.Path.{◌≡◌, refl, ◌∙◌}
use mathlib.Core.List.{List, [], ◌∷◌, ◌++◌}
use Prim.Native.Nat.{ℕ, suc, ◌+◌, ◌<◌, ◌≤◌}
use native.Mathlib.Omega.{arith}
use native.Mathlib.Numerals.{add-one}
use lib.ListN.{length, get_or, set, take, length-set}
use lib.Seq.{length-take-le, take-suc}
use Rattle.chars.specs.Limits.{limits}
use Rattle.rules.specs.Cells.{leaves, give, given}
use Rattle.rules.specs.Kinds.{Checked, of, kinds}
use Rattle.sight.specs.Arrays.{sight_of, hidden_of, state_of, stacked, Standing, Hiding}
use Rattle.sight.specs.Stacks.{Agrees}
use Rattle.sight.specs.declared.Stack.{Stack}
use Rattle.operations.specs.Taken.{laid}
use Rattle.sight.specs.declared.Counts.{Counts}
use Rattle.chars.specs.declared.refusal.Refusal.TheVariants.{TooManyCells}
use Rattle.std.specs.Prelude.{Ok, Err}
use Rattle.sight.proofs.Sight.{stack, small_cell, so_many, sight_pushed, hidden_past, too_many, not_many}

laid_length : (cells : List ℕ) (top : ℕ) (ks : List ℕ) → length (laid cells top ks) ≡ length cells
unfolding laid
laid_length cells top [] = refl
laid_length cells top (k ∷ ks) = laid_length (set cells top k) (top + 1) ks ∙ length-set cells top k

-- one kind more, behind the others
laid_behind :
    (cells : List ℕ) (top : ℕ) (ks : List ℕ) (k : ℕ)
    → laid cells top (ks ++ (k ∷ [])) ≡ set (laid cells top ks) (top + length ks) k
unfolding laid
laid_behind cells top [] k = let none : top + 0 ≡ top = omega arith in rw none
laid_behind cells top (j ∷ ks) k =
    let there : top + suc (length ks) ≡ top + 1 + length ks = omega arith in
    rw there (laid_behind (set cells top j) (top + 1) ks k)

-- one more of some kinds
pub laid_next :
    (cells ks : List ℕ) (top n : ℕ) → n < length ks
    → laid cells top (take (n + 1) ks) ≡ set (laid cells top (take n ks)) (top + n) (get_or ks n 0)
laid_next cells ks top n h =
    let many = length-take-le n ks (omega arith) in
    rw (add-one, take-suc ks n 0 h, laid_behind, many)

-- what lies below them
hidden_below :
    (cells bases : List ℕ) (top base depth : ℕ) (ks : List ℕ) → stacked bases base depth → base ≤ top
    → hidden_of (laid cells top ks) bases base depth ≡ hidden_of cells bases base depth
unfolding laid
hidden_below cells bases top base depth [] s h = refl
hidden_below cells bases top base depth (k ∷ ks) s h =
    hidden_below (set cells top k) bases (top + 1) base depth ks s (omega arith) ∙ hidden_past cells bases top k base depth s h

-- kinds are numbers below 16
abbrev pub Kinds : List ℕ → Type 0
Kinds ks = (i : ℕ) → i < length ks → get_or ks i 0 < 16

given_length :
    (step place : ℕ) (ks : List ℕ) (cells : List Checked) → length (give limits kinds step place ks cells) ≡ length cells + length ks
unfolding give kinds
given_length step place [] cells = omega arith
given_length step place (k ∷ ks) cells =
    let one_less = given_length step (suc place) ks (of k ∷ cells) in omega arith

-- given to the cells in sight, they are in sight above them
laid_in_sight :
    (step place : ℕ) (cells : List ℕ) (base seen : ℕ) (ks : List ℕ) → Kinds ks → base + seen + length ks ≤ length cells
    → sight_of (laid cells (base + seen) ks) base (seen + length ks) ≡ give limits kinds step place ks (sight_of cells base seen)
unfolding laid give kinds
laid_in_sight step place cells base seen [] low h = let none : seen + 0 ≡ seen = omega arith in rw none
laid_in_sight step place cells base seen (k ∷ ks) low h =
    let there : base + seen + 1 ≡ base + (seen + 1) = omega arith in
    let sum : seen + suc (length ks) ≡ seen + 1 + length ks = omega arith in
    let one_more = sight_pushed cells base seen k (omega arith) in
    rw (there, sum, ← small_cell k (low 0 (omega arith)), ← one_more)
    (laid_in_sight step (suc place) (set cells (base + seen) k) base (seen + 1) ks (λ i inside. low (suc i) (omega arith))
    (omega (arith, length-set cells (base + seen) k)))

-- Kinds given where so many cells are left in sight: 29 where they are too many, and else they lie above those.
module _
    (text cells bases index whats : List ℕ) (s : Counts) (left step : ℕ) (ks : List ℕ) (g : Hiding bases s) where
  pub not_given :
      (k : Stack) → 1024 < s.base + left + length ks
      → Agrees (given limits kinds step (state_of text cells bases index whats s) ks (leaves (sight_of cells s.base left))) text k
      (Err TooManyCells)
  unfolding given
  not_given k h =
      let sight = sight_of cells s.base left in
      let more = given_length step 0 ks sight in
      too_many text cells bases index whats s g k (give limits kinds step 0 ks sight)
      (omega (arith, more, so_many cells s.base left))

  pub all_given :
      Standing text cells index whats s → Kinds ks → s.base + left + length ks ≤ 1024
      → Agrees (given limits kinds step (state_of text cells bases index whats s) ks (leaves (sight_of cells s.base left))) text
      (stack (laid cells (s.base + left) ks) bases index whats
      (record { base = s.base; seen = left + length ks; depth = s.depth; names = s.names })) (Ok tt)
  unfolding given
  all_given st low h =
      let top = s.base + left in
      let hidden = hidden_below cells bases top s.base s.depth ks g.hidden (omega arith) in
      let few : s.base + (left + length ks) ≤ 1024 = omega arith in
      rw (← laid_in_sight step 0 cells s.base left ks low (omega (arith, st.cells_room)))
      (not_many text cells bases index whats s g st (laid cells top ks) (left + length ks) few (laid_length cells top ks) hidden)
