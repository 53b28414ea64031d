-- What taking an operation's items leaves, and the kinds that it gives, in the array of cells.
use Rattle.std.specs.Prelude.{ℕ, ◌+◌, ◌≤◌, List, [], ◌∷◌, set, Result, Ok, Err}
use Rattle.chars.specs.Refusal.{number_of}
use Rattle.chars.specs.declared.refusal.Refusal.{Refusal}
use Rattle.rules.specs.Cells.{Taken, leaves, refuses}
use Rattle.rules.specs.Kinds.{Checked}
use Rattle.sight.specs.Arrays.{sight_of}

-- what is left of the cells in sight when items are taken
unfoldable pub left_of : (cells : List ℕ) → (base : ℕ) → Result ℕ Refusal → Taken Checked
left_of cells base (Ok n) = leaves (sight_of cells base n)
left_of cells base (Err r) = refuses (number_of r)

-- no more than there were
unfoldable pub at_most : (seen : ℕ) → Result ℕ Refusal → Type 0
at_most seen (Ok n) = n ≤ seen
at_most seen (Err r) = Unit

-- kinds given become cells from a place on
unfoldable pub laid : (cells : List ℕ) → (top : ℕ) → (kinds : List ℕ) → List ℕ
laid cells top [] = cells
laid cells top (kind ∷ kinds) = laid (set cells top kind) (top + 1) kinds
