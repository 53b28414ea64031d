-- The arrays and counts of a check in one value, and what it means that the code answers as the definition says.
use Rattle.std.specs.Prelude.{ℕ, ◌+◌, ◌≡◌, List, Result, Ok, Err}
use Rattle.chars.specs.Refusal.{number_of}
use Rattle.chars.specs.declared.refusal.Refusal.{Refusal}
use Rattle.rules.specs.Cells.{Name, State, Did, goes, stops}
use Rattle.rules.specs.Kinds.{Checked}
use Rattle.sight.specs.Arrays.{sight_of, names_of, state_of, Standing, Hiding}
use Rattle.sight.specs.declared.Stack.{Stack}

-- how many cells there are, hidden ones counted
abbrev pub cells_in : Stack → ℕ
cells_in k = k.counts.base + k.counts.seen

-- the cells in sight
abbrev pub sight_in : Stack → List Checked
sight_in k = sight_of k.cells k.counts.base k.counts.seen

-- the state that it stands for, over the text buffer that its names lie in
abbrev pub state_in : (text : List ℕ) → Stack → State Checked
state_in text k = state_of text k.cells k.bases k.index k.whats k.counts

-- the names, the last defined first
abbrev pub names_in : (text : List ℕ) → Stack → List (Name Checked)
names_in text k = names_of text k.index k.whats k.counts.names

-- cells and names are as they should be, and so are the open groups
abbrev pub Stood : (text : List ℕ) → Stack → Type 0
Stood text k = Standing text k.cells k.index k.whats k.counts

abbrev pub Hidden : Stack → Type 0
Hidden k = Hiding k.bases k.counts

abbrev pub Stands : (text : List ℕ) → Stack → Type 0
Stands text k = Stood text k × Hidden k

-- the array of cells stays as it was, those outside of the state too
abbrev pub SameCells : (old new : Stack) → Type 0
SameCells old new = new.cells ≡ old.cells

-- the bases of groups stay as they were
abbrev pub SameGroups : (old new : Stack) → Type 0
SameGroups old new = new.bases ≡ old.bases

-- the index of names and what the names are stay as they were
abbrev pub SameNames : (old new : Stack) → Type 0
SameNames old new = (new.index ≡ old.index) × (new.whats ≡ old.whats)

-- what the code's answer for an entity means
unfoldable pub meant : (text : List ℕ) → Stack → Result Unit Refusal → Did Checked
meant text k (Ok done) = goes (state_in text k)
meant text k (Err r) = stops (number_of r)

-- where it goes on, all is as it should be again
unfoldable pub ready : (text : List ℕ) → Stack → Result Unit Refusal → Type 0
ready text k (Ok done) = Stands text k
ready text k (Err r) = Unit

-- the answer and the stack then are what the definition says
pub record Agrees (d : Did Checked) (text : List ℕ) (k : Stack) (r : Result Unit Refusal) : Type 0 where
  pub same : meant text k r ≡ d
  pub on : ready text k r
