-- How the arrays of the code stand for a state of the check. A number of `cells` is a cell: a kind, 0 to 15, or 16 more than a count. The
-- first `base` cells are hidden and the next `seen` in sight, the top last; `bases` has for each open group what `base` was outside of it.
-- Names stand in an index (names/Index) over the text buffer, and `whats` has the kind of each, with 16 more for a constant.
use Rattle.std.specs.Prelude.{ℕ, zero, suc, ◌+◌, ◌-◌, ◌%◌, ◌≤◌, ◌≡◌, List, [], ◌∷◌, leb, ltb, length, get_or, if◌then◌else◌}
use Rattle.names.specs.Index.{Indexed, key_of, position}
use Rattle.rules.specs.Cells.{Name, State}
use Rattle.rules.specs.Kinds.{Checked, of, count}
use Rattle.sight.specs.declared.Counts.{Counts}

unfoldable pub cell_of : ℕ → Checked
cell_of c = if ltb c 16 then of c else count (c - 16)

-- the kind of a cell: a count is a number
unfoldable pub plain_of : ℕ → ℕ
plain_of c = if ltb c 16 then c else 0

-- the `seen` cells above the first `base`, the top first
unfoldable pub sight_of : (cells : List ℕ) → (base seen : ℕ) → List Checked
sight_of cells base zero = []
sight_of cells base (suc n) = cell_of (get_or cells (base + n) 0) ∷ sight_of cells base n

-- what the open groups hide, the innermost first
unfoldable pub hidden_of : (cells bases : List ℕ) → (base depth : ℕ) → List (List Checked)
hidden_of cells bases base zero = []
hidden_of cells bases base (suc d) =
    let outer = get_or bases d 0 in
    sight_of cells outer (base - outer) ∷ hidden_of cells bases outer d

unfoldable pub name_at : (text index whats : List ℕ) → (entry : ℕ) → Name Checked
name_at text index whats j =
    let what = get_or whats j 0 in
    record { name = key_of text index j; constant = leb 16 what; value = of (what % 16) }

-- the first `n` names, the last defined first
unfoldable pub names_of : (text index whats : List ℕ) → (n : ℕ) → List (Name Checked)
names_of text index whats zero = []
names_of text index whats (suc n) = name_at text index whats n ∷ names_of text index whats n

unfoldable pub state_of : (text cells bases index whats : List ℕ) → Counts → State Checked
state_of text cells bases index whats s =
    record {
      sight = sight_of cells s.base s.seen;
      hidden = hidden_of cells bases s.base s.depth;
      names = names_of text index whats s.names;
    }

-- the hidden cells lie one open group upon the other, and all of them belong to one
unfoldable pub stacked : (bases : List ℕ) → (base depth : ℕ) → Type 0
stacked bases base zero = base ≡ 0
stacked bases base (suc d) = (get_or bases d 0 ≤ base) × stacked bases (get_or bases d 0) d

-- no two of the first `n` names are the same
unfoldable pub apart : (key : ℕ → List ℕ) → (n : ℕ) → Type 0
apart key zero = Unit
apart key (suc n) = (position key (key n) n ≡ 0) × apart key n

-- cells and names are as they should be
pub record Standing (text cells index whats : List ℕ) (s : Counts) : Type 0 where
  pub few : s.base + s.seen ≤ 1024
  pub known : s.names ≤ 128
  pub indexed : Indexed text index s.names
  pub distinct : apart (key_of text index) s.names
  pub cells_room : length cells ≡ 1024
  pub index_room : length index ≡ 1792
  pub whats_room : length whats ≡ 128

-- and so are the open groups
pub record Hiding (bases : List ℕ) (s : Counts) : Type 0 where
  pub shallow : s.depth ≤ 64
  pub hidden : stacked bases s.base s.depth
  pub bases_room : length bases ≡ 64
