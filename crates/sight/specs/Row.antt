-- The row of an entity in a list's numbers, and its text in a text buffer's bytes (docs/LAYOUT.md).
use Rattle.std.specs.Prelude.{ℕ, ◌+◌, ◌*◌, List, get_or, take, drop}
use Rattle.holding.specs.declared.rows.Row.{Row}

-- a number of an entity's row
abbrev number_in : (list : List ℕ) → (entity which : ℕ) → ℕ
number_in list i k = get_or list (i * 6 + k) 0

-- What stands where in a row.
abbrev pub kind_in : (list : List ℕ) → (entity : ℕ) → ℕ
kind_in list i = get_or list (i * 6) 0

abbrev pub place_in : (list : List ℕ) → (entity : ℕ) → ℕ
place_in list i = number_in list i 1

abbrev pub text_at_in : (list : List ℕ) → (entity : ℕ) → ℕ
text_at_in list i = number_in list i 2

abbrev pub text_len_in : (list : List ℕ) → (entity : ℕ) → ℕ
text_len_in list i = number_in list i 3

abbrev pub data_len_in : (list : List ℕ) → (entity : ℕ) → ℕ
data_len_in list i = number_in list i 4

abbrev pub count_in : (list : List ℕ) → (entity : ℕ) → ℕ
count_in list i = number_in list i 5

-- an entity's text
unfoldable pub text_in : (list text : List ℕ) → (entity : ℕ) → List ℕ
text_in list text i = take (text_len_in list i) (drop (text_at_in list i) text)

-- the text that a row tells of
abbrev pub text_by : Row → (text : List ℕ) → List ℕ
text_by row text = take row.text_len (drop row.text_at text)
