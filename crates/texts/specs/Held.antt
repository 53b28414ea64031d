-- A token with text before its text and data are written: what there is no room for; or its row is written behind the begin group that it
-- brings, or none, and the text buffer has room for both.
use Rattle.std.specs.Prelude.{ℕ, ◌+◌, ◌*◌, ◌≡◌, List, [], ◌∷◌, ◌++◌, take, drop, Result, Ok, Err}
use Rattle.chars.specs.declared.refusal.Refusal.{Refusal}
use Rattle.holding.specs.declared.rows.Row.{Row}
use Rattle.entities.specs.Stepping.{Roomed}
use Rattle.entities.specs.declared.state.State.{State}

pub data Held (s : State) (list text groups : List ℕ) (row : Row) (r : Result State Refusal) (list' groups' : List ℕ) : Type 0 where
  none :
      (e : Refusal) → Roomed s list text groups row.place (row.text_len + row.data_len) (Err e) list' groups' → r ≡ Err e
      → Held s list text groups row r list' groups'
  some :
      (t : State) (list₁ : List ℕ) → Roomed s list text groups row.place (row.text_len + row.data_len) (Ok t) list₁ groups'
      → list'
      ≡ take (t.entities * 6) list₁
      ++ ((row.kind ∷ row.place ∷ row.text_at ∷ row.text_len ∷ row.data_len ∷ row.count ∷ []) ++ drop (t.entities * 6 + 6) list₁)
      → r
      ≡ Ok (record { mode = t.mode; depth = t.depth; entities = t.entities + 1; text = s.text + (row.text_len + row.data_len) })
      → Held s list text groups row r list' groups'
