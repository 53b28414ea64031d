-- Drafts and runs that show what demand 3 says and what it leaves: one table.
use Rattle.std.specs.Prelude.{ℕ, List, [], ◌∷◌, get_or}
use Prim.Native.String.{String}
use Rattle.rules.specs.Cells.{Ended}
use Rattle.rules.specs.Run.{Whole, plus, minus, Outside}

-- a draft, what its literals stand for, how its check ends, how that run of it ends, and how many states the run has
pub record Trial : Type 0 where
  pub draft : String
  pub literals : List Whole
  pub checks : Ended
  pub runs : Ended
  pub states : ℕ

-- at each step the entry of that number; what an operation hands back is 0
abbrev pub standing : List Whole → Outside
standing literals = record { literal = λ step. get_or literals step (plus 0); result = λ step place. plus 0 }

-- number, place, steps, cells
abbrev ended : ℕ → ℕ → ℕ → ℕ → Ended
ended rule place steps cells = record { number = rule; place = place; steps = steps; cells = cells }

abbrev trial : String → List Whole → Ended → Ended → ℕ → Trial
trial draft literals checks runs states =
    record { draft = draft; literals = literals; checks = checks; runs = runs; states = states }

abbrev pub trials : List Trial
trials =
    -- passes, and runs
    trial "%w; [3, 11, 19] bind |;" [] (ended 0 0 15 0) (ended 0 0 15 0) 16
    -- does not pass, and is stuck at the empty element
    ∷ trial "11 [3,,19] bind |;" [] (ended 28 6 5 0) (ended 28 6 5 0) 6
    -- Refused with 24 whatever the numbers are. Where the last literal stands for 2 the run ends with 0, so 24 is no rule of a run; where
    -- it stands for 3 there are too few cells, and where it is negative too.
    ∷ trial "1 2 2 bind |;" (plus 1 ∷ plus 2 ∷ plus 2 ∷ []) (ended 24 6 3 0) (ended 0 0 5 0) 6
    ∷ trial "1 2 2 bind |;" (plus 1 ∷ plus 2 ∷ plus 3 ∷ []) (ended 24 6 3 0) (ended 22 6 3 0) 4
    ∷ trial "1 2 2 bind |;" (plus 1 ∷ plus 2 ∷ minus 0 ∷ []) (ended 24 6 3 0) (ended 22 6 3 0) 4
    ∷ []
