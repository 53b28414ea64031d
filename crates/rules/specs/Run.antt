-- A run: the rules of cells over values (document 01, "Cells and operations"; demand 3).
use Rattle.std.specs.Prelude.{ℕ, suc, Bool, List, [], ◌∷◌}
use Rattle.chars.specs.Limits.{Limits}
use Rattle.entities.specs.Entity.{Entity}
use Rattle.table.specs.Table.{Operation}
use Rattle.rules.specs.Cells.{Amount, amount, none_by, Cell, State, goes, stops, Ended, act, through, empty}

-- a whole number: `minus n` is the negative number -(n + 1)
pub data Whole : Type 0 where
  plus minus : ℕ → Whole

-- A value has a kind, and it is something: of kind 0 the number itself, of any other kind whatever the house takes it for.
pub record Value : Type 0 where
  pub kind : ℕ
  pub is : Whole

-- What is given from outside, for every step: what a literal stands for, and what an operation hands back at each place among the
-- kinds that it gives. Its kind is the declared one.
pub record Outside : Type 0 where
  pub literal : (step : ℕ) → Whole
  pub result : (step place : ℕ) → Whole

-- An array item takes as many cells as the value says. A negative value is stuck: there are too few cells whatever there are.
unfoldable pub wanted_by : Whole → Amount
wanted_by (plus n) = amount n
wanted_by (minus n) = none_by 22

-- The values of a run. `bounded` says whether the limits of cells and names are taken as rules of the run; by document 01 they are
-- not, and 24 never is.
unfoldable pub values : (bounded : Bool) → Outside → Cell Value
values bounded given =
    record {
      kind = λ v. v.kind;
      literal = λ step kind. record { kind = kind; is = given.literal step };
      counted = λ n. record { kind = 0; is = plus n };
      kept = λ v. v;
      result = λ step place kind. record { kind = kind; is = given.result step place };
      wanted = λ v. wanted_by v.is;
      bounded = bounded;
    }

-- A run of a list of entities: it ends with 0 after as many steps as there are entities, or is stuck at an entity by a rule.
unfoldable pub run : Limits → (bounded : Bool) → Outside → List Operation → List Entity → Ended
run L bounded given os es = through L (values bounded given) os 0 empty es

-- The states from one on: it stands before the first entity, the next before the second, and one at the end. A run that is stuck at an
-- entity has none behind it.
unfoldable pub states_from :
    Limits → {C : Type 0} → Cell C → List Operation → (steps : ℕ) → State C → List Entity → List (State C)
states_from L cell os steps s [] = s ∷ []
states_from L cell os steps s (e ∷ es) =
    s ∷ elim (act L cell os steps s e) [ stops rule ↦ [] | goes t ↦ states_from L cell os (suc steps) t es ]

-- The states of a run: one before each entity that it comes to, and one at the end.
unfoldable pub states : Limits → (bounded : Bool) → Outside → List Operation → List Entity → List (State Value)
states L bounded given os es = states_from L (values bounded given) os 0 empty es
