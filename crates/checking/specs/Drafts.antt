-- The drafts that document 01 marks (P), with their whole answers: one table.
use Rattle.std.specs.Prelude.{ℕ, ◌-◌, List, [], ◌∷◌, ◌++◌, length, replicate}
use Prim.Native.String.{String}
use Rattle.chars.specs.Choice.{ascii}
use Rattle.entities.specs.Entity.{Kind, Entity}
use Rattle.entities.specs.Entity.{begin-metacommand, end-metacommand, metacommand-token}
use Rattle.entities.specs.Entity.{begin_group, end-group, array, number, quoted-string, operation, end}
use Rattle.entities.specs.Making.{Room}
use Rattle.reading.specs.Reading.{Read}
use Rattle.reading.specs.declared.Answer.{Answer}

-- a draft, what reading gives, and what the check answers under the table below
pub record Case : Type 0 where
  pub draft : String
  pub reads : Read
  pub checks : Answer

-- entries in a field of so much room: their number, themselves, and zeros behind
abbrev field_of : (room : ℕ) → List ℕ → List ℕ
field_of room entries = length entries ∷ entries ++ replicate (room - length entries) 0

-- the table: `bind` takes an array of numbers and gives nothing
abbrev pub table : List ℕ
table = field_of 255 (ascii "bind") ++ (field_of 8 (16 ∷ []) ++ field_of 8 [])

-- room for more than any of them holds
abbrev pub ample : Room
ample = record { entities = 100; text = 100 }

-- an entity: kind, place, text, data, count
abbrev e : Kind → ℕ → String → String → ℕ → Entity
e kind place text string count =
    record { kind = kind; place = place; text = ascii text; string = ascii string; count = count }

-- what was read: number and place of refusal, byte after `;`, entities
abbrev read : ℕ → ℕ → ℕ → List Entity → Read
read refusal place consumed entities =
    record { number = refusal; place = place; consumed = consumed; entities = entities }

-- number, place, entities held, text bytes held, byte after `;`, steps, cells
abbrev answer : ℕ → ℕ → ℕ → ℕ → ℕ → ℕ → ℕ → Answer
answer refusal place entities text consumed steps cells =
    record {
      number = refusal;
      place = place;
      entities = entities;
      text = text;
      consumed = consumed;
      steps = steps;
      cells = cells;
    }

abbrev case : String → Read → Answer → Case
case draft reads checks = record { draft = draft; reads = reads; checks = checks }

abbrev pub cases : List Case
cases =
    case "[] |;" (read 0 0 5 (e array 1 "" "" 0 ∷ e end 3 "" "" 0 ∷ [])) (answer 0 0 2 0 5 2 1)
    ∷ case "[[]] |;"
    (read 0 0 7
    (e begin_group 1 "" "" 0 ∷ e array 2 "" "" 0 ∷ e end-group 3 "" "" 0 ∷ e array 3 "" "" 1 ∷ e end 5 "" "" 0 ∷ []))
    (answer 0 0 5 0 7 5 2)
    ∷ case "[,] |;"
    (read 0 0 6
    (e begin_group 1 "" "" 0
    ∷ e end-group 1 "" "" 0
    ∷ e begin_group 1 "" "" 0
    ∷ e end-group 2 "" "" 0
    ∷ e array 2 "" "" 2
    ∷ e end 4 "" "" 0
    ∷ []))
    (answer 28 1 6 0 0 1 0)
    ∷ case "%w; [3, 11, 19] bind |;"
    (read 0 0 23
    (e begin-metacommand 0 "" "" 0
    ∷ e metacommand-token 1 "w" "" 0
    ∷ e end-metacommand 2 "" "" 0
    ∷ e begin_group 5 "" "" 0
    ∷ e number 5 "3" "" 0
    ∷ e end-group 6 "" "" 0
    ∷ e begin_group 6 "" "" 0
    ∷ e number 8 "11" "" 0
    ∷ e end-group 10 "" "" 0
    ∷ e begin_group 10 "" "" 0
    ∷ e number 12 "19" "" 0
    ∷ e end-group 14 "" "" 0
    ∷ e array 14 "" "" 3
    ∷ e operation 16 "bind" "" 0
    ∷ e end 21 "" "" 0
    ∷ []))
    (answer 0 0 15 10 23 15 0)
    ∷ case "11 [3,,19] bind |;"
    (read 0 0 18
    (e number 0 "11" "" 0
    ∷ e begin_group 4 "" "" 0
    ∷ e number 4 "3" "" 0
    ∷ e end-group 5 "" "" 0
    ∷ e begin_group 5 "" "" 0
    ∷ e end-group 6 "" "" 0
    ∷ e begin_group 6 "" "" 0
    ∷ e number 7 "19" "" 0
    ∷ e end-group 9 "" "" 0
    ∷ e array 9 "" "" 3
    ∷ e operation 11 "bind" "" 0
    ∷ e end 16 "" "" 0
    ∷ []))
    (answer 28 6 12 9 0 5 0)
    ∷ case "[1,] |;"
    (read 0 0 7
    (e begin_group 1 "" "" 0
    ∷ e number 1 "1" "" 0
    ∷ e end-group 2 "" "" 0
    ∷ e begin_group 2 "" "" 0
    ∷ e end-group 3 "" "" 0
    ∷ e array 3 "" "" 2
    ∷ e end 5 "" "" 0
    ∷ []))
    (answer 28 3 7 1 0 4 0)
    ∷ case "%a|;"
    (read 7 4 0
    (e begin-metacommand 0 "" "" 0 ∷ e metacommand-token 1 "a|" "" 0 ∷ e end-metacommand 3 "" "" 0 ∷ []))
    (answer 7 4 3 2 0 0 0)
    ∷ case "%a |;"
    (read 12 3 0 (e begin-metacommand 0 "" "" 0 ∷ e metacommand-token 1 "a" "" 0 ∷ []))
    (answer 12 3 2 1 0 0 0)
    ∷ case "||;" (read 11 2 0 (e operation 0 "||" "" 0 ∷ [])) (answer 11 2 1 2 0 0 0)
    ∷ case "[(1,2)] |;"
    (read 15 3 0 (e begin_group 1 "" "" 0 ∷ e begin_group 1 "" "" 0 ∷ e number 2 "1" "" 0 ∷ []))
    (answer 15 3 3 1 0 0 0)
    ∷ case "(1] |;"
    (read 16 2 0 (e begin_group 0 "" "" 0 ∷ e number 1 "1" "" 0 ∷ []))
    (answer 16 2 2 1 0 0 0)
    ∷ case "[1)] |;"
    (read 14 2 0 (e begin_group 1 "" "" 0 ∷ e number 1 "1" "" 0 ∷ []))
    (answer 14 2 2 1 0 0 0)
    ∷ case "\"a\\\\\" |;"
    (read 0 0 8 (e quoted-string 0 "" "a\\\\" 0 ∷ e end 6 "" "" 0 ∷ []))
    (answer 0 0 2 3 8 2 1)
    ∷ case "\"a\\\" |;" (read 7 7 0 []) (answer 7 7 0 0 0 0 0)
    ∷ []
