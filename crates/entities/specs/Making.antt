-- From tokens to entities, a token at a time (004, section 5; document 01, "From tokens to entities" and "Order").
use Rattle.std.specs.Prelude.{ℕ, zero, suc, ◌-◌, Bool, true, false, not, ◌&&◌, ◌||◌, ltb, eqb, length, get_or, if◌then◌else◌}
use mathlib.Core.List.{List, [], ◌∷◌, ◌++◌, tail}
use Rattle.chars.specs.Limits.{Limits}
use Rattle.chars.specs.Choice.{within, among, ascii}
use Rattle.tokens.specs.Tokens.{Sort, simple, quoted, curly}
use Rattle.entities.specs.Entity.{Kind, Entity, bare, size, sizes}
use Rattle.entities.specs.Entity.{begin-metacommand, end-metacommand, metacommand-token, metacommand-quoted, metacommand-curly}
use Rattle.entities.specs.Entity.{begin_group, end-group, array, number, quoted-string, curly-string}
use Rattle.entities.specs.Entity.{define-variable, define-constant, get, put, operation, end}

-- What the tokens so far leave open.
pub record Reader : Type 0 where
  -- metacommand mode
  pub metacommand : Bool
  -- the token before was `[`
  pub opened : Bool
  -- The open groups, innermost first: 0 is a group of its own, n the nth element of an array. An array that is open has an element
  -- among them, unless the token before opened it. Groups below an element are hidden by it.
  pub groups : List ℕ

-- interpretation begins in regular mode, with nothing open
abbrev pub fresh : Reader
fresh = record { metacommand = false; opened = false; groups = [] }

-- What a token comes to by its own rules: a refusal of 10 to 17, or entities and what is open then.
pub data Judged : Type 0 where
  refuses : (number : ℕ) → Judged
  makes : List Entity → Reader → Judged

-- regular mode, with these groups open
unfoldable pub within_groups : List ℕ → Reader
within_groups groups = record { metacommand = false; opened = false; groups = groups }

-- one entity that leaves what is open as it is
unfoldable pub adds : Reader → Entity → Judged
adds r e = makes (e ∷ []) r

-- `(` (5.2): 17 over the limit
unfoldable pub group_begins : Limits → Reader → (place : ℕ) → Judged
group_begins L r place =
    if ltb (length r.groups) L.groups
    then makes (bare begin_group place ∷ []) (within_groups (0 ∷ r.groups))
    else refuses 17

-- `)` (5.2): 14 where the innermost open group is none of its own
unfoldable pub group_ends : List ℕ → (place : ℕ) → Judged
group_ends [] place = refuses 14
group_ends (zero ∷ groups) place = makes (bare end-group place ∷ []) (within_groups groups)
group_ends (suc n ∷ groups) place = refuses 14

-- `,` (5.3): 15 where the innermost open group is no element. It closes before it opens, so it never meets 17.
unfoldable pub element_ends : List ℕ → (place : ℕ) → Judged
element_ends [] place = refuses 15
element_ends (zero ∷ groups) place = refuses 15
element_ends (suc n ∷ groups) place =
    makes (bare end-group place ∷ bare begin_group place ∷ []) (within_groups (suc (suc n) ∷ groups))

-- the array entity, with its count
unfoldable pub counted : (place count : ℕ) → Entity
counted place count = record { kind = array; place = place; text = []; string = []; count = count }

-- `]` (5.3): right behind `[` the count is 0 and there is no group; else 16 where the innermost open group is no element
unfoldable pub array_ends : (opened : Bool) → List ℕ → (place : ℕ) → Judged
array_ends true groups place = makes (counted place 0 ∷ []) (within_groups groups)
array_ends false [] place = refuses 16
array_ends false (zero ∷ groups) place = refuses 16
array_ends false (suc n ∷ groups) place =
    makes (bare end-group place ∷ counted place (suc n) ∷ []) (within_groups groups)

-- an entity with text
unfoldable pub named : Kind → (place : ℕ) → (text : List ℕ) → Entity
named kind place text = record { kind = kind; place = place; text = text; string = []; count = 0 }

-- Any other simple token, by its first character (5.4, 5.6, 5.7): + - or a digit is a number, ? @ = : are names, and the rest are
-- operations, a lone `}` among them.
unfoldable pub word : (place : ℕ) → (text : List ℕ) → Entity
word place text =
    let c = get_or text 0 0 in
    if among c (ascii "+-") || within 0x30 0x39 c then named number place text
    else if eqb c 0x3F then named define-variable place (tail text)
    else if eqb c 0x40 then named define-constant place (tail text)
    else if eqb c 0x3D then named get place (tail text)
    else if eqb c 0x3A then named put place (tail text)
    else named operation place text

-- A simple token in regular mode. An atomic character is a token alone, so the first character tells which token it is.
unfoldable pub regular : Limits → Reader → (place : ℕ) → (text : List ℕ) → Judged
regular L r place text =
    let c = get_or text 0 0 in
    if eqb c 0x25
    then makes (bare begin-metacommand place ∷ []) (record { metacommand = true; opened = false; groups = r.groups })
    else if eqb c 0x3B then refuses 11
    else if eqb c 0x28 then group_begins L r place
    else if eqb c 0x29 then group_ends r.groups place
    else if eqb c 0x5B then makes [] (record { metacommand = false; opened = true; groups = r.groups })
    else if eqb c 0x2C then element_ends r.groups place
    else if eqb c 0x5D then array_ends r.opened r.groups place
    else adds r (word place text)

-- A simple token in metacommand mode (5.1): `%` is 10, `;` ends the mode, and every other token is a metacommand token.
unfoldable pub command : Reader → (place : ℕ) → (text : List ℕ) → Judged
command r place text =
    let c = get_or text 0 0 in
    if eqb c 0x25 then refuses 10
    else if eqb c 0x3B then makes (bare end-metacommand place ∷ []) (within_groups r.groups)
    else adds r (named metacommand-token place text)

-- the kind of a string: that of a simple token is no string's, and is not asked for
unfoldable pub string_kind : (metacommand : Bool) → Sort → Kind
string_kind true simple = metacommand-token
string_kind true quoted = metacommand-quoted
string_kind true curly = metacommand-curly
string_kind false simple = operation
string_kind false quoted = quoted-string
string_kind false curly = curly-string

-- a string token (5.1, 5.5)
unfoldable pub literal : Sort → Reader → (place : ℕ) → (text string : List ℕ) → Judged
literal sort r place text string =
    adds r (record { kind = string_kind r.metacommand sort; place = place; text = text; string = string; count = 0 })

-- whether a token is `]`
unfoldable pub closing : Sort → (text : List ℕ) → Bool
closing simple text = eqb (get_or text 0 0) 0x5D
closing quoted text = false
closing curly text = false

-- a token that is whole, `|;` apart
unfoldable pub judged : Limits → Sort → Reader → (place : ℕ) → (text string : List ℕ) → Judged
judged L simple r place text string = if r.metacommand then command r place text else regular L r place text
judged L quoted r place text string = literal quoted r place text string
judged L curly r place text string = literal curly r place text string

-- `|;` (5.1, 5.8): 12 in a metacommand, 13 with a group or array open
unfoldable pub judged_last : Reader → (place : ℕ) → Judged
judged_last r place =
    if r.metacommand then refuses 12
    else if ltb 0 (length r.groups) then refuses 13
    else adds r (bare end place)

-- the room that is left: entities in the list, bytes in the text buffer
pub record Room : Type 0 where
  pub entities : ℕ
  pub text : ℕ

-- 18 or 19 for the first entity that does not fit, 18 before 19 for each; 0 where all fit
unfoldable pub shortage : (entities text : ℕ) → List Entity → ℕ
shortage entities text [] = 0
shortage entities text (e ∷ es) =
    if eqb entities 0 then 18
    else if ltb text (size e) then 19
    else shortage (entities - 1) (text - size e) es

-- What a token comes to: a refusal of 10 to 19 at its place, or its entities, the room left and what is open then. A refused token
-- leaves none of its entities.
pub data Handled : Type 0 where
  stops : (number : ℕ) → Handled
  holds : List Entity → Room → Reader → Handled

-- the entities that were inserted and those of the token itself, if they fit
unfoldable pub fitted : Room → (inserted : List Entity) → Judged → Handled
fitted room inserted (refuses n) = stops n
fitted room inserted (makes es r) =
    let all = inserted ++ es in
    let short = shortage room.entities room.text all in
    if eqb short 0
    then holds all (record { entities = room.entities - length all; text = room.text - sizes all }) r
    else stops short

-- The next token behind `[`, unless `]`, first brings a begin group (5.3), with its own 17 and 18 before the token's own refusal.
unfoldable pub handled : Limits → Room → Reader → (closes : Bool) → (place : ℕ) → (Reader → Judged) → Handled
handled L room r closes place judge =
    if r.opened && not closes
    then if ltb (length r.groups) L.groups
    then if eqb room.entities 0 then stops 18
    else fitted room (bare begin_group place ∷ []) (judge (within_groups (1 ∷ r.groups)))
    else stops 17
    else fitted room [] (judge r)
