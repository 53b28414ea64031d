-- What the code answers about one token, and what it means in the words of Making. Nothing here says more of the format than Making does.
use Rattle.std.specs.Prelude.{ℕ, ◌+◌, ◌-◌, ◌*◌, Bool, ◌||◌, eqb, ltb, length, take, drop, if◌then◌else◌}
use mathlib.Core.List.{List, [], ◌∷◌, ◌++◌, tail}
use Rattle.chars.specs.Choice.{within, among, ascii}
use Rattle.chars.specs.Stream.{stream_at, clean}
use Rattle.entities.specs.Entity.{Kind, Entity, bare, sizes, texts, rows}
use Rattle.entities.specs.Entity.{begin-metacommand, end-metacommand, metacommand-token, metacommand-quoted, metacommand-curly}
use Rattle.entities.specs.Entity.{begin_group, end-group, array, number, quoted-string, curly-string}
use Rattle.entities.specs.Entity.{define-variable, define-constant, get, put, operation, end}

-- the kind of a number of 1 to 17
unfoldable pub kind_of : ℕ → Kind
kind_of n =
    if eqb n 1 then begin-metacommand
    else if eqb n 2 then end-metacommand
    else if eqb n 3 then metacommand-token
    else if eqb n 4 then metacommand-quoted
    else if eqb n 5 then metacommand-curly
    else if eqb n 6 then begin_group
    else if eqb n 7 then end-group
    else if eqb n 8 then array
    else if eqb n 9 then number
    else if eqb n 10 then quoted-string
    else if eqb n 11 then curly-string
    else if eqb n 12 then define-variable
    else if eqb n 13 then define-constant
    else if eqb n 14 then get
    else if eqb n 15 then put
    else if eqb n 16 then operation
    else end

-- an entity with nothing in it, by its kind's number, or none for 0
unfoldable pub bares : (kind place : ℕ) → List Entity
bares kind place = if eqb kind 0 then [] else bare (kind_of kind) place ∷ []

-- the text that an entity has of its token's: none, all, or all but the first byte
unfoldable pub cut : (how : ℕ) → List ℕ → List ℕ
cut how text = if eqb how 0 then [] else if eqb how 1 then text else tail text

-- an entity by its kind's number, with its text and data cut from the draft
unfoldable pub filled : (draft : List ℕ) → (kind place text-from text-len data-from data-len count : ℕ) → Entity
filled draft kind place text-from text-len data-from data-len count =
    record {
      kind = kind_of kind;
      place = place;
      text = clean text-len (stream_at draft text-from);
      string = clean data-len (stream_at draft data-from);
      count = count;
    }

-- an entity by its kind's number, with nothing but a count
unfoldable pub counting : (kind place count : ℕ) → Entity
counting kind place count = record { kind = kind_of kind; place = place; text = []; string = []; count = count }

-- the list with entities written behind the first `k`, whose text begins at `t`, and past them as before
unfoldable pub written : (before : List ℕ) → (k t : ℕ) → List Entity → List ℕ
written before k t es = take (6 * k) before ++ (rows t es ++ drop (6 * (k + length es)) before)

-- the text buffer likewise
unfoldable pub text_written : (before : List ℕ) → (t : ℕ) → List Entity → List ℕ
text_written before t es = take t before ++ (texts es ++ drop (t + sizes es) before)

-- where the text of an entity begins in the draft, and how many bytes it has
unfoldable pub cut_from : (how place : ℕ) → ℕ
cut_from how place = if eqb how 0 then place else if eqb how 1 then place else place + 1

unfoldable pub cut_length : (how prefix : ℕ) → ℕ
cut_length how prefix = if eqb how 0 then 0 else if eqb how 1 then prefix else prefix - 1

-- how many entities a kind's number stands for
unfoldable pub one : (kind : ℕ) → ℕ
one kind = if eqb kind 0 then 0 else 1

-- The kind's number of a token with text: 0 is a simple token with the first byte `c`, 1 a quoted string, 2 a curly one.
unfoldable pub word_kind : (c : ℕ) → ℕ
word_kind c =
    if among c (ascii "+-") || within 0x30 0x39 c then 9
    else if eqb c 0x3F then 12
    else if eqb c 0x40 then 13
    else if eqb c 0x3D then 14
    else if eqb c 0x3A then 15
    else 16

unfoldable pub text_kind : (sort c : ℕ) → (metacommand : Bool) → ℕ
text_kind sort c metacommand = if metacommand then sort + 3 else if eqb sort 0 then word_kind c else sort + 9

-- names lose their first byte
unfoldable pub cut_of : (kind : ℕ) → ℕ
cut_of kind = if within 12 15 kind then 2 else 1

-- 18 or 19 for so many entities of which the last alone has text, or 0 where they fit
unfoldable pub short_of : (entities text count size : ℕ) → ℕ
short_of entities text count size = if ltb entities count then 18 else if ltb text size then 19 else 0
