-- What the code keeps between tokens, and what one token does to it, in the words of Making. Nothing here says more of the format than
-- Making does.
use Rattle.std.specs.Prelude.{ℕ, zero, suc, ◌+◌, ◌-◌, ◌*◌, ◌<◌, ◌≤◌, ◌/◌, ◌≡◌, Bool, true, false, not, ◌&&◌, ◌||◌, List, [], ◌∷◌, leb, eqb, length, get_or, take, drop, if◌then◌else◌, Result, Ok, Err}
use Rattle.chars.specs.Limits.{limits}
use Rattle.chars.specs.Refusal.{number_of}
use Rattle.chars.specs.declared.refusal.Refusal.{Refusal}
use Rattle.chars.specs.declared.refusal.Refusal.TheVariants.{SemicolonOutside, NoGroup, TooManyGroups, ListFull, TextFull}
use Rattle.chars.specs.Stream.{stream_at, clean}
use Rattle.tokens.specs.Tokens.{simple, quoted, curly}
use Rattle.tokens.specs.Runs.{class_of}
use Rattle.runs.specs.Bytes.{begins_of}
use Rattle.entities.specs.Entity.{Entity, sizes}
use Rattle.entities.specs.Making.{Reader, Judged, Room, Handled, stops, holds, fitted, handled, closing, judged, judged_last}
use Rattle.entities.specs.Judging.{bares, one, written, text_written}
use Rattle.entities.specs.declared.state.State.{State}
use Rattle.entities.specs.declared.state.Mode.{Mode}
use Rattle.entities.specs.declared.state.Mode.TheVariants.{Regular, Bracket, Metacommand}

-- the open groups, innermost first
unfoldable pub open_groups : (array : List ℕ) → (depth : ℕ) → List ℕ
open_groups array zero = []
open_groups array (suc depth) = get_or array depth 0 ∷ open_groups array depth

-- each of them is at most `most`
unfoldable pub below : List ℕ → (most : ℕ) → Type 0
below [] most = Unit {0}
below (n ∷ groups) most = (n ≤ most) × below groups most

-- a token's sort, as the code has it: 0 simple, 1 quoted, 2 curly, 3 the last
unfoldable pub judged_as : (sort : ℕ) → Reader → (place : ℕ) → (text string : List ℕ) → Judged
judged_as sort r place text string =
    if eqb sort 0 then judged limits simple r place text string
    else if eqb sort 1 then judged limits quoted r place text string
    else if eqb sort 2 then judged limits curly r place text string
    else judged_last r place

unfoldable pub closing_as : (sort : ℕ) → (text : List ℕ) → Bool
closing_as sort text = if eqb sort 0 then closing simple text else false

-- whether the token before was `[`, and whether a metacommand is open
abbrev pub bracketed : Mode → Bool
bracketed Regular = false
bracketed Bracket = true
bracketed Metacommand = false

abbrev pub commanded : Mode → Bool
commanded Regular = false
commanded Bracket = false
commanded Metacommand = true

-- what the tokens so far leave open
unfoldable pub reader_of : State → (groups : List ℕ) → Reader
reader_of s groups =
    record { metacommand = commanded s.mode; opened = bracketed s.mode; groups = open_groups groups s.depth }

-- the room that is left
unfoldable pub room_left : State → (list text : List ℕ) → Room
room_left s list text = record { entities = length list / 6 - s.entities; text = length text - s.text }

-- A token's text and data as reading cuts them: they are as long as it says, its text is the draft's own bytes, and its first byte is a
-- character by itself.
pub record Contents (draft : List ℕ) (place prefix from n : ℕ) : Type 0 where
  pub here : place < length draft
  pub text_long : length (clean prefix (stream_at draft place)) ≡ prefix
  pub text_raw : clean prefix (stream_at draft place) ≡ take prefix (drop place draft)
  pub string_long : length (clean n (stream_at draft from)) ≡ n
  pub own : 1 ≤ prefix → 1 ≤ class_of (get_or draft place 0)

-- What is held so far lies within the buffers, and all numbers are small for where the next token may begin.
pub record Ready (s : State) (list text groups : List ℕ) (at : ℕ) : Type 0 where
  pub deep : s.depth ≤ 64
  pub array : length groups ≡ 64
  pub held : 6 * s.entities ≤ length list
  pub used : s.text ≤ length text
  pub small : s.text ≤ 8192 * at
  pub numbers : below (open_groups groups s.depth) (at + 1)

-- the same, but for the text buffer
pub record Steady (s : State) (list groups : List ℕ) (at : ℕ) : Type 0 where
  pub deep : s.depth ≤ 64
  pub array : length groups ≡ 64
  pub held : 6 * s.entities ≤ length list
  pub small : s.text ≤ 8192 * at
  pub numbers : below (open_groups groups s.depth) (at + 1)

-- what one token came to, as the code has it: the state behind it, or a number of refusal and a state that holds as much as before
pub data Took : Type 0 where
  Goes : State → Took
  Stops : ℕ → State → Took

unfoldable pub took : State → Result State Refusal → Took
took s (Ok t) = Goes t
took s (Err r) = Stops (number_of r) s

-- What one token did, against what Making says of it: the same refusal and nothing written, or the same entities written, the same room
-- left and the same left open.
unfoldable pub agrees :
    Handled → Took → (s : State) → (list text list' text' groups' : List ℕ) → (place : ℕ) → Type 0
agrees (stops n) (Stops m t) s list text list' text' groups' place =
    (m ≡ n) × (list' ≡ list) × (text' ≡ text) × (t.entities ≡ s.entities) × (t.text ≡ s.text)
agrees (stops n) (Goes t) s list text list' text' groups' place = ⊥
agrees (holds es room r) (Stops m t) s list text list' text' groups' place = ⊥
agrees (holds es room r) (Goes t) s list text list' text' groups' place =
    (list' ≡ written list s.entities s.text es)
    × (text' ≡ text_written text s.text es)
    × (t.entities ≡ s.entities + length es)
    × (t.text ≡ s.text + sizes es)
    × (r ≡ reader_of t groups')
    × (room ≡ room_left t list text)
    × Ready t list text groups' (place + 1)

-- what the next token is known to have: data only where it is a string, and a first byte where it is simple
unfoldable pub sorted : (sort prefix n : ℕ) → Type 0
sorted sort prefix n = (sort ≡ 0 → 1 ≤ prefix) × ((sort ≡ 1 → ⊥) → (sort ≡ 2 → ⊥) → n ≡ 0)

-- A token whose entities have no text: 18 and nothing written where they do not fit, else they are written behind those held.
pub data Fits (s : State) (list : List ℕ) (es : List Entity) (mode : Mode) (depth : ℕ) (list' : List ℕ)
    (r : Result State Refusal) : Type 0 where
  short :
      length list < 6 * (s.entities + length es) → r ≡ Err ListFull → list' ≡ list
      → Fits s list es mode depth list' r
  room :
      6 * (s.entities + length es) ≤ length list → list' ≡ written list s.entities s.text es
      → r ≡ Ok (record { mode = mode; depth = depth; entities = s.entities + length es; text = s.text })
      → Fits s list es mode depth list' r

-- What its own rules make of a simple token whose first byte is `c`, behind an inserted begin group (`lead` is 6) or none (0), where it has
-- no text.
unfoldable pub Ruled :
    (c lead : ℕ) → State → (list groups : List ℕ) → (place : ℕ) → Result State Refusal → (list' groups' : List ℕ) → Type 0
Ruled c lead s list groups place r list' groups' =
    (T text : List ℕ) → get_or T 0 0 ≡ c → Ready s list text groups place
    → agrees
    (fitted (room_left s list text) (bares lead place) (judged_as 0 (reader_of s groups) place T []))
    (took s r)
    s
    list
    text
    list'
    text
    groups'
    place

-- ( ) [ ] , % ; which are tokens alone and have no text where no metacommand is open
unfoldable pub structural : (c : ℕ) → Bool
structural c = eqb (begins_of c) 3

-- a simple token that has text, by its first byte: in a metacommand all but % and ;
unfoldable pub worded : (metacommand : Bool) → (c : ℕ) → Bool
worded metacommand c = if metacommand then not (eqb c 0x25 || eqb c 0x3B) else not (structural c)

-- Whether a token brings a begin group: any behind `[` but `]`. The state in which it is judged then, and the groups that are open.
unfoldable pub entered_by : (brings : Bool) → State → State
entered_by brings s =
    if brings
    then record { mode = Regular; depth = s.depth + 1; entities = s.entities; text = s.text }
    else s

unfoldable pub entered_groups : (brings : Bool) → (groups : List ℕ) → List ℕ
entered_groups brings groups = if brings then 1 ∷ groups else groups

unfoldable pub lead_of : (brings : Bool) → ℕ
lead_of brings = if brings then 6 else 0

-- The state in which a token is written: where it brings a begin group, that is held and open.
unfoldable pub led_by : (brings : Bool) → State → State
led_by brings s =
    if brings
    then record { mode = Regular; depth = s.depth + 1; entities = s.entities + 1; text = s.text }
    else s

-- the begin group that a token brings is written, or none
pub record Leads (brings : Bool) (s : State) (list groups : List ℕ) (place : ℕ) (r : Result State Refusal)
    (list' groups' : List ℕ) : Type 0 where
  pub shallow : brings ≡ true → s.depth < 64
  pub is : r ≡ Ok (led_by brings s)
  pub list_is : list' ≡ written list s.entities s.text (bares (lead_of brings) place)
  pub array : length groups' ≡ 64
  pub opens : open_groups groups' (entered_by brings s).depth ≡ entered_groups brings (open_groups groups s.depth)

-- Before a token with `size` bytes of text and data is written: 17, 18 or 19 with nothing written; or there is room for all of it, and the
-- begin group that it brings is written.
pub data Roomed (s : State) (list text groups : List ℕ) (place size : ℕ) (r : Result State Refusal) (list' groups' : List ℕ) : Type 0 where
  crowded :
      (bracketed s.mode && leb 64 s.depth) ≡ true → r ≡ Err TooManyGroups → list' ≡ list
      → Roomed s list text groups place size r list' groups'
  full :
      (bracketed s.mode ≡ true → s.depth < 64) → length list - 6 * s.entities < 6 * (one (lead_of (bracketed s.mode)) + 1)
      → r ≡ Err ListFull → list' ≡ list → Roomed s list text groups place size r list' groups'
  long :
      (bracketed s.mode ≡ true → s.depth < 64) → 6 * (one (lead_of (bracketed s.mode)) + 1) ≤ length list - 6 * s.entities
      → length text - s.text < size → r ≡ Err TextFull → list' ≡ list
      → Roomed s list text groups place size r list' groups'
  roomy :
      Leads (bracketed s.mode) s list groups place r list' groups'
      → 6 * (one (lead_of (bracketed s.mode)) + 1) ≤ length list - 6 * s.entities → size ≤ length text - s.text
      → Roomed s list text groups place size r list' groups'

-- whether a token alone brings a begin group
abbrev pub brings_by : (mode : Mode) → (c : ℕ) → Bool
brings_by mode c = bracketed mode && not (eqb c 0x5D)

-- what such a token is refused with by its own rules, with that group open; and how many entities it has where it is not
unfoldable pub refused_behind : (c depth : ℕ) → Result (Unit {0}) Refusal
refused_behind c depth =
    if eqb c 0x29 then Err NoGroup
    else if eqb c 0x3B then Err SemicolonOutside
    else if eqb c 0x28 then if leb 64 (depth + 1) then Err TooManyGroups else Ok tt
    else Ok tt

unfoldable pub own_behind : (c : ℕ) → ℕ
own_behind c = if eqb c 0x5B then 0 else if eqb c 0x2C then 2 else 1

-- what a token alone did, against what Making says of it
abbrev pub Told : (c : ℕ) → State → (list groups : List ℕ) → (place : ℕ) → Took → (list' groups' : List ℕ) → Type 0
Told c s list groups place took list' groups' =
    (T text : List ℕ) → get_or T 0 0 ≡ c → Ready s list text groups place
    → agrees
    (handled limits (room_left s list text) (reader_of s groups) (closing_as 0 T) place (λ q. judged_as 0 q place T []))
    took
    s
    list
    text
    list'
    text
    groups'
    place

-- Before a token alone is ruled: it is refused for the begin group that it brings, or behind it; or nothing can refuse it any more where it
-- brings one, and that is written.
pub data Led (c : ℕ) (s : State) (list groups : List ℕ) (place : ℕ) (r : Result State Refusal) (list' groups' : List ℕ) : Type 0 where
  refused :
      (e : Refusal) → r ≡ Err e → Told c s list groups place (Stops (number_of e) s) list' groups'
      → Led c s list groups place r list' groups'
  leads :
      Leads (brings_by s.mode c) s list groups place r list' groups'
      → (brings_by s.mode c ≡ true
      → (refused_behind c s.depth ≡ Ok tt) × (6 * (s.entities + 1 + own_behind c) ≤ length list))
      → Led c s list groups place r list' groups'
