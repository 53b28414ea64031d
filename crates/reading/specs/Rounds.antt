-- What one round of reading does to what is held and to what is still to be read. Nothing here says more of the format than Reading does.
use Rattle.std.specs.Prelude.{ℕ, ◌+◌, ◌<◌, ◌≡◌, List, [], ltb, length, if◌then◌else◌, Result, Ok, Err}
use Rattle.chars.specs.Limits.{limits}
use Rattle.chars.specs.Refusal.{number_of}
use Rattle.chars.specs.declared.refusal.Refused.{Refused}
use Rattle.chars.specs.Stream.{start, stream_at}
use Rattle.tokens.specs.Tokens.{tokens, between}
use Rattle.entities.specs.Entity.{Entity, sizes}
use Rattle.entities.specs.Judging.{written, text_written}
use Rattle.entities.specs.Stepping.{Ready, room_left, reader_of, Took, Goes, Stops}
use Rattle.entities.specs.declared.state.State.{State}
use Rattle.entities.specs.declared.state.Mode.TheVariants.{Regular}
use Rattle.reading.specs.Reading.{Read, before, read_with, room_of, entities}
use Rattle.reading.specs.declared.Answer.{Answer}
use Rattle.reading.specs.declared.round.Round.{Round}
use Rattle.reading.specs.declared.round.Round.TheVariants.{Next, Last}

-- What a round comes to: reading goes on at a place, or is over: 0 and the byte after `;`, or a refusal and its place.
pub data Turn : Type 0 where
  On : State → (at : ℕ) → Turn
  Over : (number place : ℕ) → State → (after : ℕ) → Turn

-- a round of the code in the state `s`, which stands where it is refused
abbrev pub turn : State → Result Round Refused → Turn
turn s (Ok (Next t after)) = On t after
turn s (Ok (Last t after)) = Over 0 0 t after
turn s (Err r) = Over (number_of r.refusal) r.place s 0

-- nothing is held or open
abbrev pub nothing : State
nothing = record { mode = Regular; depth = 0; entities = 0; text = 0 }

-- where the code begins
abbrev pub opened : Result ℕ Refused → Turn
opened (Ok at) = On nothing at
opened (Err r) = Over (number_of r.refusal) r.place nothing 0

-- the answer, in the state that reading has come to
abbrev pub answer_of : State → Result ℕ Refused → Answer
answer_of s (Ok consumed) =
    record { number = 0; place = 0; entities = s.entities; text = s.text; consumed = consumed; steps = 0; cells = 0 }
answer_of s (Err r) =
    record { number = number_of r.refusal; place = r.place; entities = s.entities; text = s.text; consumed = 0; steps = 0; cells = 0 }

-- where reading begins
unfoldable pub opening_of : (draft : List ℕ) → Turn
opening_of draft =
    if ltb limits.draft (length draft)
    then Over 1 0 (record { mode = Regular; depth = 0; entities = 0; text = 0 }) 0
    else On (record { mode = Regular; depth = 0; entities = 0; text = 0 }) (start draft)

-- a step behind which reading goes on
unfoldable pub behind_of : Took → (place after : ℕ) → Turn
behind_of (Stops number t) place after = Over number place t 0
behind_of (Goes t) place after = On t after

-- the last token's step
unfoldable pub ended_of : Took → (place after : ℕ) → Turn
ended_of (Stops number t) place after = Over number place t 0
ended_of (Goes t) place after = Over 0 0 t after

-- what the tokens from a place on still come to
unfoldable pub ahead : (draft list text groups : List ℕ) → State → (at : ℕ) → Read
ahead draft list text groups s at =
    entities limits draft (room_left s list text) (reader_of s groups) (tokens limits between (stream_at draft at))

-- What is read so far: entities that both buffers hold, and behind them `x` is still to be read.
pub record SoFar (draft list₀ text₀ list text groups : List ℕ) (s : State) (at : ℕ) (x : Read) : Type 0 where
  pub es : List Entity
  pub list_is : list ≡ written list₀ 0 0 es
  pub text_is : text ≡ text_written text₀ 0 es
  pub many : s.entities ≡ length es
  pub much : s.text ≡ sizes es
  pub same_list : length list ≡ length list₀
  pub same_text : length text ≡ length text₀
  pub ready : Ready s list text groups at
  pub rest : read_with limits (room_of list₀ text₀) draft ≡ before es x

-- Entities were written, and behind them `x` is still to be read.
pub record Went (draft list text groups : List ℕ) (s : State) (at : ℕ) (t : State) (list' text' : List ℕ) (x : Read) : Type 0 where
  pub es : List Entity
  pub list_is : list' ≡ written list s.entities s.text es
  pub text_is : text' ≡ text_written text s.text es
  pub many : t.entities ≡ s.entities + length es
  pub much : t.text ≡ s.text + sizes es
  pub comes : ahead draft list text groups s at ≡ before es x

unfoldable pub goes_round :
    (draft list text groups : List ℕ) → State → (at : ℕ) → Turn → (list' text' groups' : List ℕ) → Type 0
goes_round draft list text groups s at (On t on) list' text' groups' =
    Went draft list text groups s at t list' text' (ahead draft list' text' groups' t on)
    × Ready t list' text' groups' on × (at < on) × (at < length draft)
goes_round draft list text groups s at (Over number place t after) list' text' groups' =
    Went draft list text groups s at t list' text'
    (record { number = number; place = place; consumed = after; entities = [] })
