-- A reading's number is at most 19, and where it is 1 nothing is read. The tokens end by 2 to 9, a token is refused by 10 to 19, and 1
-- comes of the draft's length alone, before the first token.
use mathlib.Core.Path.{◌≡◌, refl}
use mathlib.Core.List.{List, []}
use Prim.Native.Nat.{ℕ, ◌≤◌}
use native.Mathlib.Omega.{arith}
use lib.Dec.{ltb}
use lib.ListN.{length}
use Rattle.chars.specs.Limits.{Limits}
use Rattle.chars.specs.Stream.{start, stream_at}
use Rattle.chars.proofs.Cases.{either}
use Rattle.tokens.specs.Tokens.{Tokens, token, last, refused, tokens, between}
use Rattle.tokens.proofs.Refused.{Numbered, numbered}
use Rattle.entities.specs.Making.{Reader, fresh, Room, Handled, stops, holds}
use Rattle.reading.specs.Reading.{Read, refusal, success, before, taken, entities, read_with}
use Rattle.reading.proofs.Handled.{Held, token_held, last_held}

-- how what is read of tokens can end
record Behind (x : Read) : Type 0 where
  most : x.number ≤ 19
  not_long : x.number ≡ 1 → ⊥

taken_behind :
    (place : ℕ) (h : Handled) (rest : Room → Reader → Read) → Held place h → ((left : Room) (r : Reader) → Behind (rest left r))
    → Behind (taken place h rest)
unfolding taken refusal before
taken_behind place (stops n) rest b f = record { most = b.1; not_long = λ e. omega arith }
taken_behind place (holds es left r) rest b f = record { most = (f left r).most; not_long = (f left r).not_long }

entities_behind :
    (L : Limits) (draft : List ℕ) (room : Room) (r : Reader) (ts : Tokens) → Numbered ts → Behind (entities L draft room r ts)
unfolding entities refusal success
entities_behind L draft room r (refused number place) n = record { most = omega arith; not_long = λ e. omega arith }
entities_behind L draft room r (last place after) n =
    taken_behind place _ _ (last_held L room r place) (λ left r. record { most = omega arith; not_long = λ e. omega arith })
entities_behind L draft room r (token w rest) n =
    taken_behind w.place _ _ (token_held L draft room r w) (λ left r. entities_behind L draft left r rest n)

read_behind :
    (L : Limits) (room : Room) (draft : List ℕ)
    → Behind (entities L draft room fresh (tokens L between (stream_at draft (start draft))))
read_behind L room draft =
    entities_behind L draft room fresh (tokens L between (stream_at draft (start draft))) (numbered L draft (start draft))

pub read_number : (L : Limits) (room : Room) (draft : List ℕ) → (read_with L room draft).number ≤ 19
unfolding read_with refusal
read_number L room draft =
    either (ltb L.draft (length draft)) (λ t. rw t (omega arith)) (λ t. rw t (read_behind L room draft).most)

pub read_long :
    (L : Limits) (room : Room) (draft : List ℕ) → (read_with L room draft).number ≡ 1 → (read_with L room draft).entities ≡ []
unfolding read_with refusal
read_long L room draft =
    either (ltb L.draft (length draft))
    (λ t. rw t (λ e. refl))
    (λ t. rw t (λ e. absurd ((read_behind L room draft).not_long e)))
