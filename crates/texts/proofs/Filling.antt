-- An entity's text and data in the text buffer: one is written behind the other, so that both stand there as if written at once.
use mathlib.Core.Path.{◌≡◌, ◌∙◌}
use mathlib.Core.List.{List, [], ◌∷◌, ◌++◌, append-nil}
use Prim.Native.Nat.{ℕ, ◌+◌, ◌≤◌}
use native.Mathlib.Omega.{arith}
use lib.ListN.{length, take, drop}
use Rattle.chars.specs.Stream.{stream_at, clean}
use Rattle.entities.specs.Entity.{texts, size, sizes}
use Rattle.entities.specs.Judging.{filled, text_written}
use Rattle.entities.proofs.Listing.{twice}

-- an entity's text, and then its data
pub both_filled :
    (draft : List ℕ) (kind place text-from text-len data-from data-len count : ℕ) (text : List ℕ) (used : ℕ) (middle after : List ℕ)
    → used + text-len + data-len ≤ length text
    → length (clean text-len (stream_at draft text-from)) ≡ text-len → length (clean data-len (stream_at draft data-from)) ≡ data-len
    → middle ≡ take used text ++ (clean text-len (stream_at draft text-from) ++ drop (used + text-len) text)
    → after
    ≡ take (used + text-len) middle ++ (clean data-len (stream_at draft data-from) ++ drop (used + text-len + data-len) middle)
    → after ≡ text_written text used (filled draft kind place text-from text-len data-from data-len count ∷ [])
unfolding text_written filled texts sizes size
both_filled draft kind place text-from text-len data-from data-len count text used middle after h long data-long m a =
    let new = clean text-len (stream_at draft text-from) in
    let more = clean data-len (stream_at draft data-from) in
    let all : used + (length new + length more + 0) ≡ used + (length new + length more) = omega arith in
    let at : used + text-len ≡ used + length new = omega arith in
    let end : used + text-len + data-len ≡ used + length new + length more = omega arith in
    a ∙ rw (m, end, at, all, append-nil) (twice text new more used (omega arith))
