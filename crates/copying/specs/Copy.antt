-- What the copier of one string, or of one word, answers, and what the part that it is lent holds afterwards.
use Rattle.std.specs.Prelude.{ℕ, List, ◌++◌, ltb, length, drop, if◌then◌else◌, Result, Ok, Err}
use Rattle.chars.specs.Stream.{stream_at, clean}
use Rattle.copying.specs.declared.TooSmall.{TooSmall as TooSmallPart}

-- What the copier did: so many clean bytes stand at the front of the part, or it is too small, and nothing was written.
pub data Copied : Type 0 where
  Whole : (length : ℕ) → Copied
  TooSmall : Copied

-- an answer of the code by what it says
unfoldable pub told : Result ℕ TooSmallPart → Copied
told (Ok length) = Whole length
told (Err part) = TooSmall

-- the part is too small for `n` bytes, or so many clean bytes were written: `n`, where `n` is the clean length of what begins at `from`
unfoldable pub copied : (draft : List ℕ) → (from n : ℕ) → (before : List ℕ) → Copied
copied draft from n before =
    if ltb (length before) n then TooSmall else Whole (length (clean n (stream_at draft from)))

-- the clean bytes at the front, and the rest as it was; a part that is too small stays as it was
unfoldable pub copied_into : (draft : List ℕ) → (from n : ℕ) → (before : List ℕ) → List ℕ
copied_into draft from n before =
    if ltb (length before) n
    then before
    else clean n (stream_at draft from) ++ drop (length (clean n (stream_at draft from))) before
