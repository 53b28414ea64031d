-- A draft's characters as a stream (004, section 2; document 01, "From bytes to characters").
use Rattle.std.specs.Prelude.{ℕ, zero, suc, ◌-◌, min, List, [], ◌∷◌, ◌++◌, leb, length, take, drop, if◌then◌else◌}
use Rattle.chars.specs.Choice.{same}
use Rattle.chars.specs.Character.{character, encoded}
use Rattle.chars.specs.Character.{Character}
use Rattle.chars.specs.Character.{Clean, Refused, End}

-- Characters, each with its place and the byte after it, and then the stream's own end: a refusal 2 to 5 with its place, or 7 at
-- the draft's length. Whoever takes no more characters never meets the end.
pub data Stream : Type 0 where
  next : (number place after : ℕ) → Stream → Stream
  stop : (refusal place : ℕ) → Stream

-- A character at `place`, and the stream behind it, given how many bytes are still to be passed over. The `let` has a stream
-- computed only as far as it is read.
unfoldable pub begun : (place : ℕ) → Character → (ℕ → Stream) → Stream
begun place (Clean number after) behind = let rest = behind (after - suc place) in next number place after rest
begun place (Refused number bad) behind = stop number bad
begun place End behind = stop 7 place

-- the stream of the bytes from `place` on, of which `passed` still belong to the character before
unfoldable pub stream : (passed place : ℕ) → List ℕ → Stream
stream passed place [] = stop 7 place
stream (suc passed) place (b ∷ bytes) = stream passed (suc place) bytes
stream zero place (b ∷ bytes) =
    begun place (character (b ∷ bytes) place) (λ passed. stream passed (suc place) bytes)

-- the stream from a place of a draft on: a place past the draft is its end
unfoldable pub stream_at : (draft : List ℕ) → ℕ → Stream
stream_at draft place = stream 0 (min place (length draft)) (drop place draft)

-- the byte order mark
abbrev pub mark : List ℕ
mark = 0xEF ∷ 0xBB ∷ 0xBF ∷ []

-- where a draft's text begins: a byte order mark at its start is lost, once
unfoldable pub start : (draft : List ℕ) → ℕ
start draft = if same (take 3 draft) mark then 3 else 0

-- the re-encoded bytes of a stream's characters, as many whole characters as `n` bytes have room for
unfoldable pub clean : (n : ℕ) → Stream → List ℕ
clean n (stop refusal place) = []
clean n (next number place after rest) =
    let bytes = encoded number in
    let more = bytes ++ clean (n - length bytes) rest in
    if leb (length bytes) n then more else []
