-- The clean bytes of a stream, one character at a time: with no room there are none, and else the next character's come first, if they
-- fit.
use mathlib.Core.Path.{◌≡◌, refl}
use mathlib.Core.List.{List, [], ◌++◌}
use Prim.Native.Nat.{ℕ, ◌-◌, ◌<◌, ◌≤◌}
use lib.ListN.{length}
use borrow.Author.Tests.{le-leb, lt-leb}
use Rattle.chars.specs.Character.{character_at, encoded}
use Rattle.chars.specs.Stream.{Stream, next, stop, stream_at, clean}
use Rattle.chars.specs.Character.{Clean}
use Rattle.chars.proofs.Extent.{encoded_size}
use Rattle.chars.proofs.Streams.{at_character, at_none}

-- no room, no bytes
pub clean_zero : (s : Stream) → clean 0 s ≡ []
unfolding clean
clean_zero (stop refusal place) = refl
clean_zero (next number place after rest) = rw (lt-leb (length (encoded number)) 0 (encoded_size number).0)

module _ (draft : List ℕ) (i m : ℕ) where
  -- the next character fits
  pub clean_next :
      (number after : ℕ) → character_at draft i ≡ Clean number after → length (encoded number) ≤ m
      → clean m (stream_at draft i) ≡ encoded number ++ clean (m - length (encoded number)) (stream_at draft after)
  unfolding clean
  clean_next number after e h = rw (at_character draft i number after e, le-leb (length (encoded number)) m h)

  -- it does not
  pub clean_full :
      (number after : ℕ) → character_at draft i ≡ Clean number after → m < length (encoded number) → clean m (stream_at draft i) ≡ []
  unfolding clean
  clean_full number after e h = rw (at_character draft i number after e, lt-leb (length (encoded number)) m h)

  -- there is none
  pub clean_none :
      ((number after : ℕ) → character_at draft i ≡ Clean number after → ⊥) → clean m (stream_at draft i) ≡ []
  unfolding clean
  clean_none none = rw (at_none draft i none)
