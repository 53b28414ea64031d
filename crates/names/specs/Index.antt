-- An index of names, and what is found through it. Names are entered one after another, and the one entered last is found first. Its
-- array has a number for each of 512 buckets, the entry entered last there (counted from 1; 0 for none), and behind these five for each
-- entry: where the name's bytes begin among the bytes that hold it, how many they are, the entry entered before it in its bucket, and the
-- two numbers of its mark.
use Rattle.std.specs.Prelude.{ℕ, zero, suc, ◌+◌, ◌*◌, ◌<◌, ◌≤◌, ◌≡◌, List, Option, Some, None, eqb, length, get_or, take, drop, set, if◌then◌else◌}
use Rattle.chars.specs.Choice.{same}
use Rattle.names.specs.Marks.{first_of, last_of, bucket_of}
use Rattle.names.specs.declared.Mark.{Mark}

-- where an entry's numbers stand, the entries counted from 0
abbrev pub begin_at : (entry : ℕ) → ℕ
begin_at j = 512 + j * 5

abbrev pub length_at : (entry : ℕ) → ℕ
length_at j = 512 + j * 5 + 1

abbrev pub before_at : (entry : ℕ) → ℕ
before_at j = 512 + j * 5 + 2

abbrev pub first_at : (entry : ℕ) → ℕ
first_at j = 512 + j * 5 + 3

abbrev pub last_at : (entry : ℕ) → ℕ
last_at j = 512 + j * 5 + 4

-- the name of an entry
unfoldable pub key_of : (keys index : List ℕ) → (entry : ℕ) → List ℕ
key_of keys index j = take (get_or index (length_at j) 0) (drop (get_or index (begin_at j) 0) keys)

-- Which of the first `count` entries has this name, counted from 1, the last of them first; 0 for none.
unfoldable pub position : (key : ℕ → List ℕ) → (name : List ℕ) → (count : ℕ) → ℕ
position key name zero = 0
position key name (suc n) = if same name (key n) then suc n else position key name n

-- an entry that is found, counted from 0 as the code has it
abbrev pub found_of : Option ℕ → ℕ
found_of None = 0
found_of (Some e) = suc e

-- the last of the first `count` entries that is in this bucket, counted from 1; 0 for none
unfoldable pub latest : (key : ℕ → List ℕ) → (bucket count : ℕ) → ℕ
latest key b zero = 0
latest key b (suc n) = if eqb (bucket_of (key n)) b then suc n else latest key b n

-- The array is the index of its first `count` entries.
pub record Indexed (keys index : List ℕ) (count : ℕ) : Type 0 where
  pub most : count ≤ 256
  -- each name stands among the bytes
  pub inside : (j : ℕ) → j < count → get_or index (begin_at j) 0 + get_or index (length_at j) 0 ≤ length keys
  pub firsts : (j : ℕ) → j < count → get_or index (first_at j) 0 ≡ first_of (key_of keys index j)
  pub lasts : (j : ℕ) → j < count → get_or index (last_at j) 0 ≡ last_of (key_of keys index j)
  pub heads : (b : ℕ) → b < 512 → get_or index b 0 ≡ latest (key_of keys index) b count
  pub chain :
      (j : ℕ) → j < count → get_or index (before_at j) 0 ≡ latest (key_of keys index) (bucket_of (key_of keys index j)) j

-- one entry more, in its bucket
unfoldable pub entered : (index : List ℕ) → (count : ℕ) → Mark → (begin length : ℕ) → List ℕ
entered index count m at n =
    let b = m.bucket in
    set
    (set
    (set (set (set (set index (begin_at count) at) (length_at count) n) (before_at count) (get_or index b 0)) (first_at count) m.first)
    (last_at count) m.last)
    b (count + 1)
