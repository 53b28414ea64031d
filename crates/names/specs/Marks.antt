-- What a name is found by: two numbers made of its bytes, and a bucket. Any function of the bytes would serve; this one looks at each of
-- them, and up to eight bytes can be told from the two numbers and their length.
use Rattle.std.specs.Prelude.{ℕ, ◌+◌, ◌-◌, ◌*◌, ◌/◌, ◌%◌, List, [], ◌∷◌, ltb, eqb, length, get_or, take, drop, if◌then◌else◌}
use Rattle.names.specs.declared.Mark.{Mark}

-- bytes as one number, the first of them lowest
unfoldable pub number_of : List ℕ → ℕ
number_of [] = 0
number_of (b ∷ bs) = b + 256 * number_of bs

-- up to three bytes as one number: the first, the middle and the last
unfoldable pub few_of : List ℕ → ℕ
few_of name =
    let n = length name in
    if eqb n 0 then 0
    else get_or name 0 0 + get_or name (n / 2) 0 * 0x100 + get_or name (n - 1) 0 * 0x10000

-- the first four bytes, or of a shorter name all
unfoldable pub first_of : (name : List ℕ) → ℕ
first_of name = if ltb (length name) 4 then few_of name else number_of (take 4 name)

-- the last four bytes, or of a shorter name 0
unfoldable pub last_of : (name : List ℕ) → ℕ
last_of name = if ltb (length name) 4 then 0 else number_of (drop (length name - 4) name)

-- a number below 2^32 with another one stirred in
unfoldable pub stir : (h w : ℕ) → ℕ
stir h w = (h + w) * 0x4F1BBCDD / 0x1000000 % 0x100000000

-- every four bytes stirred in, but for the last one to four
unfoldable pub blocks : (h : ℕ) → List ℕ → ℕ
blocks h (a ∷ b ∷ c ∷ d ∷ e ∷ bs) = blocks (stir h (number_of (a ∷ b ∷ c ∷ d ∷ []))) (e ∷ bs)
blocks h (a ∷ b ∷ c ∷ d ∷ []) = h
blocks h (a ∷ b ∷ c ∷ []) = h
blocks h (a ∷ b ∷ []) = h
blocks h (a ∷ []) = h
blocks h [] = h

-- a name's bucket, one of 512: its first bytes, with those between stirred to one number, and its last bytes, with its length
unfoldable pub bucket_of : (name : List ℕ) → ℕ
bucket_of name =
    ((blocks 0 (drop 4 name) + first_of name) * 0x2545F491 + (last_of name + length name % 0x100000000) * 0x3C6EF373) / 0x1000000 % 512

unfoldable pub mark_of : (name : List ℕ) → Mark
mark_of name = record { first = first_of name; last = last_of name; bucket = bucket_of name }
