-- One character in UTF-8 by the grammar of RFC 3629, section 4: each rule as a test on the bytes, with its text above it.
use Rattle.std.specs.Prelude.{ℕ, Bool, true, false, ◌&&◌, ◌||◌, List, [], ◌∷◌}
use Rattle.chars.specs.Choice.{within}

-- the bytes meet one test each, in order, and none is left
abbrev pub each : List (ℕ → Bool) → List ℕ → Bool
each [] [] = true
each [] (b ∷ bytes) = false
each (test ∷ tests) [] = false
each (test ∷ tests) (b ∷ bytes) = test b && each tests bytes

-- one byte alone
abbrev pub only : (b : ℕ) → ℕ → Bool
only b = within b b

-- UTF8-tail = %x80-BF
abbrev pub tail : ℕ → Bool
tail = within 0x80 0xBF

-- UTF8-1 = %x00-7F
unfoldable pub utf8_1 : List ℕ → Bool
utf8_1 bytes = each (within 0x00 0x7F ∷ []) bytes

-- UTF8-2 = %xC2-DF UTF8-tail
unfoldable pub utf8_2 : List ℕ → Bool
utf8_2 bytes = each (within 0xC2 0xDF ∷ tail ∷ []) bytes

-- UTF8-3 = %xE0 %xA0-BF UTF8-tail / %xE1-EC 2( UTF8-tail ) / %xED %x80-9F UTF8-tail / %xEE-EF 2( UTF8-tail )
unfoldable pub utf8_3 : List ℕ → Bool
utf8_3 bytes =
    each (only 0xE0 ∷ within 0xA0 0xBF ∷ tail ∷ []) bytes
    || each (within 0xE1 0xEC ∷ tail ∷ tail ∷ []) bytes
    || each (only 0xED ∷ within 0x80 0x9F ∷ tail ∷ []) bytes
    || each (within 0xEE 0xEF ∷ tail ∷ tail ∷ []) bytes

-- UTF8-4 = %xF0 %x90-BF 2( UTF8-tail ) / %xF1-F3 3( UTF8-tail ) / %xF4 %x80-8F 2( UTF8-tail )
unfoldable pub utf8_4 : List ℕ → Bool
utf8_4 bytes =
    each (only 0xF0 ∷ within 0x90 0xBF ∷ tail ∷ tail ∷ []) bytes
    || each (within 0xF1 0xF3 ∷ tail ∷ tail ∷ tail ∷ []) bytes
    || each (only 0xF4 ∷ within 0x80 0x8F ∷ tail ∷ tail ∷ []) bytes

-- UTF8-char = UTF8-1 / UTF8-2 / UTF8-3 / UTF8-4
unfoldable pub utf8_char : List ℕ → Bool
utf8_char bytes = utf8_1 bytes || utf8_2 bytes || utf8_3 bytes || utf8_4 bytes
