-- How the definitions decide: a choice by a test, and the tests that they share.
use Rattle.std.specs.Prelude.{ℕ, Bool, true, false, ◌&&◌, ◌||◌, List, [], ◌∷◌, leb, eqb}
use Prim.Native.Char.{code}
use Prim.Native.String.{String}

-- `low ≤ n ≤ high`
abbrev pub within : (low high n : ℕ) → Bool
within low high n = leb low n && leb n high

-- `n` stands in the list
abbrev pub among : ℕ → List ℕ → Bool
among n [] = false
among n (m ∷ ms) = eqb n m || among n ms

-- two lists are the same, entry by entry
abbrev pub same : List ℕ → List ℕ → Bool
same [] [] = true
same [] (m ∷ ms) = false
same (n ∷ ns) [] = false
same (n ∷ ns) (m ∷ ms) = eqb n m && same ns ms

-- the numbers of a text's characters: how these files write a list of bytes of US-ASCII
abbrev pub ascii : String → List ℕ
ascii String.[] = []
ascii (String.◌∷◌ c s) = code c ∷ ascii s
