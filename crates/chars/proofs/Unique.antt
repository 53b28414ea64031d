-- No second answer meets the contract of a public call of `chars`.
use mathlib.Core.Path.{◌≡◌, refl}
use mathlib.Core.List.{List}
use Prim.Native.Nat.{ℕ}
use Rattle.chars.proofs as fn
use Rattle.chars.proofs.Only.{one, OneAnswer}
use Rattle.chars.proofs.Numbers.{same_seen}
use Rattle.chars.specs.declared.Encoded.{Encoded}

pub character_at_lem : OneAnswer fn.character_at.Kinds.ps fn.character_at.Kinds.r fn.character_at.Reads.Post
character_at_lem κs given a b x y p q = same_seen a b (one p q)

pub number : OneAnswer fn.refusal.Refusal.number.Kinds.ps fn.refusal.Refusal.number.Kinds.r fn.refusal.Refusal.number.Reads.Post
number κs given a b x y = one

pub at : OneAnswer fn.refusal.Refusal.at.Kinds.ps fn.refusal.Refusal.at.Kinds.r fn.refusal.Refusal.at.Reads.Post
at κs given a b x y = one

pub start : OneAnswer fn.start.Kinds.ps fn.start.Kinds.r fn.start.Reads.Post
start κs given a b x y = one

pub begins_with : OneAnswer fn.begins_with.Kinds.ps fn.begins_with.Kinds.r fn.begins_with.Reads.Post
begins_with κs given a b x y = one

pub encoded_length : OneAnswer fn.encoded_length.Kinds.ps fn.encoded_length.Kinds.r fn.encoded_length.Reads.Post
encoded_length κs given a b x y = one

-- bytes and length are all that an answer has
both : (a b : Encoded) → a.bytes ≡ b.bytes → a.length ≡ b.length → a ≡ b
both a b p q = by_parts a.bytes a.length p q
  where
    by_parts :
        (bytes : List ℕ) (length : ℕ) → bytes ≡ b.bytes → length ≡ b.length
        → ◌≡◌ {A = Encoded} (record { bytes = bytes; length = length }) b
    by_parts bytes length p q = rw (p, q) refl

pub encode : OneAnswer fn.encode.Kinds.ps fn.encode.Kinds.r fn.encode.Reads.Post
encode κs given a b x y p q = both a b (one p.0 q.0) (one p.1 q.1)
