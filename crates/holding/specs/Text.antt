-- Clean bytes as the draft has them.
use Rattle.std.specs.Prelude.{ℕ, ◌≡◌, List, take, drop}
use Rattle.chars.specs.Stream.{stream_at, clean}

-- Clean bytes that take `raw` bytes of the draft: where these are as many, they are the draft's own.
abbrev pub unchanged : (draft : List ℕ) → (from n raw : ℕ) → Type 0
unchanged draft from n raw = raw ≡ n → clean n (stream_at draft from) ≡ take n (drop from draft)
