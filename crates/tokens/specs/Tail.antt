-- Tail: whether only whitespace follows a place of a draft (004, section 5.8; document 01, "The calls" and "Order").
use Rattle.std.specs.Prelude.{ℕ, List, ltb, eqb, length, if◌then◌else◌}
use Rattle.chars.specs.Limits.{Limits}
use Rattle.chars.specs.Stream.{Stream, next, stop, stream_at}
use Rattle.tokens.specs.Sorts.{white}

-- `yes` is 1 or 0, and `place` the first place that is not whitespace
pub record Tail : Type 0 where
  pub number : ℕ
  pub yes : ℕ
  pub place : ℕ

-- The end of the draft is yes. A character that is not whitespace is no, and so is one that cleaning refuses.
unfoldable pub blank : Stream → Tail
blank (stop refusal place) =
    if eqb refusal 7 then record { number = 0; yes = 1; place = 0 } else record { number = 0; yes = 0; place = place }
blank (next number place after rest) =
    let behind = blank rest in if white number then behind else record { number = 0; yes = 0; place = place }

-- 1, then 31 for a place past the draft, then the answer
unfoldable pub tail : Limits → (draft : List ℕ) → (place : ℕ) → Tail
tail L draft place =
    if ltb L.draft (length draft) then record { number = 1; yes = 0; place = 0 }
    else if ltb (length draft) place then record { number = 31; yes = 0; place = 0 }
    else blank (stream_at draft place)
