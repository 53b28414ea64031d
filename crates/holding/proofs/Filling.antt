-- Clean bytes in the text buffer: the copier fills the front of the part that it is lent, and the part goes back into its place, so what
-- stands before it and behind the new bytes is as it was.
use mathlib.Core.Path.{◌≡◌, ◌∙◌, ap}
use mathlib.Core.List.{List, [], ◌++◌, append-nil}
use Prim.Native.Nat.{ℕ, ◌+◌, ◌-◌, ◌≤◌}
use native.Mathlib.Omega.{arith}
use lib.ListN.{length, take, drop, length-drop}
use lib.Seq.{length-take-le, take_all, drop-drop, drop-length}
use borrow.Author.Tests.{le-ltb}
use borrow.Rule.Slice.PartMut.{put_mid, post_of, Post-is}
use Rattle.chars.specs.Stream.{stream_at, clean}
use Rattle.copying.specs.Copy.{copied_into}

-- what the copier leaves of a part, where there are as many clean bytes as it is asked for
pub copied_front :
    (draft : List ℕ) (from n : ℕ) (before : List ℕ) → n ≤ length before → length (clean n (stream_at draft from)) ≡ n
    → copied_into draft from n before ≡ clean n (stream_at draft from) ++ drop n before
unfolding copied_into
copied_front draft from n before h long = rw (le-ltb (length before) n h, long)

-- the part back in its place
pub part_filled :
    (new : List ℕ) (n : ℕ) (text : List ℕ) (used : ℕ) (part : List ℕ) → used + n ≤ length text
    → part ≡ new ++ drop n (take (length text - used) (drop used text))
    → put_mid used (length text - used) text part ≡ take used text ++ (new ++ drop (used + n) text)
part_filled new n text used part h is =
    let all : take (length text - used) (drop used text) ≡ drop used text =
    take_all (length text - used) (drop used text) (omega (arith, length-drop used text)) in
    let whole : part ≡ new ++ drop (used + n) text = is ∙ rw (all, drop-drop) in
    let none : post_of used (length text - used) text ≡ [] = Post-is used (length text) text (omega arith) ∙ drop-length text in
    ap (λ l. take used text ++ l) (rw (none, append-nil) whole)

-- the same with bytes from a longer list
pub part_taken :
    (bytes : List ℕ) (n : ℕ) (text : List ℕ) (used : ℕ) (part : List ℕ) → n ≤ length bytes → used + n ≤ length text
    → part ≡ take n bytes ++ drop (length (take n bytes)) (take (length text - used) (drop used text))
    → put_mid used (length text - used) text part ≡ take used text ++ (take n bytes ++ drop (used + n) text)
part_taken bytes n text used part l h is =
    part_filled (take n bytes) n text used part h (is ∙ rw (length-take-le n bytes l))
