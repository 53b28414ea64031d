-- No second answer meets the contract of a public call of `tokens`.
use mathlib.Core.Path.{◌≡◌, refl, sym, ◌∙◌, ap}
use mathlib.Core.List.{List}
use Prim.Native.Nat.{ℕ, zero, suc, ◌^◌, ◌/◌, ◌%◌, ◌<◌, ◌≤◌}
use native.Mathlib.Nat.{pow-suc}
use native.Mathlib.Omega.{arith}
use lib.ListN.{length, drop}
use mir.Syntax.{w64}
use mir.Val.{Fits}
use contract.Lifetimes.{Lfts}
use borrow.Fn.Kinds.{Dens, ended_of}
use denote.Triple.Clauses.{AtExit}
use Rattle.chars.specs.Character.{character_at}
use Rattle.chars.specs.Stream.{Stream, next, stop, stream_at}
use Rattle.chars.specs.Character.{Character}
use Rattle.chars.specs.Character.{Clean, Refused, End}
use Rattle.chars.proofs.Cases.{by_bound}
use Rattle.chars.proofs.Only.{one, OneAnswer}
use Rattle.chars.proofs.Refusals.{character_refused}
use Rattle.chars.proofs.Streams.{at_end, at_character, at_refusal, ended}
use Rattle.tokens.specs.Runs.{bytes_of}
use Rattle.tokens.proofs.Told.{same_told}
use Rattle.tokens.proofs as fn

pub token_at_lem : OneAnswer fn.token_at.Kinds.ps fn.token_at.Kinds.r fn.token_at.Reads.Post
token_at_lem κs given a b x y p q = same_told a b (one p.0 q.0) p.1 q.1

-- where a stream's first character stands, or its end
unfoldable stands_at : Stream → ℕ
stands_at (next number place after rest) = place
stands_at (stop refusal place) = place

-- from a place of a draft on, it stands there
stands : (draft : List ℕ) (i : ℕ) → i ≤ length draft → stands_at (stream_at draft i) ≡ i
unfolding stands_at character_at
stands draft i h = go (character_at draft i) refl
  where
    go : (answer : Character) → character_at draft i ≡ answer → stands_at (stream_at draft i) ≡ i
    go (Clean number after) e = rw (at_character draft i number after e)
    go (Refused number bad) e =
        by_bound i (length draft)
        (λ l. rw (at_refusal draft i number bad e l) (character_refused (drop i draft) i number bad e).here)
        (λ l. rw (at_end draft i l) (omega arith))
    go End e = rw (at_end draft i (ended draft i e)) (omega (arith, ended draft i e))

-- so within a draft the stream tells its place
same_place : (draft : List ℕ) (i j : ℕ) → i ≤ length draft → j ≤ length draft → stream_at draft i ≡ stream_at draft j → i ≡ j
same_place draft i j h k e = sym (stands draft i h) ∙ (ap stands_at e ∙ stands draft j k)

pub blank_end : OneAnswer fn.blank_end.Kinds.ps fn.blank_end.Kinds.r fn.blank_end.Reads.Post
blank_end κs given a b x y p q = same_place _ a b p.1 q.1 (one p.0 q.0)

pub comment_end : OneAnswer fn.comment_end.Kinds.ps fn.comment_end.Kinds.r fn.comment_end.Reads.Post
comment_end κs given a b x y p q = same_place _ a b p.1 q.1 (one p.0 q.0)

-- a number is told by its bytes
same_number : (n v w : ℕ) → v < 256 ^ n → w < 256 ^ n → bytes_of n v ≡ bytes_of n w → v ≡ w
unfolding bytes_of
same_number zero v w h k e = omega arith
same_number (suc n) v w h k e =
    let l = rw (pow-suc 256 n) at h in
    let m = rw (pow-suc 256 n) at k in
    let low : v % 256 ≡ w % 256 = cc in
    let rest : bytes_of n (v / 256) ≡ bytes_of n (w / 256) = cc in
    omega (arith, same_number n (v / 256) (w / 256) (omega arith) (omega arith) rest)

pub four : OneAnswer fn.number.four.Kinds.ps fn.number.four.Kinds.r fn.number.four.Reads.Post
four κs given a b x y p q = same_number 4 a b p.1 q.1 (one p.0 q.0)

-- of `eight` there is no second number of 64 bits, and another it cannot answer
pub eight :
    (κs : Lfts 1) (given : Dens κs fn.number.eight.Kinds.ps) (a b : ℕ)
    (x y : AtExit (ended_of 1 fn.number.eight.Kinds.ps fn.number.eight.Kinds.r) κs)
    → Fits w64 a → Fits w64 b → fn.number.eight.Reads.Post κs given a x → fn.number.eight.Reads.Post κs given b y → a ≡ b
eight κs given a b x y h k p q = same_number 8 a b (omega arith) (omega arith) (one p q)
