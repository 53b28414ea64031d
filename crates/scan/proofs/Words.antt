-- A token that has begun, as far as its bytes go: each plain byte adds one to it, as long as the limit lets it. Of eight bytes those
-- without a flag are plain, and one with a flag is looked at by itself.
use mathlib.Core.Path.{◌≡◌, ◌∙◌, ap}
use mathlib.Core.Bool.{true}
use mathlib.Core.List.{List}
use Prim.Native.Nat.{ℕ, suc, ◌+◌, ◌-◌, ◌<◌, ◌≤◌}
use native.Mathlib.Omega.{arith}
use lib.ListN.{length, get_or}
use lib.Dec.{eqb}
use borrow.Author.Tests.{eqb-true, eqb-false, eq-eqb}
use Rattle.chars.proofs.Cases.{either}
use Rattle.chars.specs.Limits.{limits}
use Rattle.chars.specs.Stream.{stream_at}
use Rattle.tokens.specs.Sorts.{white}
use Rattle.tokens.specs.Tokens.{Tokens, word, tokens}
use Rattle.tokens.proofs.Passing.{class_at, stepwise}
use Rattle.tokens.proofs.Words.{longer}
use Rattle.tokens.specs.Runs.{bytes_of}
use Rattle.runs.specs.Bytes.{ends_of, goes_on, Looked, Passed}
use Rattle.runs.proofs.Flags.{none_passed, looked_passed, no_flag}
use Rattle.scan.specs.Found.{Stops, Worded}
use Rattle.scan.proofs.Sorts.{ends_plain, white_ends}

-- the tokens from `i` on, behind the bytes of a token from `begun` on
abbrev pub grown : (draft : List ℕ) → (begun i : ℕ) → Tokens
grown draft begun i = tokens limits (word begun (i - begun)) (stream_at draft i)

-- a token that began at `begun` and has not ended before `i`: nothing is said of one that is longer than the limit
pub record Grows (draft : List ℕ) (begun i : ℕ) : Type 0 where
  pub on : begun < i
  pub there : i ≤ length draft
  pub same : i - begun ≤ 255 → tokens limits (word begun 1) (stream_at draft (begun + 1)) ≡ grown draft begun i

module _ (draft : List ℕ) (begun : ℕ) where
  -- a plain byte
  grow :
      (i : ℕ) → begun < i → i < length draft → 3 ≤ class_at draft i → class_at draft i ≤ 4 → i + 1 - begun ≤ 255
      → grown draft begun i ≡ grown draft begun (i + 1)
  grow i on h g l m =
      let one : suc (i - begun) ≡ (i + 1) - begun = omega arith in
      longer limits draft begun i (i - begun) h g l (omega arith) ∙ ap (λ n. tokens limits (word begun n) (stream_at draft (i + 1))) one

  pub starts : begun < length draft → Grows draft begun (begun + 1)
  starts h =
      let one : 1 ≡ begun + 1 - begun = omega arith in
      record {
        on = omega arith;
        there = omega arith;
        same = λ m. ap (λ n. tokens limits (word begun n) (stream_at draft (begun + 1))) one;
      }

  -- bytes that go on with it
  pub passing : (from i : ℕ) → Grows draft begun from → Passed goes_on draft from i → Grows draft begun i
  unfolding goes_on
  passing from i g p =
      let a = g.on in
      let b = p.on in
      let c = p.there in
      let far : from + (i - from) ≡ i = omega arith in
      record {
        on = omega arith;
        there = p.there;
        same =
            λ m.
            g.same (omega arith)
            ∙ (stepwise (grown draft begun) (i - from) from
            (λ j l u.
            let two = ends_plain (get_or draft j 0) (eqb-true _ 3 (p.each j l (omega arith))) in
            grow j (omega arith) (omega arith) two.0 two.1 (omega arith))
            ∙ ap (grown draft begun) far);
      }

  -- where they stop
  pub stopping : (from i how : ℕ) → Grows draft begun from → Stops draft begun from i how → Worded draft begun i how
  stopping from i how g s =
      let h = passing from i g s.passed in
      record { on = h.on; there = s.there; same = h.same s.short; ends = s.ends }

  -- a token of one byte, with whitespace right behind it
  pub alone : begun + 1 < length draft → white (get_or draft (begun + 1) 0) ≡ true → Worded draft begun (begun + 1) 1
  alone h t =
      stopping (begun + 1) (begun + 1) 1 (starts (omega arith))
      (record {
        passed = none_passed goes_on draft (begun + 1) (omega arith);
        there = h;
        ends = white_ends (get_or draft (begun + 1) 0) t;
        short = omega arith;
      })

  -- Of eight bytes of which each one without a flag goes on with it: the first with a flag, if it does not.
  pub flagged :
      (at flags k how : ℕ) → Grows draft begun at → at + 8 ≤ length draft → Looked goes_on draft at flags → k < 8
      → ((j : ℕ) → j < k → get_or (bytes_of 8 flags) j 0 ≡ 0) → ends_of (get_or draft (at + k) 0) ≡ how → at + k - begun ≤ 255
      → Worded draft begun (at + k) how
  flagged at flags k how g h f l none e short =
      stopping at (at + k) how g
      (record {
        passed = looked_passed goes_on draft at at flags k (none_passed goes_on draft at g.there) h f (omega arith) none;
        there = omega arith;
        ends = e;
        short = short;
      })

  -- all eight, where no flag is left
  pub unflagged :
      (at flags : ℕ) → Grows draft begun at → at + 8 ≤ length draft → Looked goes_on draft at flags → flags ≡ 0
      → Grows draft begun (at + 8)
  unflagged at flags g h f e =
      passing at (at + 8) g
      (looked_passed goes_on draft at at flags 8 (none_passed goes_on draft at g.there) h f (omega arith) (no_flag flags e))

-- a byte with a flag that goes on with it after all
pub unflag :
    (draft : List ℕ) (at flags less k : ℕ) → Looked goes_on draft at flags → ends_of (get_or draft (at + k) 0) ≡ 3
    → ((i : ℕ) → (i ≡ k → ⊥) → get_or (bytes_of 8 less) i 0 ≡ 0 → get_or (bytes_of 8 flags) i 0 ≡ 0) → Looked goes_on draft at less
unfolding goes_on
unflag draft at flags less k f e other i l none =
    either (eqb i k)
    (λ t. let same = eqb-true i k t in rw same (eq-eqb _ 3 e))
    (λ t. f i l (other i (eqb-false i k t) none))
