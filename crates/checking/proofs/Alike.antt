-- Two checks under one table whose readings are the same give the same answer and hold the same: behind the table, a check looks at nothing
-- but what was read. So drafts that agree through an accepted `|;`, and more room than is needed, change nothing.
use Prim.Native.Nat.{ℕ, ◌/◌, ◌≤◌}
use mathlib.Core.Path.{◌≡◌, refl, ◌∙◌, ap}
use mathlib.Core.List.{List}
use mathlib.Core.Option.{none, some}
use native.Mathlib.Omega.{arith}
use lib.Dec.{eqb}
use lib.ListN.{length, take}
use contract.Lifetimes.{Lfts}
use borrow.Author.Tests.{ne_eqb}
use borrow.Fn.World.{ArgsD, ResD}
use borrow.Fn.Kinds.{ended_of}
use denote.Triple.Clauses.{AtExit}
use Rattle.chars.specs.Limits.{limits}
use Rattle.chars.proofs.Cases.{either}
use Rattle.reading.specs.Reading.{Read, reading, read_with, room_of, answered}
use Rattle.reading.proofs.Alike.{Alike, answered_alike}
use Rattle.reading.proofs.Roomier.{Other, read_roomier}
use Rattle.reading.proofs.Through as Through
use Rattle.table.specs.Table.{Operation, operations}
use Rattle.rules.proofs.First.{by_option}
use Rattle.checking.specs.Checking.{checked, unsound, completed, checked_with, checking}
use Rattle.checking.proofs.Stages.{at_table, at_reading}
use Rattle.checking.specs.contracts.check as check
use Rattle.checking.proofs.check.Kinds as kinds
use Rattle.checking.proofs.check.Reads as reads

module _ (os : List Operation) (list text list' text' : List ℕ) (r : Read) where
  same_completed : Alike (completed limits os list text r) (completed limits os list' text' r)
  unfolding completed checked answered
  same_completed =
      let same = answered_alike list text list' text' r in
      either (eqb r.number 0)
      (λ t. rw (t, completed) (record { answers = refl; lists = same.lists; texts_held = same.texts_held }))
      (λ t. rw (t, completed) same)

module _ (draft draft' list text list' text' table : List ℕ) where
  same_unsound : operations limits table ≡ none → Alike (checking limits draft list text table) (checking limits draft' list' text' table)
  unfolding unsound
  same_unsound e =
      rw (at_table limits draft list text table e, at_table limits draft' list' text' table e)
      (record { answers = refl; lists = refl; texts_held = refl })

  same_read :
      (os : List Operation) → operations limits table ≡ some os
      → read_with limits (room_of list' text') draft' ≡ read_with limits (room_of list text) draft
      → Alike (checking limits draft list text table) (checking limits draft' list' text' table)
  unfolding checking checked_with
  same_read os e same =
      rw (e, checked_with, same) (same_completed os list text list' text' (read_with limits (room_of list text) draft))

-- Two calls with buffers before them, answers a and b, and buffers after them, under one table.
module _ (κs : Lfts 4) (given : ArgsD check.signature κs) (a : ResD check.signature κs) (x : AtExit (ended_of 4 kinds.ps kinds.r) κs)
    (κs' : Lfts 4) (given' : ArgsD check.signature κs') (b : ResD check.signature κs') (y : AtExit (ended_of 4 kinds.ps kinds.r) κs')
    (p : reads.Post κs given a x) (q : reads.Post κs' given' b y) (one : given'.1.1.1.0.now ≡ given.1.1.1.0.now) where
  abbrev draft : List ℕ
  draft = given.0.now

  abbrev draft' : List ℕ
  draft' = given'.0.now

  abbrev list : List ℕ
  list = given.1.0.now

  abbrev list' : List ℕ
  list' = given'.1.0.now

  abbrev text : List ℕ
  text = given.1.1.0.now

  abbrev text' : List ℕ
  text' = given'.1.1.0.now

  abbrev table : List ℕ
  table = given.1.1.1.0.now

  -- what the calls leave
  abbrev Same : Type 0
  Same =
      Alike (record { answer = a; list = x.1.0.now; text = x.1.1.0.now })
      (record { answer = b; list = y.1.0.now; text = y.1.1.0.now })

  of_calls : Alike (checking limits draft list text table) (checking limits draft' list' text' table) → Same
  of_calls s = rw (q.0, q.1.0, q.1.1, p.0, p.1.0, p.1.1, one) s

  -- drafts that agree through an accepted `|;`, the second within the length limit, with equal room
  pub through :
      length list' / 6 ≡ length list / 6 → length text' ≡ length text → length draft' ≤ limits.draft
      → (reading limits draft list text).answer.number ≡ 0
      → take (reading limits draft list text).answer.consumed draft ≡ take (reading limits draft list text).answer.consumed draft'
      → Same
  unfolding reading answered room_of
  through rooms long there z alike =
      of_calls (by_option (operations limits table) (same_unsound draft draft' list text list' text' table)
      (λ os e. same_read draft draft' list text list' text' table os e
      (rw (rooms, long) (Through.through limits draft draft' _ there alike (room_of list text) z refl))))

  -- a refusal of reading stands
  refused :
      (os : List Operation) → operations limits table ≡ some os → ((read_with limits (room_of list text) draft).number ≡ 0 → ⊥)
      → a.number ≡ (read_with limits (room_of list text) draft).number
  unfolding reading answered
  refused os e n =
      ap (λ r. r.number) p.0 ∙ ap (λ r. r.answer.number) (at_reading limits draft list text table os e (ne_eqb _ 0 n))

  -- the same draft with no less room, where the first call has room enough
  pub roomier :
      draft' ≡ draft → length list / 6 ≤ length list' / 6 → length text ≤ length text' → Other a.number → Same
  unfolding reading answered room_of
  roomier same more longer o =
      of_calls (by_option (operations limits table) (same_unsound draft draft' list text list' text' table)
      (λ os e. same_read draft draft' list text list' text' table os e
      (rw same (read_roomier limits draft (room_of list text) (room_of list' text') (record { more = more; longer = longer })
      (record {
        no_list = λ n. o.no_list (refused os e (λ z. omega arith) ∙ n);
        no_text = λ n. o.no_text (refused os e (λ z. omega arith) ∙ n);
      })))))
