-- What the theorems say of reading, said of the call: of every answer and all buffers that meet the contract of `read` as the source has
-- it. The contract equates them with the definition, of which the theorems are.
use Prim.Native.Nat.{ℕ, ◌*◌, ◌/◌, ◌≤◌}
use mathlib.Core.Path.{◌≡◌, refl, sym, ◌∙◌, ap}
use mathlib.Core.Bool.{true}
use mathlib.Core.List.{List, ◌++◌}
use native.Mathlib.Omega.{arith}
use lib.ListN.{length, take, drop}
use contract.Lifetimes.{Lfts}
use borrow.Fn.World.{ArgsD, ResD}
use borrow.Fn.Kinds.{ended_of}
use denote.Triple.Clauses.{AtExit}
use Rattle.chars.specs.Limits.{limits}
use Rattle.chars.specs.Stream.{start}
use Rattle.entities.specs.Entity.{Entity, sizes, texts, rows}
use Rattle.reading.specs.Reading.{reading, read_with, room_of, answered}
use Rattle.reading.specs.WellMade.{well_made}
use Rattle.reading.proofs.Alike.{Alike}
use Rattle.reading.proofs.Held.{Fits, read_fits}
use Rattle.reading.proofs.Places.{Ordered, in_places, before_refusal}
use Rattle.reading.proofs.Closed.{closed}
use Rattle.reading.proofs.Roomier.{Other, reading_roomier}
use Rattle.reading.proofs.Through.{read_through}
use Rattle.reading.proofs.TextOf.{Every}
use Rattle.reading.proofs.CleanText.{Text, read_text}
use Rattle.reading.proofs.VisibleText.{Seen, Any, read_seen}
use Rattle.reading.specs.contracts.read as read
use Rattle.reading.proofs.read.Kinds as kinds
use Rattle.reading.proofs.read.Reads as reads
use Rattle.reading.specs.declared.Answer.{Answer}

-- an answer, and a list and a text buffer before and after, of a draft
pub record Call (draft list text : List ℕ) (a : Answer) (list' text' : List ℕ) : Type 0 where
  pub entities : List Entity
  pub listed : list' ≡ rows 0 entities ++ drop (6 * length entities) list
  pub texted : text' ≡ texts entities ++ drop (sizes entities) text
  pub counted : a.entities ≡ length entities
  pub weighed : a.text ≡ sizes entities
  pub fit : Fits (room_of list text) entities
  pub in_order : Ordered (start draft) (length draft) entities
  pub first : (a.number ≡ 0 → ⊥) → Ordered (start draft) a.place entities
  pub made : a.number ≡ 0 → well_made limits entities ≡ true
  pub clean : Every Text Text entities
  pub visible : Every Seen Any entities

of_definition : (draft list text : List ℕ)
    → Call draft list text (reading limits draft list text).answer (reading limits draft list text).list
    (reading limits draft list text).text
unfolding reading answered
of_definition draft list text =
    let room = room_of list text in
    record {
      entities = (read_with limits room draft).entities;
      listed = refl;
      texted = refl;
      counted = refl;
      weighed = refl;
      fit = read_fits limits room draft;
      in_order = in_places limits (omega arith) room draft;
      first = before_refusal limits (omega arith) room draft;
      made = closed limits room draft;
      clean = read_text limits (omega arith) room draft;
      visible = read_seen limits room draft;
    }

module _ (κs : Lfts 3) (given : ArgsD read.signature κs) (a : ResD read.signature κs) (x : AtExit (ended_of 3 kinds.ps kinds.r) κs) where
  pub call : reads.Post κs given a x → Call given.0.now given.1.0.now given.1.1.0.now a x.1.0.now x.1.1.0.now
  call p = rw (p.0, p.1.0, p.1.1) (of_definition given.0.now given.1.0.now given.1.1.0.now)

-- Two calls with buffers before them, answers a and b, and buffers after them.
module _ (κs : Lfts 3) (given : ArgsD read.signature κs) (a : ResD read.signature κs) (x : AtExit (ended_of 3 kinds.ps kinds.r) κs)
    (κs' : Lfts 3) (given' : ArgsD read.signature κs') (b : ResD read.signature κs') (y : AtExit (ended_of 3 kinds.ps kinds.r) κs')
    (p : reads.Post κs given a x) (q : reads.Post κs' given' b y) where
  -- what the calls leave
  abbrev Same : Type 0
  Same =
      Alike (record { answer = a; list = x.1.0.now; text = x.1.1.0.now })
      (record { answer = b; list = y.1.0.now; text = y.1.1.0.now })

  of_calls :
      Alike (reading limits given.0.now given.1.0.now given.1.1.0.now)
      (reading limits given'.0.now given'.1.0.now given'.1.1.0.now)
      → Same
  of_calls s = rw (q.0, q.1.0, q.1.1, p.0, p.1.0, p.1.1) s

  -- drafts that agree through an accepted `|;`, the second within the length limit, with equal room
  pub through :
      length given'.1.0.now / 6 ≡ length given.1.0.now / 6 → length given'.1.1.0.now ≡ length given.1.1.0.now
      → length given'.0.now ≤ limits.draft → a.number ≡ 0
      → take a.consumed given.0.now ≡ take a.consumed given'.0.now → Same
  through rooms long there z alike =
      of_calls (read_through limits given.0.now given'.0.now a.consumed there alike _ _ _ _ rooms long
      (sym (ap (λ r. r.number) p.0) ∙ z)
      (sym (ap (λ r. r.consumed) p.0)))

  -- the same draft with no less room, where the first call has room enough
  pub roomier :
      given'.0.now ≡ given.0.now → length given.1.0.now / 6 ≤ length given'.1.0.now / 6
      → length given.1.1.0.now ≤ length given'.1.1.0.now → Other a.number → Same
  roomier same more longer o = of_calls (rw same (reading_roomier limits given.0.now _ _ _ _ more longer (rw (← p.0) o)))
