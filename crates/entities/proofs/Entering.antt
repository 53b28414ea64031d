-- A token behind `[`, unless `]`, brings a begin group: 17 and 18 for it come before the token's own refusal, and the token is then judged
-- with that group open. What is held is the same in that state, so that what the token did is told of the state before.
use mathlib.Core.Path.{◌≡◌, refl}
use mathlib.Core.Bool.{Bool, true, not, ◌&&◌}
use mathlib.Core.List.{List}
use Prim.Native.Nat.{ℕ, ◌+◌, ◌-◌, ◌*◌, ◌<◌, ◌≤◌, ◌/◌}
use native.Mathlib.Omega.{arith}
use lib.Dec.{leb, ltb}
use lib.ListN.{length}
use borrow.Author.Tests.{eq-eqb, ne_eqb, lt-ltb, le-ltb, leb-true, ltb-true}
use Rattle.chars.specs.Limits.{limits}
use Rattle.chars.proofs.Cases.{either, both}
use Rattle.entities.specs.Making.{Reader, Judged, Handled, stops, holds, fitted, handled, within_groups}
use Rattle.entities.specs.Judging.{bares, kind_of}
use Rattle.entities.specs.Stepping.{Ready, open_groups, below, room_left, reader_of, agrees, Took, Goes, Stops}
use Rattle.entities.specs.Stepping.{entered_by, entered_groups, lead_of, bracketed}
use Rattle.entities.specs.declared.state.State.{State}
use Rattle.entities.specs.declared.state.Mode.TheVariants.{Regular}
use Rattle.entities.proofs.OpenGroups.{so_many}

-- what a token did is told of a state by what that holds alone
pub same_held :
    (s t : State) → t.entities ≡ s.entities → t.text ≡ s.text
    → (h : Handled) (list text : List ℕ) (place : ℕ) (r : Took) (list' text' groups' : List ℕ)
    → agrees h r t list text list' text' groups' place → agrees h r s list text list' text' groups' place
unfolding agrees
same_held s t e u (stops n) list text place (Stops m v) list' text' groups' a = rw (e, u) at a
same_held s t e u (stops n) list text place (Goes v) list' text' groups' a = a
same_held s t e u (holds es room q) list text place (Stops m v) list' text' groups' a = a
same_held s t e u (holds es room q) list text place (Goes v) list' text' groups' a = rw (e, u) at a

module _ (s : State) (list text groups : List ℕ) (place : ℕ) (closes : Bool) (judge : Reader → Judged) where
  abbrev gs : List ℕ
  gs = open_groups groups s.depth

  abbrev brings : Bool
  brings = bracketed s.mode && not closes

  abbrev comes : Handled
  comes = handled limits (room_left s list text) (reader_of s groups) closes place judge

  pub too_many : (brings && leb 64 s.depth) ≡ true → (groups' : List ℕ) → agrees comes (Stops 17 s) s list text list text groups' place
  unfolding handled reader_of agrees
  too_many t groups' =
      let b = both brings (leb 64 s.depth) t in
      let deep = leb-true 64 s.depth b.1 in
      rw (b.0, le-ltb (length gs) 64 (omega (arith, so_many groups s.depth))) (refl, refl, refl, refl, refl)

  module _ (shallow : brings ≡ true → s.depth < 64) where
    pub no_room :
        6 * s.entities ≤ length list → (brings && ltb (length list - 6 * s.entities) 6) ≡ true → (groups' : List ℕ)
        → agrees comes (Stops 18 s) s list text list text groups' place
    unfolding handled reader_of agrees room_left
    no_room h t groups' =
        let b = both brings (ltb (length list - 6 * s.entities) 6) t in
        let few = shallow b.0 in
        let none : length list / 6 - s.entities ≡ 0 = omega (arith, ltb-true (length list - 6 * s.entities) 6 b.1) in
        rw (
          b.0,
          lt-ltb (length gs) 64 (omega (arith, so_many groups s.depth)),
          eq-eqb (length list / 6 - s.entities) 0 none,
        ) (refl, refl, refl, refl, refl)

    -- with the group open, or with none
    pub entered :
        (brings ≡ true → length list / 6 - s.entities ≡ 0 → ⊥) → (pushed : List ℕ)
        → open_groups pushed (entered_by brings s).depth ≡ entered_groups brings gs → (r : Took) (list' text' groups' : List ℕ)
        → agrees
        (fitted (room_left (entered_by brings s) list text) (bares (lead_of brings) place)
        (judge (reader_of (entered_by brings s) pushed))) r
        (entered_by brings s) list text
        list' text' groups' place
        → agrees comes r s list text list' text' groups' place
    unfolding handled reader_of within_groups bares kind_of room_left entered_by entered_groups lead_of
    entered some pushed so r list' text' groups' a =
        either brings
        (λ t.
        let few = shallow t in
        rw (
          t,
          lt-ltb (length gs) 64 (omega (arith, so_many groups s.depth)),
          ne_eqb (length list / 6 - s.entities) 0 (some t),
        )
        (same_held s (record { mode = Regular; depth = s.depth + 1; entities = s.entities; text = s.text }) refl refl _ list text place r
        list' text' groups' (rw (rw t at so) at (rw t at a))))
        (λ t. rw t (rw (rw t at so) at (rw t at a)))

-- what is ready is ready in that state
module _ (brings : Bool) (s : State) (list text groups : List ℕ) (place : ℕ) where
  pub entities_entered : (entered_by brings s).entities ≡ s.entities
  unfolding entered_by
  entities_entered = either brings (λ t. rw t) (λ t. rw t)

  pub text_entered : (entered_by brings s).text ≡ s.text
  unfolding entered_by
  text_entered = either brings (λ t. rw t) (λ t. rw t)

  module _ (shallow : brings ≡ true → s.depth < 64) (pushed : List ℕ) (long : length pushed ≡ 64)
      (so : open_groups pushed (entered_by brings s).depth ≡ entered_groups brings (open_groups groups s.depth)) where
    deep_entered : s.depth ≤ 64 → (entered_by brings s).depth ≤ 64
    unfolding entered_by
    deep_entered h = either brings (λ t. let few = shallow t in rw t (omega arith)) (λ t. rw t h)

    numbers_entered :
        below (open_groups groups s.depth) (place + 1) → below (open_groups pushed (entered_by brings s).depth) (place + 1)
    unfolding entered_groups below
    numbers_entered b = rw so (either brings (λ t. rw t (omega arith, b)) (λ t. rw t b))

    pub ready_entered : Ready s list text groups place → Ready (entered_by brings s) list text pushed place
    ready_entered ready =
        record {
          deep = deep_entered ready.deep;
          array = long;
          held = omega (arith, ready.held, entities_entered);
          used = omega (arith, ready.used, text_entered);
          small = omega (arith, ready.small, text_entered);
          numbers = numbers_entered ready.numbers;
        }
