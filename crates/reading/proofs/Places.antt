-- Where the entities held stand: at or behind the start, within the draft, never before the entity held before, and before the place of a
-- refusal. An entity has the place of its token, and tokens come one after another.
use mathlib.Core.Path.{◌≡◌, refl, sym, ◌∙◌}
use mathlib.Core.Bool.{false, true≢false}
use mathlib.Core.List.{List, [], ◌∷◌, ◌++◌}
use Prim.Native.Nat.{ℕ, ◌<◌, ◌≤◌}
use native.Mathlib.Omega.{arith}
use lib.Dec.{leb, ltb}
use lib.ListN.{length, take, length-take}
use borrow.Author.Tests.{leb-true, leb-false}
use Rattle.chars.specs.Limits.{Limits}
use Rattle.chars.specs.Choice.{same}
use Rattle.chars.specs.Stream.{start, mark}
use Rattle.chars.proofs.Cases.{either}
use Rattle.chars.proofs.Same.{shorter}
use Rattle.tokens.specs.Tokens.{Tokens}
use Rattle.tokens.proofs.Refused.{Chain, and_then, closing, ending, chain}
use Rattle.entities.specs.Entity.{Entity}
use Rattle.entities.specs.Making.{Reader, fresh, Room, Handled, stops, holds}
use Rattle.reading.specs.Reading.{Read, refusal, success, before, taken, entities, read_with}
use Rattle.reading.proofs.Handled.{All, nothing, also, Held, token_held, last_held}

-- entities in order, from `from` on and before `to`
abbrev pub Ordered : (from to : ℕ) → List Entity → Type 0
Ordered from to [] = Unit
Ordered from to (e ∷ es) = (from ≤ e.place) × (e.place < to) × Ordered e.place to es

-- entities at one place, and then others that begin behind it
in_order :
    (place from to after : ℕ) (es more : List Entity) → All place es → from ≤ place → place < to → place ≤ after
    → Ordered after to more → Ordered from to (es ++ more)
in_order place from to after es [] nothing g l b o = tt
in_order place from to after es (e ∷ more) nothing g l b o = (omega arith, o.1, o.2)
in_order place from to after es more (also e es' is a) g l b o =
    (omega arith, omega arith, in_order place e.place to after es' more a (omega arith) l b o)

module _ (draft : List ℕ) where
  -- what is read from `from` on
  pub record Along (from : ℕ) (r : Read) : Type 0 where
    pub ordered : Ordered from (length draft) r.entities
    -- of a refusal
    pub stands : (r.number ≡ 0 → ⊥) → (from ≤ r.place) × (r.place ≤ length draft)
    pub comes_first : (r.number ≡ 0 → ⊥) → Ordered from r.place r.entities

  taken_along :
      (from place after : ℕ) (h : Handled) (rest : Room → Reader → Read) → Held place h → from ≤ place → place < after
      → after ≤ length draft → ((left : Room) (r : Reader) → Along after (rest left r)) → Along from (taken place h rest)
  unfolding taken refusal before
  taken_along from place after (stops n) rest a g l m f =
      record { ordered = tt; stands = λ z. (g, omega arith); comes_first = λ z. tt }
  taken_along from place after (holds es left r) rest a g l m f =
      let behind = f left r in
      record {
        ordered = in_order place from (length draft) after es _ a g (omega arith) (omega arith) behind.ordered;
        stands = λ z. let far = behind.stands z in (omega arith, far.1);
        comes_first =
            λ z.
            let far = behind.stands z in
            in_order place from _ after es _ a g (omega arith) (omega arith) (behind.comes_first z);
      }

  module _ (L : Limits) (some-token : 1 ≤ L.token) where
    entities_along :
        (from : ℕ) (room : Room) (r : Reader) (ts : Tokens) → Chain L draft some-token from ts → Along from (entities L draft room r ts)
    unfolding entities refusal success
    entities_along at room r ts (ending from number place g l a b) =
        record { ordered = tt; stands = λ z. (g, l); comes_first = λ z. tt }
    entities_along at room r ts (closing from place after g l m) =
        taken_along from place after _ _ (last_held L room r place) g l m
        (λ left r. record { ordered = tt; stands = λ z. absurd (z refl); comes_first = λ z. tt })
    entities_along at room r ts (and_then from w rest s c) =
        taken_along from w.place w.after _ _ (token_held L draft room r w) s.behind s.on s.there
        (λ left r. entities_along w.after left r rest c)

-- a byte order mark lies within the draft
start_there : (draft : List ℕ) → start draft ≤ length draft
unfolding start
start_there draft =
    either (same (take 3 draft) mark)
    (λ t. rw t (either (leb 3 (length draft))
    (λ u. leb-true 3 (length draft) u)
    (λ u.
    let less = shorter (take 3 draft) mark (omega (arith, length-take 3 draft, leb-false 3 (length draft) u)) in
    absurd (true≢false (sym t ∙ less)))))
    (λ t. rw t (omega arith))

module _ (L : Limits) (some-token : 1 ≤ L.token) (room : Room) (draft : List ℕ) where
  -- where the draft is not too long
  from_start : (ltb L.draft (length draft) ≡ false) → Along draft (start draft) (read_with L room draft)
  unfolding read_with
  from_start t =
      rw t (entities_along draft L some-token (start draft) room fresh _ (chain L draft some-token (start draft) (start_there draft)))

  pub in_places : Ordered (start draft) (length draft) (read_with L room draft).entities
  unfolding read_with refusal
  in_places = either (ltb L.draft (length draft)) (λ t. rw t tt) (λ t. (from_start t).ordered)

  -- every entity held stands before the place of a refusal, since 1, at 0, comes before any is held
  pub before_refusal :
      ((read_with L room draft).number ≡ 0 → ⊥) → Ordered (start draft) (read_with L room draft).place (read_with L room draft).entities
  unfolding read_with refusal
  before_refusal =
      either (ltb L.draft (length draft))
      (λ t. rw t (λ z. tt))
      (λ t. (from_start t).comes_first)

  -- and a refusal other than 1 is at or behind the start, and no further than the draft's end
  pub refusal_stands :
      ((read_with L room draft).number ≡ 0 → ⊥) → ((read_with L room draft).number ≡ 1 → ⊥)
      → (start draft ≤ (read_with L room draft).place) × ((read_with L room draft).place ≤ length draft)
  unfolding read_with refusal
  refusal_stands =
      either (ltb L.draft (length draft))
      (λ t. rw t (λ z o. absurd (o refl)))
      (λ t z o. (from_start t).stands z)
