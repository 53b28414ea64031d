-- Entities without text in the list: one row or two. Written one behind the other, they are written at once, and they fit where six numbers
-- for each are left.
use mathlib.Core.Path.{◌≡◌, refl, ◌∙◌, ap}
use mathlib.Core.List.{List, [], ◌∷◌, ◌++◌}
use Prim.Native.Nat.{ℕ, ◌+◌, ◌*◌, ◌≤◌}
use native.Mathlib.Omega.{arith}
use lib.ListN.{length, take, drop}
use Rattle.holding.specs.Kind.{kind_code}
use Rattle.holding.specs.declared.rows.Kind.{Kind}
use Rattle.holding.specs.declared.rows.Kind.TheVariants.{BeginGroup, EndGroup}
use Rattle.holding.specs.declared.rows.Row.{Row}
use Rattle.entities.specs.Entity.{kind_number, bare, end-group, size, sizes}
use Rattle.entities.specs.Judging.{bares, kind_of, counting, written}
use Rattle.entities.proofs.Listing.{number_of_code, written_one, written_more}

-- the six numbers of a row
abbrev pub numbers : Row → List ℕ
numbers row = row.kind ∷ row.place ∷ row.text_at ∷ row.text_len ∷ row.data_len ∷ row.count ∷ []

-- the row of an entity without text
abbrev pub plain_row : (kind : Kind) → (place t count : ℕ) → Row
plain_row kind place t count =
    record { kind = kind_code kind; place = place; text_at = t; text_len = 0; data_len = 0; count = count }

module _ (list : List ℕ) (k t place : ℕ) (row : Row) (list₂ : List ℕ)
    (wrote : list₂ ≡ take (k * 6) list ++ (numbers row ++ drop (k * 6 + 6) list)) where
  -- a begin group
  pub group_row : row ≡ plain_row BeginGroup place t 0 → list₂ ≡ written list k t (bares 6 place)
  unfolding bares kind_of bare kind_number kind_code
  group_row is = (rw is at wrote) ∙ written_one list k t _ 6 refl

  module _ (kind : Kind) (count : ℕ) where
    pub one_row : row ≡ plain_row kind place t count → list₂ ≡ written list k t (counting (kind_code kind) place count ∷ [])
    unfolding counting
    one_row is =
        (rw is at wrote) ∙ written_one list k t (counting (kind_code kind) place count) (kind_code kind) (number_of_code kind)

    pub two_rows :
        row ≡ plain_row EndGroup place t 0 → (row₂ : Row) → row₂ ≡ plain_row kind place t count → (list₃ : List ℕ)
        → 6 * (k + 1) ≤ length list → list₃ ≡ take (k * 6 + 6) list₂ ++ (numbers row₂ ++ drop (k * 6 + 6 + 6) list₂)
        → list₃ ≡ written list k t (bare end-group place ∷ counting (kind_code kind) place count ∷ [])
    unfolding counting bare kind_number kind_code sizes size
    two_rows is row₂ is₂ list₃ enough wrote₂ =
        let e = bare end-group place in
        let f = counting (kind_code kind) place count in
        let first : list₂ ≡ written list k t (e ∷ []) = (rw is at wrote) ∙ written_one list k t e 7 refl in
        let step : k * 6 + 6 ≡ (k + 1) * 6 = omega arith in
        let second : list₃ ≡ written list₂ (k + 1) t (f ∷ []) =
        (rw (step, is₂) at wrote₂) ∙ written_one list₂ (k + 1) t f (kind_code kind) (number_of_code kind) in
        let none : t + sizes (e ∷ []) ≡ t = omega arith in
        let both : written (written list k t (e ∷ [])) (k + 1) (t + sizes (e ∷ [])) (f ∷ []) ≡ written list k t (e ∷ f ∷ []) =
        written_more list k t (e ∷ []) (f ∷ []) (omega arith) in
        second ∙ (ap (λ l. written l (k + 1) t (f ∷ [])) first ∙ (rw none at both))
