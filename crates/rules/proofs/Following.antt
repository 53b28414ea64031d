-- A run follows the check. Where each cell of the check stands for a value of its kind, and a count for a value that is this count, every
-- entity that the check lets through goes on in the run as well, and the states behind it stand for each other again. The rules are one set
-- of definitions, so this asks nothing of a cell but what the check may look at.
use mathlib.Core.Path.{◌≡◌, refl, ◌∙◌, ap, ap₂}
use mathlib.Core.Bool.{Bool, true, false, not, ◌&&◌, false≢true}
use mathlib.Core.List.{List, [], ◌∷◌}
use mathlib.Core.Option.{Option, none, some}
use Prim.Native.Nat.{ℕ, zero, suc}
use lib.Dec.{leb, ltb, eqb}
use lib.ListN.{length, take, drop}
use Rattle.chars.specs.Limits.{Limits}
use Rattle.std.specs.Prelude.{if◌then◌else◌}
use Rattle.chars.specs.Choice.{same}
use Rattle.chars.proofs.Cases.{either}
use Rattle.entities.specs.Entity.{Kind, Entity}
use Rattle.entities.specs.Entity.{begin-metacommand, end-metacommand, metacommand-token, metacommand-quoted, metacommand-curly}
use Rattle.entities.specs.Entity.{begin_group, end-group, array, number, quoted-string, curly-string}
use Rattle.entities.specs.Entity.{define-variable, define-constant, get, put, operation, end}
use Rattle.table.specs.Table.{Item, one, array_of, Operation, find}
use Rattle.rules.specs.Cells.{Amount, amount, none_by, Cell, Name, State, Did, goes, stops, Taken, leaves, refuses, total, cells_of}
use Rattle.rules.specs.Cells.{lookup, changed, not_too_many, in_sight, push, hide, innermost, outer, show, new, define, fetch}
use Rattle.rules.specs.Cells.{store}
use Rattle.rules.specs.Cells.{assign, all_of, take_array, take_item, take_items, give, given, operate, act}

-- two lists entry by entry
pub data Beside {A B : Type 0} (R : A → B → Type 0) : List A → List B → Type 0 where
  none_left : Beside R [] []
  next : {a : A} {b : B} {xs : List A} {ys : List B} → R a b → Beside R xs ys → Beside R (a ∷ xs) (b ∷ ys)

-- if the check has a count, the run has it as well
pub data Wants : Amount → Amount → Type 0 where
  no_count : {rule : ℕ} {a : Amount} → Wants (none_by rule) a
  same_count : {n : ℕ} → Wants (amount n) (amount n)

-- what cells of one sort have in common with those that stand for them
pub record Standing {C D : Type 0} (checks : Cell C) (runs : Cell D) : Type 1 where
  pub Stands : C → D → Type 0
  pub kinds : {c : C} {v : D} → Stands c v → checks.kind c ≡ runs.kind v
  pub literals : (step kind : ℕ) → Stands (checks.literal step kind) (runs.literal step kind)
  pub counts : (n : ℕ) → Stands (checks.counted n) (runs.counted n)
  pub keeps : {c : C} {v : D} → Stands c v → Stands (checks.kept c) (runs.kept v)
  pub results : (step place kind : ℕ) → Stands (checks.result step place kind) (runs.result step place kind)
  pub wants : {c : C} {v : D} → Stands c v → Wants (checks.wanted c) (runs.wanted v)
  pub limited : checks.bounded ≡ true

module _ {A B : Type 0} (R : A → B → Type 0) where
  beside_length : {xs : List A} {ys : List B} → Beside R xs ys → length xs ≡ length ys
  beside_length none_left = refl
  beside_length (next r rs) = ap suc (beside_length rs)

  beside_take : (n : ℕ) {xs : List A} {ys : List B} → Beside R xs ys → Beside R (take n xs) (take n ys)
  beside_take zero rs = none_left
  beside_take (suc n) none_left = none_left
  beside_take (suc n) (next r rs) = next r (beside_take n rs)

  beside_drop : (n : ℕ) {xs : List A} {ys : List B} → Beside R xs ys → Beside R (drop n xs) (drop n ys)
  beside_drop zero rs = rs
  beside_drop (suc n) none_left = none_left
  beside_drop (suc n) (next r rs) = beside_drop n rs

module _ (L : Limits) {C D : Type 0} (checks : Cell C) (runs : Cell D) (R : Standing checks runs) where
  abbrev Cells : List C → List D → Type 0
  Cells = Beside R.Stands

  pub record SameName (m : Name C) (n : Name D) : Type 0 where
    pub name : m.name ≡ n.name
    pub constant : m.constant ≡ n.constant
    pub value : R.Stands m.value n.value

  -- two states stand for each other
  pub record Like (s : State C) (t : State D) : Type 0 where
    pub sight : Cells s.sight t.sight
    pub hidden : Beside (Beside R.Stands) s.hidden t.hidden
    pub names : Beside SameName s.names t.names

  -- what the check lets through goes on, to a state like its own
  pub data Follows : Did C → Did D → Type 0 where
    on : {s : State C} {t : State D} → Like s t → Follows (goes s) (goes t)
    stopped : {rule : ℕ} {d : Did D} → Follows (stops rule) d

  data Left : Taken C → Taken D → Type 0 where
    left : {xs : List C} {ys : List D} → Cells xs ys → Left (leaves xs) (leaves ys)
    refused : {rule : ℕ} {t : Taken D} → Left (refuses rule) t

  data Found : Option (Name C) → Option (Name D) → Type 0 where
    neither : Found none none
    each : {m : Name C} {n : Name D} → SameName m n → Found (some m) (some n)

  same_total : {xs : List (List C)} {ys : List (List D)} → Beside (Beside R.Stands) xs ys → total xs ≡ total ys
  unfolding total
  same_total none_left = refl
  same_total (next r rs) = rw (beside_length R.Stands r, same_total rs)

  pub same_cells : {s : State C} {t : State D} → Like s t → cells_of s ≡ cells_of t
  unfolding cells_of
  same_cells k = rw (beside_length R.Stands k.sight, same_total k.hidden)

  pub same_names : {s : State C} {t : State D} → Like s t → length s.names ≡ length t.names
  same_names k = beside_length SameName k.names

  -- whether the limit is a rule of the run or not
  under_limit :
      (bounded bounded' over : Bool) (d : Did C) (e : Did D) (rule : ℕ) → bounded ≡ true → Follows d e
      → Follows (if bounded && over then stops rule else d) (if bounded' && over then stops rule else e)
  under_limit false bounded' over d e rule b f = absurd (false≢true b)
  under_limit true bounded' true d e rule b f = stopped
  under_limit true true false d e rule b f = f
  under_limit true false false d e rule b f = f

  follow_many : (s : State C) (t : State D) → Like s t → Follows (not_too_many L checks s) (not_too_many L runs t)
  unfolding not_too_many
  follow_many s t k =
      let over = ltb L.cells (cells_of t) in
      rw (same_cells k) (under_limit checks.bounded runs.bounded over (goes s) (goes t) 29 R.limited (on k))

  module _ (s : State C) (t : State D) (k : Like s t) where
    seen : {xs : List C} {ys : List D} → Cells xs ys → Like (in_sight L checks s xs) (in_sight L runs t ys)
    unfolding in_sight
    seen cells = record { sight = cells; hidden = k.hidden; names = k.names }

    follow_push : (c : C) (v : D) → R.Stands c v → Follows (push L checks s c) (push L runs t v)
    unfolding push
    follow_push c v r = follow_many _ _ (seen (next r k.sight))

    follow_hide : Follows (hide L checks s) (hide L runs t)
    unfolding hide
    follow_hide = on (record { sight = none_left; hidden = next k.sight k.hidden; names = k.names })

    same_innermost :
        {xs : List (List C)} {ys : List (List D)} → Beside (Beside R.Stands) xs ys → Cells (innermost L checks xs) (innermost L runs ys)
    unfolding innermost
    same_innermost none_left = none_left
    same_innermost (next r rs) = r

    same_outer :
        {xs : List (List C)} {ys : List (List D)} → Beside (Beside R.Stands) xs ys
        → Beside (Beside R.Stands) (outer L checks xs) (outer L runs ys)
    unfolding outer
    same_outer none_left = none_left
    same_outer (next r rs) = rs

    follow_show : {xs : List C} {ys : List D} → Cells xs ys → Follows (show L checks s xs) (show L runs t ys)
    unfolding show
    follow_show none_left = stopped
    follow_show (next r none_left) =
        on (record { sight = next r (same_innermost k.hidden); hidden = same_outer k.hidden; names = k.names })
    follow_show (next r (next q rs)) = stopped

    same_lookup :
        (name : List ℕ) {ms : List (Name C)} {ns : List (Name D)} → Beside SameName ms ns → Found (lookup name ms) (lookup name ns)
    unfolding lookup
    same_lookup name none_left = neither
    same_lookup name (next {b = n} r rs) =
        either (same name n.name)
        (λ e. rw (ap (same name) r.name ∙ e, e) (each r))
        (λ e. rw (ap (same name) r.name ∙ e, e) (same_lookup name rs))

    follow_new :
        (constant : Bool) (name : List ℕ) {c : C} {v : D} {xs : List C} {ys : List D} {m : Option (Name C)} {n : Option (Name D)}
        → R.Stands c v → Cells xs ys → Found m n → Follows (new L checks s constant name c xs m) (new L runs t constant name v ys n)
    unfolding new
    follow_new constant name r cells (each q) = stopped
    follow_new constant name r cells neither =
        rw (same_names k)
        (under_limit checks.bounded runs.bounded (not (ltb (length t.names) L.names)) _ _ 30 R.limited
        (on (record {
          sight = cells;
          hidden = k.hidden;
          names = next (record { name = refl; constant = refl; value = R.keeps r }) k.names;
        })))

    follow_define :
        (constant : Bool) (name : List ℕ) {xs : List C} {ys : List D} → Cells xs ys
        → Follows (define L checks s constant name xs) (define L runs t constant name ys)
    unfolding define
    follow_define constant name none_left = stopped
    follow_define constant name (next r rs) = follow_new constant name r rs (same_lookup name k.names)

    follow_fetch : {m : Option (Name C)} {n : Option (Name D)} → Found m n → Follows (fetch L checks s m) (fetch L runs t n)
    unfolding fetch
    follow_fetch neither = stopped
    follow_fetch (each {m} {n} r) = follow_push m.value n.value r.value

    same_changed :
        (name : List ℕ) {c : C} {v : D} {ms : List (Name C)} {ns : List (Name D)} → R.Stands c v → Beside SameName ms ns
        → Beside SameName (changed name c ms) (changed name v ns)
    unfolding changed
    same_changed name r none_left = none_left
    same_changed name r (next {b = n} q rs) =
        either (same name n.name)
        (λ e. rw (ap (same name) q.name ∙ e, e)
        (next (record { name = q.name; constant = q.constant; value = r }) (same_changed name r rs)))
        (λ e. rw (ap (same name) q.name ∙ e, e) (next q (same_changed name r rs)))

    follow_store :
        (name : List ℕ) {c : C} {v : D} {xs : List C} {ys : List D} {m : Option (Name C)} {n : Option (Name D)}
        → R.Stands c v → Cells xs ys → Found m n → Follows (store L checks s name c xs m) (store L runs t name v ys n)
    unfolding store
    follow_store name r cells neither = stopped
    follow_store name {v = v} r cells (each {n = n} q) =
        let kinds = ap₂ eqb (R.kinds r) (R.kinds q.value) in
        either n.constant
        (λ e. rw (q.constant ∙ e, e) stopped)
        (λ e. rw (q.constant ∙ e, e) (either (eqb (runs.kind v) (runs.kind n.value))
        (λ f. rw (kinds ∙ f, f) (on (record { sight = cells; hidden = k.hidden; names = same_changed name (R.keeps r) k.names })))
        (λ f. rw (kinds ∙ f, f) stopped)))

    follow_assign :
        (name : List ℕ) {xs : List C} {ys : List D} → Cells xs ys → Follows (assign L checks s name xs) (assign L runs t name ys)
    unfolding assign
    follow_assign name none_left = stopped
    follow_assign name (next r rs) = follow_store name r rs (same_lookup name k.names)

    -- items
    same_all : (kind : ℕ) {xs : List C} {ys : List D} → Cells xs ys → all_of L checks kind xs ≡ all_of L runs kind ys
    unfolding all_of
    same_all kind none_left = refl
    same_all kind (next r rs) = ap₂ ◌&&◌ (ap (λ n. eqb n kind) (R.kinds r)) (same_all kind rs)

    follow_array :
        (kind n : ℕ) {xs : List C} {ys : List D} → Cells xs ys
        → Left (take_array L checks kind (amount n) xs) (take_array L runs kind (amount n) ys)
    unfolding take_array
    follow_array kind n {xs} {ys} cells =
        let long = ap (leb n) (beside_length R.Stands cells) in
        let alike = same_all kind (beside_take R.Stands n cells) in
        either (leb n (length ys))
        (λ e. rw (long ∙ e, e) (either (all_of L runs kind (take n ys))
        (λ f. rw (alike ∙ f, f) (left (beside_drop R.Stands n cells)))
        (λ f. rw (alike ∙ f, f) refused)))
        (λ e. rw (long ∙ e, e) refused)

    -- a count says how many
    follow_amount :
        (kind : ℕ) {a b : Amount} {xs : List C} {ys : List D} → Wants a b → Cells xs ys
        → Left (take_array L checks kind a xs) (take_array L runs kind b ys)
    unfolding take_array
    follow_amount kind no_count cells = refused
    follow_amount kind (same_count {n}) cells = follow_array kind n cells

    follow_item : (i : Item) {xs : List C} {ys : List D} → Cells xs ys → Left (take_item L checks i xs) (take_item L runs i ys)
    unfolding take_item
    follow_item (one kind) none_left = refused
    follow_item (one kind) (next {b = v} r rs) =
        let kinds = ap (λ n. eqb n kind) (R.kinds r) in
        either (eqb (runs.kind v) kind) (λ e. rw (kinds ∙ e, e) (left rs)) (λ e. rw (kinds ∙ e, e) refused)
    follow_item (array_of kind) none_left = refused
    follow_item (array_of kind) (next {b = v} r rs) =
        let kinds = ap (λ n. eqb n 0) (R.kinds r) in
        either (eqb (runs.kind v) 0)
        (λ e. rw (kinds ∙ e, e) (follow_amount kind (R.wants r) rs))
        (λ e. rw (kinds ∙ e, e) refused)

    then_left :
        (f : List C → Taken C) (g : List D → Taken D) {x : Taken C} {y : Taken D}
        → ((xs : List C) (ys : List D) → Cells xs ys → Left (f xs) (g ys)) → Left x y
        → Left (elim x [ refuses rule ↦ refuses rule | leaves xs ↦ f xs ]) (elim y [ refuses rule ↦ refuses rule | leaves ys ↦ g ys ])
    then_left f g h (left cells) = h _ _ cells
    then_left f g h refused = refused

    follow_items : (is : List Item) (xs : List C) (ys : List D) → Cells xs ys → Left (take_items L checks is xs) (take_items L runs is ys)
    unfolding take_items
    follow_items [] xs ys cells = left cells
    follow_items (i ∷ is) xs ys cells =
        then_left (take_items L checks is) (take_items L runs is) (follow_items is) (follow_item i cells)

    follow_give :
        (step place : ℕ) (kinds : List ℕ) {xs : List C} {ys : List D} → Cells xs ys
        → Cells (give L checks step place kinds xs) (give L runs step place kinds ys)
    unfolding give
    follow_give step place [] cells = cells
    follow_give step place (kind ∷ kinds) cells = follow_give step (suc place) kinds (next (R.results step place kind) cells)

    follow_given :
        (step : ℕ) (kinds : List ℕ) {x : Taken C} {y : Taken D} → Left x y
        → Follows (given L checks step s kinds x) (given L runs step t kinds y)
    unfolding given
    follow_given step kinds refused = stopped
    follow_given step kinds (left cells) = follow_many _ _ (seen (follow_give step 0 kinds cells))

    follow_operate : (step : ℕ) (o : Option Operation) → Follows (operate L checks step s o) (operate L runs step t o)
    unfolding operate
    follow_operate step none = stopped
    follow_operate step (some o) = follow_given step o.gives (follow_items o.takes s.sight t.sight k.sight)

    module _ (os : List Operation) (step : ℕ) where
      by_kind :
          (kind : Kind) (place n : ℕ) (text string : List ℕ)
          → Follows (act L checks os step s (record { kind = kind; place = place; text = text; string = string; count = n }))
          (act L runs os step t (record { kind = kind; place = place; text = text; string = string; count = n }))
      unfolding act
      by_kind begin-metacommand place n text string = on k
      by_kind end-metacommand place n text string = on k
      by_kind metacommand-token place n text string = on k
      by_kind metacommand-quoted place n text string = on k
      by_kind metacommand-curly place n text string = on k
      by_kind begin_group place n text string = follow_hide
      by_kind end-group place n text string = follow_show k.sight
      by_kind array place n text string = follow_push _ _ (R.counts n)
      by_kind number place n text string = follow_push _ _ (R.literals step 0)
      by_kind quoted-string place n text string = follow_push _ _ (R.literals step 1)
      by_kind curly-string place n text string = follow_push _ _ (R.literals step 1)
      by_kind define-variable place n text string = follow_define false text k.sight
      by_kind define-constant place n text string = follow_define true text k.sight
      by_kind get place n text string = follow_fetch (same_lookup text k.names)
      by_kind put place n text string = follow_assign text k.sight
      by_kind operation place n text string = follow_operate step (find text os)
      by_kind end place n text string = on k

      pub follow : (e : Entity) → Follows (act L checks os step s e) (act L runs os step t e)
      follow e = by_kind e.kind e.place e.count e.text e.string
