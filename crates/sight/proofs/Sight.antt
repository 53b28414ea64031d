-- The cells in sight and the hidden ones, as the arrays hold them (specs/Arrays.antt): what is stored above them changes none of them, what
-- is stored right above is one more cell in sight, and a group that begins or ends moves the border between the two.
use mathlib.Core.Path.{◌≡◌, refl, ap, ◌∙◌}
use mathlib.Core.List.{List, ◌∷◌}
use Prim.Native.Nat.{ℕ, zero, suc, ◌+◌, ◌-◌, ◌<◌, ◌≤◌}
use native.Mathlib.Omega.{arith}
use native.Mathlib.Numerals.{add-one}
use Rattle.std.proofs.Common.{Ok, Err}
use lib.Dec.{ltb}
use lib.ListN.{length, get_or, set}
use lib.Seq.{get_or-set_same, get_or-set_other}
use borrow.Author.Tests.{lt-ltb, le-ltb}
use Rattle.chars.specs.Limits.{limits}
use Rattle.chars.specs.declared.refusal.Refusal.TheVariants.{TooManyCells}
use Rattle.chars.proofs.Cases.{either}
use Rattle.rules.specs.Cells.{State, goes, stops, total, cells_of, not_too_many, in_sight, innermost, outer, show}
use Rattle.rules.specs.Kinds.{Checked, of, count, kind_of, kinds}
use Rattle.sight.specs.Arrays.{cell_of, plain_of, sight_of, hidden_of, state_of, stacked, Standing, Hiding}
use Rattle.sight.specs.Stacks.{meant, ready, Agrees}
use Rattle.sight.specs.declared.Counts.{Counts}
use Rattle.sight.specs.declared.Stack.{Stack}

-- arrays and counts in one value
abbrev pub stack : (cells bases index whats : List ℕ) → Counts → Stack
stack cells bases index whats s =
    record { cells = cells; bases = bases; index = index; whats = whats; counts = s }

-- a number as a cell
pub small_cell : (c : ℕ) → c < 16 → cell_of c ≡ of c
unfolding cell_of
small_cell c h = rw (lt-ltb c 16 h)

pub large_cell : (c : ℕ) → 16 ≤ c → cell_of c ≡ count (c - 16)
unfolding cell_of
large_cell c h = rw (le-ltb c 16 h)

pub counted_cell : (n : ℕ) → cell_of (n + 16) ≡ count n
counted_cell n =
    let back : n + 16 - 16 ≡ n = omega arith in rw (large_cell (n + 16) (omega arith), back)

pub plain_kind : (c : ℕ) → kind_of (cell_of c) ≡ plain_of c
unfolding cell_of plain_of kind_of
plain_kind c = either (ltb c 16) (λ t. rw t) (λ t. rw t)

-- the cells in sight
pub so_many : (cells : List ℕ) (base seen : ℕ) → length (sight_of cells base seen) ≡ seen
unfolding sight_of
so_many cells base zero = refl
so_many cells base (suc n) = ap suc (so_many cells base n)

pub top :
    (cells : List ℕ) (base seen : ℕ) → 0 < seen
    → sight_of cells base seen ≡ cell_of (get_or cells (base + (seen - 1)) 0) ∷ sight_of cells base (seen - 1)
unfolding sight_of
top cells base zero h = absurd (omega arith)
top cells base (suc n) h = let less : suc n - 1 ≡ n = omega arith in rw less

-- what is stored above them
pub sight_past :
    (cells : List ℕ) (i v base seen : ℕ) → base + seen ≤ i → sight_of (set cells i v) base seen ≡ sight_of cells base seen
unfolding sight_of
sight_past cells i v base zero h = refl
sight_past cells i v base (suc n) h =
    rw (get_or-set_other cells i (base + n) v 0 (λ e. omega arith), sight_past cells i v base n (omega arith))

pub sight_pushed :
    (cells : List ℕ) (base seen v : ℕ) → base + seen < length cells
    → sight_of (set cells (base + seen) v) base (seen + 1) ≡ cell_of v ∷ sight_of cells base seen
unfolding sight_of
sight_pushed cells base seen v h =
    rw (add-one, get_or-set_same cells (base + seen) v 0 h, sight_past cells (base + seen) v base seen (omega arith))

-- the hidden cells with one more in sight above them
pub sight_shown :
    (cells : List ℕ) (outer base : ℕ) → outer ≤ base
    → sight_of cells outer (base + 1 - outer) ≡ cell_of (get_or cells base 0) ∷ sight_of cells outer (base - outer)
unfolding sight_of
sight_shown cells outer base h =
    let more : base + 1 - outer ≡ suc (base - outer) = omega arith in
    let there : outer + (base - outer) ≡ base = omega arith in
    rw (more, there)

-- the hidden cells
pub hidden_past :
    (cells bases : List ℕ) (i v base depth : ℕ) → stacked bases base depth → base ≤ i
    → hidden_of (set cells i v) bases base depth ≡ hidden_of cells bases base depth
unfolding hidden_of stacked
hidden_past cells bases i v base zero s h = refl
hidden_past cells bases i v base (suc d) s h =
    let outer = get_or bases d 0 in
    rw (sight_past cells i v outer (base - outer) (omega (arith, s.0)), hidden_past cells bases i v outer d s.1 (omega (arith, s.0)))

pub so_many_hidden :
    (cells bases : List ℕ) (base depth : ℕ) → stacked bases base depth → total (hidden_of cells bases base depth) ≡ base
unfolding hidden_of stacked total
so_many_hidden cells bases base zero s = rw s
so_many_hidden cells bases base (suc d) s =
    let outer = get_or bases d 0 in
    rw (so_many cells outer (base - outer), so_many_hidden cells bases outer d s.1) (omega (arith, s.0))

-- a base stored for a group that begins
pub hidden_other :
    (cells bases : List ℕ) (i v base depth : ℕ) → depth ≤ i
    → hidden_of cells (set bases i v) base depth ≡ hidden_of cells bases base depth
unfolding hidden_of
hidden_other cells bases i v base zero h = refl
hidden_other cells bases i v base (suc d) h =
    let outer = get_or bases d 0 in
    rw (get_or-set_other bases i d v 0 (λ e. omega arith), hidden_other cells bases i v outer d (omega arith))

pub stacked_other :
    (bases : List ℕ) (i v base depth : ℕ) → depth ≤ i → stacked bases base depth → stacked (set bases i v) base depth
unfolding stacked
stacked_other bases i v base zero h s = s
stacked_other bases i v base (suc d) h s =
    rw (get_or-set_other bases i d v 0 (λ e. omega arith)) (s.0, stacked_other bases i v (get_or bases d 0) d (omega arith) s.1)

pub hidden_begun :
    (cells bases : List ℕ) (base seen depth : ℕ) → depth < length bases
    → hidden_of cells (set bases depth base) (base + seen) (depth + 1) ≡ sight_of cells base seen ∷ hidden_of cells bases base depth
unfolding hidden_of
hidden_begun cells bases base seen depth h =
    let back : base + seen - base ≡ seen = omega arith in
    rw (add-one, get_or-set_same bases depth base 0 h, back, hidden_other cells bases depth base base depth (omega arith))

pub stacked_begun :
    (bases : List ℕ) (base seen depth : ℕ) → depth < length bases → stacked bases base depth
    → stacked (set bases depth base) (base + seen) (depth + 1)
unfolding stacked
stacked_begun bases base seen depth h s =
    rw (add-one, get_or-set_same bases depth base 0 h)
    (omega arith, stacked_other bases depth base base depth (omega arith) s)

-- a group that ends: what it hides, and what the groups around it do
pub hidden_outer :
    (cells bases : List ℕ) (base depth : ℕ) → 0 < depth
    → hidden_of cells bases base depth
    ≡ sight_of cells (get_or bases (depth - 1) 0) (base - get_or bases (depth - 1) 0) ∷ hidden_of cells bases (get_or bases (depth - 1) 0)
    (depth - 1)
unfolding hidden_of
hidden_outer cells bases base zero h = absurd (omega arith)
hidden_outer cells bases base (suc d) h = let less : suc d - 1 ≡ d = omega arith in rw less

pub stacked_outer :
    (bases : List ℕ) (base depth : ℕ) → 0 < depth → stacked bases base depth
    → (get_or bases (depth - 1) 0 ≤ base) × stacked bases (get_or bases (depth - 1) 0) (depth - 1)
unfolding stacked
stacked_outer bases base zero h s = absurd (omega arith)
stacked_outer bases base (suc d) h s = let less : suc d - 1 ≡ d = omega arith in rw less s

-- a group that ends with no cell or several in sight
pub not_one :
    (s : State Checked) (cells : List ℕ) (base seen : ℕ) → (seen ≡ 1 → ⊥)
    → show limits kinds s (sight_of cells base seen) ≡ stops 28
unfolding show sight_of
not_one s cells base zero h = refl
not_one s cells base (suc zero) h = absurd (h refl)
not_one s cells base (suc (suc n)) h = refl

-- other cells, and groups that begin or end, leave the names as they are
pub still_standing :
    {text cells index whats : List ℕ} {s : Counts} → Standing text cells index whats s
    → (cells' : List ℕ) → length cells' ≡ length cells → (base seen depth : ℕ) → base + seen ≤ 1024
    → Standing text cells' index whats (record { base = base; seen = seen; depth = depth; names = s.names })
still_standing st cells' room base seen depth few =
    record {
      few = few;
      known = st.known;
      indexed = st.indexed;
      distinct = st.distinct;
      cells_room = room ∙ st.cells_room;
      index_room = st.index_room;
      whats_room = st.whats_room;
    }

-- A state with other cells in sight, above the same hidden ones: 29 where they are too many, and else the code's arrays and counts stand
-- for it.
module _ (text cells bases index whats : List ℕ) (s : Counts) (g : Hiding bases s) where
  pub so_many_cells : cells_of (state_of text cells bases index whats s) ≡ s.base + s.seen
  unfolding cells_of state_of
  so_many_cells =
      rw (so_many cells s.base s.seen, so_many_hidden cells bases s.base s.depth g.hidden) (omega arith)

  too_many_now :
      (sight : List Checked)
      → ltb 1024 (cells_of (in_sight limits kinds (state_of text cells bases index whats s) sight)) ≡ ltb 1024 (s.base + length sight)
  unfolding cells_of state_of in_sight
  too_many_now sight =
      let sum : length sight + s.base ≡ s.base + length sight = omega arith in
      rw (so_many_hidden cells bases s.base s.depth g.hidden, sum)

  pub too_many :
      (k : Stack) (sight : List Checked) → 1024 < s.base + length sight
      → Agrees (not_too_many limits kinds (in_sight limits kinds (state_of text cells bases index whats s) sight)) text k
      (Err TooManyCells)
  unfolding not_too_many kinds meant ready
  too_many k sight h =
      record { same = rw (too_many_now sight, lt-ltb 1024 (s.base + length sight) h); on = tt }

  module _
      (st : Standing text cells index whats s) (cells' : List ℕ) (n : ℕ) (few : s.base + n ≤ 1024) (room : length cells' ≡ length cells)
      (below : hidden_of cells' bases s.base s.depth ≡ hidden_of cells bases s.base s.depth) where
    pub in_sight_now :
        Agrees (goes (in_sight limits kinds (state_of text cells bases index whats s) (sight_of cells' s.base n))) text
        (stack cells' bases index whats (record { base = s.base; seen = n; depth = s.depth; names = s.names })) (Ok tt)
    unfolding state_of in_sight meant ready
    in_sight_now =
        record {
          same = rw below;
          on = (
            still_standing st cells' room s.base n s.depth few,
            record { shallow = g.shallow; hidden = g.hidden; bases_room = g.bases_room },
          );
        }

    pub not_many :
        Agrees (not_too_many limits kinds (in_sight limits kinds (state_of text cells bases index whats s) (sight_of cells' s.base n)))
        text (stack cells' bases index whats (record { base = s.base; seen = n; depth = s.depth; names = s.names })) (Ok tt)
    unfolding not_too_many kinds
    not_many =
        let sight = sight_of cells' s.base n in
        rw (too_many_now sight, so_many cells' s.base n, le-ltb 1024 (s.base + n) few) in_sight_now

-- a group that ends with one cell in sight
pub one_shown :
    (text cells bases index whats : List ℕ) (s : Counts) → Standing text cells index whats s → Hiding bases s → 0 < s.depth → s.seen ≡ 1
    → Agrees (show limits kinds (state_of text cells bases index whats s) (sight_of cells s.base s.seen)) text
    (stack cells bases index whats
    (record {
      base = get_or bases (s.depth - 1) 0;
      seen = s.base + 1 - get_or bases (s.depth - 1) 0;
      depth = s.depth - 1;
      names = s.names;
    })) (Ok tt)
unfolding show state_of sight_of innermost outer meant ready
one_shown text cells bases index whats s st g deep one =
    let around = get_or bases (s.depth - 1) 0 in
    let within = stacked_outer bases s.base s.depth deep g.hidden in
    let there : s.base + 0 ≡ s.base = omega arith in
    record {
      same =
          rw (one, there, hidden_outer cells bases s.base s.depth deep, sight_shown cells around s.base within.0);
      on = (
        still_standing st cells refl around (s.base + 1 - around) (s.depth - 1) (omega (arith, within.0, st.few)),
        record { shallow = omega (arith, g.shallow); hidden = within.1; bases_room = g.bases_room },
      );
    }
