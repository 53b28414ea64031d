-- `naming::store` meets its contract: the name that was found is the one that is looked up, and as the cell is of the name's kind,
-- the names stay as they are. Assumes nothing.
use mathlib.Core.Path.{◌≡◌, refl, sym, ◌∙◌, ap}
use mathlib.Core.List.{List}
use mathlib.Core.Option.{some}
use Prim.Native.Nat.{ℕ, suc, ◌+◌, ◌-◌, ◌%◌, ◌<◌, ◌≤◌}
use native.Mathlib.Omega.{arith}
use lib.ListN.{get_or}
use borrow.Author.Tests.{le-leb, lt-leb, eq-eqb, ne_eqb}
use Rattle.std.proofs.Common.{Result, Ok, Err}
use Rattle.chars.specs.Limits.{limits}
use Rattle.chars.specs.declared.refusal.Refusal.{Refusal}
use Rattle.chars.specs.declared.refusal.Refusal.TheVariants.{PutToConstant, WrongKind}
use Rattle.names.specs.Index.{key_of, position, found_of}
use Rattle.rules.specs.Cells.{in_sight, assign, store}
use Rattle.rules.specs.Kinds.{of, kind_of, kinds}
use Rattle.sight.specs.Arrays.{cell_of, plain_of, sight_of, name_at, state_of, Standing, Hiding}
use Rattle.sight.specs.Stacks.{meant, ready, Agrees}
use Rattle.sight.specs.declared.Counts.{Counts}
use Rattle.sight.specs.declared.Stack.{Stack}
use Rattle.sight.proofs.Sight.{stack, top, plain_kind, in_sight_now}
use Rattle.naming.proofs.Names.{lookup_none, lookup_found, changed_found}
use Rattle.naming.proofs.store.Goals as goal

-- the name that is found, and the top cell
module _
    (text cells bases index whats name : List ℕ) (s : Counts) (some-seen : 0 < s.seen) (j : ℕ)
    (there : position (key_of text index) name s.names ≡ suc j) where
  abbrev cell : ℕ
  cell = get_or cells (s.base + (s.seen - 1)) 0

  abbrev what : ℕ
  what = get_or whats j 0

  abbrev Assigns : Stack → Result Unit Refusal → Type 0
  Assigns k r =
      Agrees (assign limits kinds (state_of text cells bases index whats s) name (sight_of cells s.base s.seen)) text k r

  assigned :
      assign limits kinds (state_of text cells bases index whats s) name (sight_of cells s.base s.seen)
      ≡ store limits kinds (state_of text cells bases index whats s) name (cell_of cell) (sight_of cells s.base (s.seen - 1))
      (some (name_at text index whats j))
  unfolding assign state_of
  assigned = rw (top cells s.base s.seen some-seen, lookup_found text index whats name s.names j there)

  constant : (k : Stack) → 16 ≤ what → Assigns k (Err PutToConstant)
  unfolding store name_at meant ready
  constant k h = rw assigned (record { same = rw (le-leb 16 what h); on = tt })

  module _ (h : what < 16) where
    kept : what % 16 ≡ what
    kept = omega arith

    other_kind : (k : Stack) → (plain_of cell ≡ what → ⊥) → Assigns k (Err WrongKind)
    unfolding store name_at kinds kind_of meant ready
    other_kind k g =
        rw assigned (record { same = rw (lt-leb 16 what h, plain_kind cell, kept, ne_eqb (plain_of cell) what g); on = tt })

    its_kind :
        plain_of cell ≡ what → Standing text cells index whats s → Hiding bases s
        → Assigns (stack cells bases index whats (record { base = s.base; seen = s.seen - 1; depth = s.depth; names = s.names })) (Ok tt)
    unfolding store name_at kinds kind_of state_of in_sight
    its_kind e st g =
        let value : (name_at text index whats j).value ≡ of (plain_of cell) = ap of (kept ∙ sym e) in
        let same_names = changed_found text index whats name (of (plain_of cell)) s.names j st.distinct there value in
        let few : s.base + (s.seen - 1) ≤ 1024 = omega (arith, st.few) in
        rw (assigned, lt-leb 16 what h, plain_kind cell, kept, eq-eqb (plain_of cell) what e, same_names)
        (in_sight_now text cells bases index whats s g st cells (s.seen - 1) few refl refl)

pub returns-in_default-clause-answer : goal.returns-in_default-clause-answer
unfolding assign store state_of meant ready
returns-in_default-clause-answer c text name st e =
    let k = c.args.stack.now in
    let s = k.counts in
    let missing : position (key_of text k.index) name s.names ≡ 0 = sym e ∙ ap found_of c.in_default.is in
    let above = top k.cells s.base s.seen (omega arith) in
    record { same = rw (above, lookup_none text k.index k.whats name s.names missing); on = tt }

pub returns-then-what-ge-KINDS-clause-answer : goal.returns-then-what-ge-KINDS-clause-answer
returns-then-what-ge-KINDS-clause-answer c text name st e =
    let k = c.args.stack.now in
    let there = sym e ∙ ap found_of c.in-Some.is in
    constant text k.cells k.bases k.index k.whats name k.counts (omega arith) c.in-Some.entry there k (omega arith)

pub returns-then-plain-what-clause-answer : goal.returns-then-plain-what-clause-answer
returns-then-plain-what-clause-answer c text name st e =
    let k = c.args.stack.now in
    let there = sym e ∙ ap found_of c.in-Some.is in
    other_kind text k.cells k.bases k.index k.whats name k.counts (omega arith) c.in-Some.entry there (omega arith) k
    (λ q. omega (arith, q, c.if-plain-what.true, c.plain.ensures))

pub returns-clause-answer : goal.returns-clause-answer
returns-clause-answer c text name st e =
    let k = c.args.stack.now in
    let there = sym e ∙ ap found_of c.in-Some.is in
    rw c.with_seen-stack.ensures (its_kind text k.cells k.bases k.index k.whats name k.counts (omega arith) c.in-Some.entry there (omega arith)
    (sym c.plain.ensures.0 ∙ c.if-plain-what.false) st.0 st.1)
