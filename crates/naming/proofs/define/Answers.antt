-- `naming::define` meets its contract: a name that was found is there already, and one that was not is entered as the last, with the
-- kind of the top cell. Assumes nothing.
use mathlib.Core.Path.{◌≡◌, refl, sym, ◌∙◌, ap}
use mathlib.Core.Bool.{true, false}
use mathlib.Core.List.{List}
use Prim.Native.Nat.{ℕ, suc, ◌+◌, ◌-◌, ◌%◌, ◌<◌, ◌≤◌}
use native.Mathlib.Omega.{arith}
use lib.Dec.{leb}
use lib.ListN.{length, get_or, set, take, drop, length-set}
use borrow.Author.Tests.{le-leb, lt-leb, lt-ltb, le-ltb}
use Rattle.std.proofs.Common.{Option, Some, None, Ok}
use Rattle.std.specs.Option.{is_some}
use Rattle.chars.specs.Limits.{limits}
use Rattle.names.specs.Index.{key_of, position, entered, found_of}
use Rattle.names.specs.Marks.{mark_of}
use Rattle.names.specs.declared.Mark.{Mark}
use Rattle.names.proofs.Entering.{length_entered, indexed_entered}
use Rattle.rules.specs.Cells.{define, new}
use Rattle.rules.specs.Kinds.{kinds}
use Rattle.sight.specs.Arrays.{plain_of, sight_of, state_of, Standing, Hiding}
use Rattle.sight.specs.Stacks.{meant, ready, Agrees}
use Rattle.sight.specs.declared.Counts.{Counts}
use Rattle.sight.proofs.Sight.{stack, top, plain_kind}
use Rattle.naming.proofs.Names.{so_many_names, lookup_none, lookup_found, names_entered, apart_entered}
use Rattle.naming.proofs.define.Goals as goal
use Rattle.naming.proofs.define.Goals.{then-constant, else-constant}

-- the new name, whose kind and whether it is a constant are in `what`
module _
    (text cells bases index whats : List ℕ) (s : Counts) (st : Standing text cells index whats s) (g : Hiding bases s)
    (some-seen : 0 < s.seen) (few : s.names < 128) (m : Mark) (at n : ℕ) (there : at + n ≤ length text)
    (small : m.bucket < 512) (mark : m ≡ mark_of (take n (drop at text))) (what : ℕ)
    (kind : what % 16 ≡ plain_of (get_or cells (s.base + (s.seen - 1)) 0))
    (missing : position (key_of text index) (take n (drop at text)) s.names ≡ 0) where
  defined :
      Agrees (define limits kinds (state_of text cells bases index whats s) (leb 16 what) (take n (drop at text)) (sight_of cells s.base
      s.seen)) text
      (stack cells bases (entered index s.names m at n) (set whats s.names what)
      (record { base = s.base; seen = s.seen - 1; depth = s.depth; names = s.names + 1 })) (Ok tt)
  unfolding define new state_of kinds meant ready
  defined =
      let name = take n (drop at text) in
      let cell = get_or cells (s.base + (s.seen - 1)) 0 in
      let room : s.names < 256 = omega arith in
      let one_more = names_entered text index s.names m at n small room st.index_room whats what (omega (arith, st.whats_room)) in
      record {
        same =
            rw (
              top cells s.base s.seen some-seen,
              lookup_none text index whats name s.names missing,
              so_many_names text index whats s.names,
              lt-ltb s.names 128 few,
              plain_kind cell,
              one_more,
              kind,
            );
        on = (
          record {
            few = omega (arith, st.few);
            known = omega arith;
            indexed = indexed_entered text index s.names m at n st.indexed room st.index_room there mark;
            distinct = apart_entered text index s.names m at n small room st.index_room missing st.distinct;
            cells_room = st.cells_room;
            index_room = length_entered index s.names m at n ∙ st.index_room;
            whats_room = length-set whats s.names what ∙ st.whats_room;
          },
          record { shallow = g.shallow; hidden = g.hidden; bases_room = g.bases_room },
        );
      }

-- whether one was found
some_found : (o : Option ℕ) → is_some o ≡ true → 0 < found_of o
some_found (Some j) e = omega arith
some_found None e = cc

none_found : (o : Option ℕ) → is_some o ≡ false → found_of o ≡ 0
none_found (Some j) e = cc
none_found None e = refl

pub returns-then-is_some-clause-answer : goal.returns-then-is_some-clause-answer
unfolding define new state_of meant ready
returns-then-is_some-clause-answer c text name st inside n m e =
    let k = c.args.stack.now in
    let s = k.counts in
    let some = some_found c.args.found (sym c.is_some.ensures ∙ c.if-is_some.true) in
    let j = found_of c.args.found - 1 in
    let there : position (key_of text k.index) name s.names ≡ suc j = omega (arith, e, some) in
    let above = top k.cells s.base s.seen (omega arith) in
    record { same = rw (above, lookup_found text k.index k.whats name s.names j there); on = tt }

pub returns-then-count-ge-NAMES-clause-answer : goal.returns-then-count-ge-NAMES-clause-answer
unfolding define new state_of kinds meant ready
returns-then-count-ge-NAMES-clause-answer c text name st inside n m e =
    let k = c.args.stack.now in
    let s = k.counts in
    let missing : position (key_of text k.index) name s.names ≡ 0 = sym e ∙ none_found c.args.found (sym c.is_some.ensures ∙ c.if-is_some.false) in
    let above = top k.cells s.base s.seen (omega arith) in
    let none = lookup_none text k.index k.whats name s.names missing in
    record {
      same = rw (above, none, so_many_names text k.index k.whats s.names, le-ltb s.names 128 c.if-count-ge-NAMES.true);
      on = tt;
    }

-- what is stored for the name
constant_what : (w kind : ℕ) → kind < 16 → w ≡ kind + 16 → (w % 16 ≡ kind) × (leb 16 w ≡ true)
constant_what w kind h e = (omega arith, le-leb 16 w (omega arith))

variable_what : (w kind : ℕ) → kind < 16 → w ≡ kind → (w % 16 ≡ kind) × (leb 16 w ≡ false)
variable_what w kind h e = (omega arith, lt-leb 16 w (omega arith))

pub returns-clause-answer : goal.returns-clause-answer
returns-clause-answer c text name st inside n m e =
    let k = c.args.stack.now in
    let row = c.args.row in
    let w = c.if-constant.stack in
    let plain = c.plain-kind in
    let stored : (w % 16 ≡ plain.result) × (leb 16 w ≡ c.args.constant) =
    elim c.if-constant.branch [
      | then-constant o ↦ let f = constant_what w plain.result plain.ensures.1 o.stack-is in (f.0, f.1 ∙ sym o.if-constant.true)
      | else-constant o ↦ let f = variable_what w plain.result plain.ensures.1 o.stack-is in (f.0, f.1 ∙ sym o.if-constant.false)
    ] in
    let missing : position (key_of text k.index) name k.counts.names ≡ 0 = sym e ∙ none_found c.args.found (sym c.is_some.ensures ∙ c.if-is_some.false) in
    rw (n, c.enter.ensures, ← stored.1)
    (defined text k.cells k.bases k.index k.whats k.counts st.0 st.1 (omega arith) (omega arith) c.args.m row.text_at row.text_len inside
    (omega arith) (m ∙ ap mark_of n) w (stored.0 ∙ plain.ensures.0) (rw n at missing))
