-- `naming::fetch` meets its contract: the name that was found is the one that is looked up, and its kind is pushed. Assumes nothing.
use mathlib.Core.Path.{◌≡◌, sym, ◌∙◌, ap}
use Prim.Native.Nat.{suc, ◌%◌}
use native.Mathlib.Nat.{mod-lt}
use native.Mathlib.Omega.{arith}
use lib.ListN.{get_or}
use Rattle.names.specs.Index.{key_of, position, found_of}
use Rattle.rules.specs.Cells.{fetch}
use Rattle.sight.specs.Arrays.{name_at}
use Rattle.sight.specs.Stacks.{meant, ready}
use Rattle.sight.proofs.Sight.{small_cell}
use Rattle.naming.proofs.Names.{lookup_none, lookup_found}
use Rattle.naming.proofs.fetch.Goals as goal

pub returns-in_default-clause-answer : goal.returns-in_default-clause-answer
unfolding fetch meant ready
returns-in_default-clause-answer c text name st e =
    let k = c.args.stack.now in
    let missing : position (key_of text k.index) name k.counts.names ≡ 0 = sym e ∙ ap found_of c.in_default.is in
    record { same = rw (lookup_none text k.index k.whats name k.counts.names missing); on = tt }

pub returns-clause-answer : goal.returns-clause-answer
unfolding fetch name_at
returns-clause-answer c text name st e =
    let k = c.args.stack.now in
    let j = c.in-Some.entry in
    let what = get_or k.whats j 0 in
    let there : position (key_of text k.index) name k.counts.names ≡ suc j = sym e ∙ ap found_of c.in-Some.is in
    let kind = small_cell (what % 16) (mod-lt what (omega arith)) in
    rw (lookup_found text k.index k.whats name k.counts.names j there, ← kind) (c.push.ensures.answer text st)
