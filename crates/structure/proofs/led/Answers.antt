-- `structure::led` meets its contract: each test that refuses the token is one that Making has, in its order, and behind them the begin
-- group is written. Assumes nothing.
use mathlib.Core.Path.{refl, sym, ◌∙◌}
use native.Mathlib.Omega.{arith}
use Rattle.std.proofs.lemmas.Result.{err_from_is_err_and}
use Rattle.entities.specs.Stepping.{refused}
use Rattle.structure.proofs.Leading.{not_led, too_deep, no_group, by_its_rules, no_rows, is_led, own_few}
use Rattle.structure.proofs.led.Goals as goal

pub returns-then-not-brings : goal.returns-then-not-brings
returns-then-not-brings c =
    let a = c.args in
    not_led a.c a.s a.list.now a.groups.now a.place
    (sym c.brings.ensures ∙ c.if-not-brings.true) c.requires.3.array

pub returns-then-depth-ge-GROUPS : goal.returns-then-depth-ge-GROUPS
returns-then-depth-ge-GROUPS c =
    let a = c.args in
    refused _ refl
    (too_deep a.c a.s a.list.now a.groups.now a.place
    (sym c.brings.ensures ∙ c.if-not-brings.false) a.groups.now c.if-depth-ge-GROUPS.true)

pub returns-then-room-lt6 : goal.returns-then-room-lt6
returns-then-room-lt6 c =
    let a = c.args in
    refused _ refl
    (no_group a.c a.s a.list.now a.groups.now a.place
    (sym c.brings.ensures ∙ c.if-not-brings.false) a.groups.now c.if-depth-ge-GROUPS.false
    c.if-room-lt6.true)

pub returns-in_err-refused : goal.returns-in_err-refused
returns-in_err-refused c =
    let a = c.args in
    let p = err_from_is_err_and c.from_residual.result c.from_residual.ensures.1 in
    rw (p.1, p.2)
    (refused _ refl
    (by_its_rules a.c a.s a.list.now a.groups.now a.place
    (sym c.brings.ensures ∙ c.if-not-brings.false) a.groups.now c.if-depth-ge-GROUPS.false
    c.ranges.c.fits c.requires.0 c.if-room-lt6.false _ (sym c.in_err-refused.ensures)))

pub overflow_mul-own : goal.overflow_mul-own
overflow_mul-own c =
    omega (arith, c.own.ensures, own_few c.args.c)

pub overflow_add-own : goal.overflow_add-own
overflow_add-own c =
    omega (arith, c.own.ensures, own_few c.args.c)

pub returns-then-room-own : goal.returns-then-room-own
returns-then-room-own c =
    let a = c.args in
    refused _ refl
    (no_rows a.c a.s a.list.now a.groups.now a.place
    (sym c.brings.ensures ∙ c.if-not-brings.false) a.groups.now c.if-depth-ge-GROUPS.false
    c.ranges.c.fits c.requires.0 c.if-room-lt6.false (sym c.in_ok-refused.ensures) (rw (← c.own.ensures) c.if-room-own.true))

pub returns : goal.returns
returns c =
    let a = c.args in
    let p = c.requires in
    is_led a.c a.s a.list.now a.groups.now a.place
    (sym c.brings.ensures ∙ c.if-not-brings.false) c.if-depth-ge-GROUPS.false
    (sym c.in_ok-refused.ensures)
    (omega (
      arith,
      p.3.held,
      c.own.ensures,
      c.if-room-own.false,
    )) c.begin_group.result c.begin_group.new.list c.begin_group.new.groups
    c.begin_group.ensures.0 c.begin_group.ensures.1 (omega (arith, c.begin_group.auto, p.3.array)) c.begin_group.ensures.2
