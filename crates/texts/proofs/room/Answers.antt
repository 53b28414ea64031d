-- `texts::room` meets its contract: each test is one that counting has, and where a begin group is brought its six numbers are
-- counted
-- with the token's. Assumes nothing.
use native.Mathlib.Omega.{arith}
use mathlib.Core.Path.{refl}
use Rattle.entities.proofs.Modes.{so_bracketed}
use Rattle.texts.proofs.Roomed.{full_bare, long-bare, roomy_bare, crowded_led, full-led, long-led, roomy-led}
use Rattle.texts.proofs.room.Goals as goal

pub returns-then-numbers-lt6 : goal.returns-then-numbers-lt6
returns-then-numbers-lt6 c =
    let a = c.args in
    full_bare a.s a.list.now a.text.now a.groups.now a.place a.size (so_bracketed a.s.mode _ _ c.eq.ensures c.if-eq.false) a.groups.now
    c.if-numbers-lt6.true _ refl

pub returns-then-bytes-size-2 : goal.returns-then-bytes-size-2
returns-then-bytes-size-2 c =
    let a = c.args in
    long-bare a.s a.list.now a.text.now a.groups.now a.place a.size (so_bracketed a.s.mode _ _ c.eq.ensures c.if-eq.false) a.groups.now
    c.if-numbers-lt6.false c.if-bytes-size-2.true _ refl

pub returns : goal.returns
returns c =
    let a = c.args in
    roomy_bare a.s a.list.now a.text.now a.groups.now a.place a.size (so_bracketed a.s.mode _ _ c.eq.ensures c.if-eq.false)
    c.if-numbers-lt6.false c.if-bytes-size-2.false c.requires.1.array

pub returns-then-s-ge-GROUPS : goal.returns-then-s-ge-GROUPS
returns-then-s-ge-GROUPS c =
    let a = c.args in
    crowded_led a.s a.list.now a.text.now a.groups.now a.place a.size (so_bracketed a.s.mode _ _ c.eq.ensures c.if-eq.true) a.groups.now
    c.if-s-ge-GROUPS.true _ refl

pub returns-then-numbers-lt12 : goal.returns-then-numbers-lt12
returns-then-numbers-lt12 c =
    let a = c.args in
    full-led a.s a.list.now a.text.now a.groups.now a.place a.size (so_bracketed a.s.mode _ _ c.eq.ensures c.if-eq.true) a.groups.now
    c.if-s-ge-GROUPS.false c.if-numbers-lt12.true _ refl

pub returns-then-bytes-size : goal.returns-then-bytes-size
returns-then-bytes-size c =
    let a = c.args in
    long-led a.s a.list.now a.text.now a.groups.now a.place a.size (so_bracketed a.s.mode _ _ c.eq.ensures c.if-eq.true) a.groups.now
    c.if-s-ge-GROUPS.false c.if-numbers-lt12.false c.if-bytes-size.true _ refl

pub returns-then-eq : goal.returns-then-eq
returns-then-eq c =
    let a = c.args in
    roomy-led a.s a.list.now a.text.now a.groups.now a.place a.size (so_bracketed a.s.mode _ _ c.eq.ensures c.if-eq.true)
    c.begin_group.new.groups c.if-s-ge-GROUPS.false c.if-numbers-lt12.false c.if-bytes-size.false
    c.begin_group.result c.begin_group.new.list c.begin_group.ensures.0 c.begin_group.ensures.1 (omega (
      arith,
      c.begin_group.auto,
      c.requires.1.array,
    ))
    c.begin_group.ensures.2
