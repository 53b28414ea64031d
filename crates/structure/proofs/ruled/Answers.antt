-- `structure::ruled` meets its contract: each byte's own rules are those of the token that it is alone. Below `*` what is neither `(`
-- nor `)` is `%`, and above what is none of , [ ] is `;`, which is 11. Assumes nothing.
use native.Mathlib.Omega.{arith}
use Rattle.structure.proofs.Alone.{percent, semicolon, of_byte, stray}
use Rattle.entities.proofs.Rules.{array-allowed}
use Rattle.structure.proofs.ruled.Goals as goal

pub returns-in_default : goal.returns-in_default
returns-in_default c =
    let a = c.args in
    of_byte 0 a.s a.list.now a.groups.now a.place a.c 0x25
    (percent a.c c.ranges.c.fits c.requires.0 c.if-c-lt42.true (λ e. omega arith) (λ e. omega arith)) c.metacommand_begins.result
    c.metacommand_begins.new.list a.groups.now c.metacommand_begins.ensures

pub returns-in-91 : goal.returns-in-91
returns-in-91 c =
    let a = c.args in
    of_byte 0 a.s a.list.now a.groups.now a.place a.c 0x5B c.in-91.is _ a.list.now a.groups.now
    (array-allowed a.s a.list.now a.groups.now a.place c.requires.3 c.requires.1 _ c.array_begins.ensures)

pub returns-in_default-c : goal.returns-in_default-c
returns-in_default-c c =
    let a = c.args in
    let p = c.requires in
    let high = c.if-c-lt42.false in
    let is =
    semicolon a.c c.ranges.c.fits p.0 (λ e. omega (arith, e, high)) (λ e. omega (arith, e, high)) (λ e. omega arith)
    (λ e. omega arith) (λ e. omega arith) (λ e. omega (arith, e, high)) in
    stray 0 a.s a.list.now a.groups.now a.place a.c is p.1
