-- `runs::byte::low` meets its contract: antt computes the definition at each byte that is told alone, and at every other one of each range
-- that begins no word. Assumes nothing.
use mathlib.Core.Path.{refl, sym, ap, ◌∙◌}
use mathlib.Core.Bool.{not, ◌&&◌}
use mathlib.Core.List.{◌∷◌, []}
use native.Mathlib.Omega.{arith}
use lib.Dec.{eqb, leb}
use borrow.Author.Rules.{rules}
use borrow.Author.Tests.{le-leb}
use Rattle.tokens.specs.Sorts.{visible, white, atomic, inclusive}
use Rattle.tokens.proofs.Table.{constant}
use Rattle.runs.specs.Bytes.{begins_of}
use Rattle.runs.specs.Codes.{begins_code}
use Rattle.runs.proofs.Bytes.{but_for_words}
use Rattle.runs.proofs.byte.low.Goals as goal

pub returns-then-b-gt35 : goal.returns-then-b-gt35
unfolding begins_code begins_of visible white atomic inclusive
returns-then-b-gt35 c =
    but_for_words 3 0x24 0x2C [] refl c.args.b (search rules) (omega arith) (omega arith) tt c.requires.1

pub returns-then-b-eq35 : goal.returns-then-b-eq35
unfolding begins_code begins_of visible white atomic inclusive
returns-then-b-eq35 c = ap begins_of (sym c.if-b-eq35.true)

pub returns-then-b-gt32 : goal.returns-then-b-gt32
unfolding begins_code begins_of visible white atomic inclusive
returns-then-b-gt32 c =
    but_for_words 4 0x21 0x23 (0x23 ∷ []) refl c.args.b (search rules) (omega arith) (omega arith)
    (c.if-b-eq35.false, tt) c.requires.1

pub returns-then-white : goal.returns-then-white
unfolding begins_code begins_of
returns-then-white c = rw (sym c.white.ensures ∙ c.if-white.true) refl

pub returns : goal.returns
unfolding begins_code begins_of visible white atomic inclusive
returns c =
    constant begins_of 0 (λ k. leb k 0x20 && (not (white k) && not (eqb (begins_of k) 6))) refl c.args.b (search rules)
    (rw (c.requires.1, le-leb c.args.b 0x20 (omega arith), sym c.white.ensures ∙ c.if-white.false) refl)
