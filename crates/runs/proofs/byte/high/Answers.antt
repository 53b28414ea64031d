-- `runs::byte::high` meets its contract: antt computes the definition at each byte that is told alone, and at every other one that begins
-- no word. Assumes nothing.
use mathlib.Core.Path.{refl, sym, ap}
use mathlib.Core.List.{◌∷◌, []}
use native.Mathlib.Omega.{arith}
use borrow.Author.Rules.{rules}
use Rattle.tokens.specs.Sorts.{visible, white, atomic, inclusive}
use Rattle.runs.specs.Bytes.{begins_of}
use Rattle.runs.specs.Codes.{begins_code}
use Rattle.runs.proofs.Bytes.{but_for_words}
use Rattle.runs.proofs.byte.high.Goals as goal

pub returns-in-123 : goal.returns-in-123
unfolding begins_code begins_of visible white atomic inclusive
returns-in-123 c = ap begins_of (sym c.in-123.is)

pub returns-in-124 : goal.returns-in-124
unfolding begins_code begins_of visible white atomic inclusive
returns-in-124 c = ap begins_of (sym c.in-124.is)

pub returns-in-125 : goal.returns-in-125
unfolding begins_code begins_of visible white atomic inclusive
returns-in-125 c = ap begins_of (sym c.in-125.is)

pub returns-in_default : goal.returns-in_default
unfolding begins_code begins_of visible white atomic inclusive
returns-in_default c =
    but_for_words 0 0x7B 0xFF (0x7B ∷ 0x7C ∷ 0x7D ∷ []) refl c.args.b (search rules) (omega arith) (omega arith)
    (omega arith, (omega arith, (omega arith, tt))) c.requires.1
