-- `runs::byte::begins` meets its contract: what begins no word is told below `-` and from `{` on, and between them it is a token alone.
-- Assumes nothing.
use mathlib.Core.Path.{refl, sym, ◌∙◌}
use mathlib.Core.List.{[]}
use native.Mathlib.Omega.{arith}
use borrow.Author.Rules.{rules}
use borrow.Author.Tests.{eqb-true}
use Rattle.tokens.specs.Sorts.{visible, white, atomic, inclusive}
use Rattle.runs.specs.Bytes.{begins_of}
use Rattle.runs.specs.Codes.{begins_code}
use Rattle.runs.proofs.Bytes.{but_for_words}
use Rattle.runs.proofs.byte.begins.Goals as goal

pub returns-then-begins_word : goal.returns-then-begins_word
unfolding begins_code
returns-then-begins_word c = sym (eqb-true _ 6 (sym c.begins_word.ensures ∙ c.if-begins_word.true))

pub returns-then-b-lt123 : goal.returns-then-b-lt123
unfolding begins_code begins_of visible white atomic inclusive
returns-then-b-lt123 c =
    but_for_words 3 0x2D 0x7A [] refl c.args.b (search rules) (omega arith) (omega arith) tt
    (sym c.begins_word.ensures ∙ c.if-begins_word.false)
