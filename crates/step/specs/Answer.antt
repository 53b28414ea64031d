-- The answer of step in document 01's numbers, with the place reached.
use Rattle.std.specs.Prelude.{ℕ}
use Rattle.tokens.specs.Step.{told, onward}
use Rattle.tokens.specs.Tokens.{Token}
use Rattle.step.specs.declared.Answer.{Answer}

unfoldable pub answered : (next : ℕ) → Token → Answer
answered next token =
    let t = told token in
    record {
      number = t.number;
      place = t.place;
      after = t.after;
      sort = t.sort;
      prefix = t.prefix;
      length = t.length;
      next = next;
    }

-- of a step from a place
unfoldable pub answer_of : (place : ℕ) → Token → Answer
answer_of place token = answered (onward place token) token
