-- Naming `computes` on an `unfolding` line has every definition of this crate's specs/ compute there.
use Rattle.tokens.specs.Sorts.{visible, white, atomic, exclusive, inclusive, legal}
use Rattle.tokens.specs.Tokens.{simply, closed, opens, begins, up, down, nested, continues, inside, step, follows, tokens, shown}
use Rattle.tokens.specs.Tokens.{first, token_at}
use Rattle.tokens.specs.Runs.{class_of, run, past_blanks, past_comment, past_all, sort_of, opened_as, refusal_of}
use Rattle.tokens.specs.Step.{reached, stepped, onward, told}
use Rattle.tokens.specs.Tail.{blank, tail}

unfoldable pub computes : Unit {0}
unfolding visible white atomic exclusive inclusive legal simply closed opens begins up down nested continues inside step follows tokens
    shown first token_at class_of run past_blanks past_comment past_all sort_of opened_as refusal_of reached stepped onward told blank tail
computes = tt
