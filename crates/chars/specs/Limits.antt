-- The limits of document 01 in one record, which every definition that a limit bears on takes as a parameter.
use Rattle.std.specs.Prelude.{ℕ}

pub record Limits : Type 0 where
  -- bytes of a draft, as handed in: one more is refusal 1
  pub draft : ℕ
  -- bytes of a simple token or a prefix: one more is 8
  pub token : ℕ
  -- clean bytes of a string's data: one more is 9
  pub string : ℕ
  -- groups open at a time, inserted ones counted: one more is 17
  pub groups : ℕ
  -- operations in a table: one more is 20
  pub operations : ℕ
  -- cells on the stack, hidden ones counted: one more is 29
  pub cells : ℕ
  -- names defined: one more is 30
  pub names : ℕ

-- the numbers that document 01 gives them
abbrev pub limits : Limits
limits =
    record { draft = 16384; token = 255; string = 4096; groups = 64; operations = 256; cells = 1024; names = 128 }
