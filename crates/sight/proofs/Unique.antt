-- No second answer meets the contract of a public function of `sight`. Those that change cells and groups, and those of `naming` and
-- `operations`, are told by the state that the stack afterwards stands for, or by the rule that stops them: there is one.
use mathlib.Core.Path.{◌≡◌}
use mathlib.Core.List.{List}
use Prim.Native.Nat.{ℕ}
use Rattle.std.proofs.Common.{Result}
use contract.Lifetimes.{Lfts}
use borrow.Fn.Kinds.{Dens, res_t, ended_of}
use denote.Triple.Clauses.{AtExit}
use Rattle.chars.proofs.Only.{one, OneAnswer}
use Rattle.rules.specs.Cells.{Did}
use Rattle.rules.specs.Kinds.{Checked}
use Rattle.sight.specs.Stacks.{meant, Agrees}
use Rattle.chars.specs.declared.refusal.Refusal.{Refusal}
use Rattle.sight.specs.declared.Stack.{Stack}
use Rattle.sight.proofs as fn

pub plain : OneAnswer fn.plain.Kinds.ps fn.plain.Kinds.r fn.plain.Reads.Post
plain κs given a b x y p q = one p.0 q.0

pub with_seen : OneAnswer fn.Counts.with_seen.Kinds.ps fn.Counts.with_seen.Kinds.r fn.Counts.with_seen.Reads.Post
with_seen κs given a b x y = one

pub of : OneAnswer fn.row.of.Kinds.ps fn.row.of.Kinds.r fn.row.of.Reads.Post
of κs given a b x y = one

-- of a text, the bytes that it is
pub text_of :
    (κs : Lfts 1) (given : Dens κs fn.row.text_of.Kinds.ps) (a b : (res_t fn.row.text_of.Kinds.r κs).Denot)
    (x y : AtExit (ended_of 1 fn.row.text_of.Kinds.ps fn.row.text_of.Kinds.r) κs)
    → fn.row.text_of.Reads.Post κs given a x → fn.row.text_of.Reads.Post κs given b y → a.now ≡ b.now
text_of κs given a b x y = one

-- two answers that agree with one definition, each with the stack afterwards, mean the same
pub agreed :
    (d : Did Checked) (text : List ℕ) (k l : Stack) (a b : Result Unit Refusal)
    → Agrees d text k a → Agrees d text l b → meant text k a ≡ meant text l b
agreed d text k l a b p q = one p.same q.same
