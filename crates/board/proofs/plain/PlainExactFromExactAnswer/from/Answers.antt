use Rattle.std.proofs.Common.{Option, ℕ}
use mathlib.Core.Path.{sym, ap}
use Rattle.utils.specs.Calls.{index_of}
use Rattle.board.specs.Plain.{found_of, plain_exact}
use Rattle.board.specs.declared.plain.PlainExact.{PlainExact}
use Rattle.answer.specs.declared.Answer.{Answer}
use Rattle.board.proofs.plain.PlainExactFromExactAnswer.from.Goals as goal

abbrev with_node : Answer → Option ℕ → PlainExact
with_node a i = record { answer = a; found = found_of i; index = index_of i }

pub returns-in-Some : goal.returns-in-Some
unfolding plain_exact
returns-in-Some c = sym (ap (with_node c.args.exact.answer) c.in-Some.is)

pub returns-in-None : goal.returns-in-None
unfolding plain_exact
returns-in-None c = sym (ap (with_node c.args.exact.answer) c.in-None.is)
