-- The contract of `run`, as it stands in the source (`Post`), allows one outcome, of the answer and of the output.
use mathlib.Core.Path.{◌≡◌}
use mathlib.Core.List.{List}
use Prim.Native.Nat.{ℕ}
use Rattle.answer.proofs.Outcome.{one_outcome}
use Rattle.program.specs.declared.run.RunAnswer.{RunAnswer}
use Rattle.program.proofs.run.run.Reads as run

pub run_unique : (κs : _) (a : _) (r s : RunAnswer) (x y : _) → run.Post κs a r x → run.Post κs a s y → r ≡ s
run_unique κs a r s x y p q = one_outcome r s _ p.answer q.answer

pub run_output : (κs : _) (a : _) (r s : RunAnswer) (x y : _) → run.Post κs a r x → run.Post κs a s y → ◌≡◌ {A = List ℕ} x.1.0.now y.1.0.now
run_output κs a r s x y p q = one_outcome x.1.0.now y.1.0.now _ p.text_out q.text_out
