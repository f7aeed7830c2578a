-- Demand 1: a write that is refused gives the value +0.0 and the length 0; one that is not answers 0, 0, 0 and +0.0. Assumes nothing.
use mathlib.Core.Path.{◌≡◌}
use mathlib.Core.Bool.{false}
use mathlib.Core.List.{List}
use Prim.Native.Nat.{ℕ}
use lib.Ieee.{Float}
use Rattle.answer.specs.Faults.{good}
use Rattle.answer.proofs.Orders as orders
use Rattle.answer.proofs.Answers.{Quiet, quiet}
use Rattle.layout.specs.declared.Shape.{Shape}
use Rattle.writer.specs.Write.{write_fault, write_answer}

module _ (s : Shape) (nodes values : List Float) (room : ℕ) where
  pub write_quiet : Quiet (write_answer s nodes values room).answer
  unfolding write_answer
  write_quiet = quiet _

  pub write_no_length : good (write_fault s nodes values room) ≡ false → (write_answer s nodes values room).length ≡ 0
  unfolding write_answer
  write_no_length h = orders.given_bad (write_fault s nodes values room) _ 0 h
