-- Demand 1: a load that is refused gives the value +0.0 and no shape; one that is not answers 0, 0, 0 and +0.0. Assumes nothing.
use mathlib.Core.Path.{◌≡◌}
use mathlib.Core.Bool.{false}
use mathlib.Core.List.{List}
use Prim.Native.Nat.{ℕ}
use Rattle.answer.specs.Faults.{good}
use Rattle.answer.proofs.Orders as orders
use Rattle.answer.proofs.Answers.{Quiet, quiet}
use Rattle.image.specs.Fields.{shape_of}
use Rattle.image.specs.Load.{load_fault, load_answer}
use Rattle.layout.specs.Shape.{no_shape}

module _ (img : List ℕ) (nodes values : ℕ) where
  pub load_quiet : Quiet (load_answer img nodes values).answer
  unfolding load_answer
  load_quiet = quiet _

  pub load-no_shape : good (load_fault img nodes values) ≡ false → (load_answer img nodes values).shape ≡ no_shape
  unfolding load_answer
  load-no_shape h = orders.given_bad (load_fault img nodes values) (shape_of img) no_shape h
