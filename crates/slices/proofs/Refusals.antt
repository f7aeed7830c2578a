-- Demand 1: a refused slice has value +0.0 and no shape and leaves the output as it was; what lies beyond the shape is never touched. Assumes nothing.
use mathlib.Core.Path.{◌≡◌}
use mathlib.Core.Bool.{true, false}
use mathlib.Core.List.{List}
use Prim.Native.Nat.{ℕ}
use lib.Ieee.{Float}
use Rattle.answer.specs.Faults.{Fault, good}
use Rattle.answer.proofs.Orders as orders
use Rattle.answer.proofs.Answers.{Quiet, quiet}
use Rattle.layout.specs.Shape.{no_shape}
use Rattle.layout.specs.declared.Shape.{Shape}
use Rattle.slices.specs.Slices.{shape_without, slice_answer, nearest_slice, step_slice}
use Rattle.slices.specs.LinearSlices.{linear_slice, linear_uniform_slice}

-- ---- of any slice, by its fault
module _ (f : Fault) (s : Shape) (axis : ℕ) where
  pub slice_quiet : Quiet (slice_answer f s axis).answer
  unfolding slice_answer
  slice_quiet = quiet f

  pub no_shape_lem : good f ≡ false → (slice_answer f s axis).shape ≡ no_shape
  unfolding slice_answer
  no_shape_lem h = orders.given_bad f (shape_without s axis) no_shape h

  -- a slice that is made has the shape that is left
  pub made_shape : good f ≡ true → (slice_answer f s axis).shape ≡ shape_without s axis
  unfolding slice_answer
  made_shape h = orders.given-good f (shape_without s axis) no_shape h

-- ---- of the four
module _ (s : Shape) (nodes values : List Float) (axis : ℕ) (p : Float) (room : ℕ) where
  pub nearest_slice_quiet : Quiet (nearest_slice s nodes values axis p room).answer
  unfolding nearest_slice
  nearest_slice_quiet = slice_quiet _ s axis

  pub step_slice_quiet : (directions : List ℕ) → Quiet (step_slice s nodes values directions axis p room).answer
  unfolding step_slice
  step_slice_quiet directions = slice_quiet _ s axis

  pub linear_slice_quiet : Quiet (linear_slice s nodes values axis p room).answer
  unfolding linear_slice
  linear_slice_quiet = slice_quiet _ s axis

  pub linear_uniform_slice_quiet : Quiet (linear_uniform_slice s nodes values axis p room).answer
  unfolding linear_uniform_slice
  linear_uniform_slice_quiet = slice_quiet _ s axis
