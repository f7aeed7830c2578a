-- "Success is 0, 0, 0 and the value (+0.0 where a call gives none). A refusal has value +0.0, any index, fraction or shape it would give is zero": of each
-- primitive. Assumes nothing.
use Rattle.std.proofs.Common.{Option, None}
use mathlib.Core.Path.{◌≡◌, ap}
use mathlib.Core.Bool.{false}
use mathlib.Core.List.{List}
use Prim.Native.Nat.{ℕ}
use lib.Ieee.{Float}
use Rattle.answer.specs.Faults.{Fault, good}
use Rattle.answer.specs.Answer.{plus_zero}
use Rattle.answer.proofs.Orders.{given_bad}
use Rattle.answer.proofs.Answers.{Quiet, quiet}
use Rattle.axis.specs.Locations.{location_index}
use Rattle.rust.specs.declared.AxisLocation.{AxisLocation}
use Rattle.rust.specs.declared.AxisLocation.TheVariants.{Exact}
use Rattle.utils.specs.Calls.{index_of, location_fraction, index_answer, exact_answer, axis_answer, locate_lower_index, exact_index, locate_axis, locate_step_index, locate_lower_index_uniform, validate_uniform_grid, validate_uniform_grid_epsilon}

-- ---- what a refusal gives besides: zero, in the paper's numbers
module _ (f : Fault) (h : good f ≡ false) where
  pub no_index : (i : ℕ) → (index_answer f i).index ≡ 0
  unfolding index_answer
  no_index i = given_bad f i 0 h

  pub no_node : (i : Option ℕ) → index_of (exact_answer f i).index ≡ 0
  unfolding exact_answer
  no_node i = ap index_of (given_bad f i None h)

  pub no_location : (l : AxisLocation) → (location_index (axis_answer f l).location ≡ 0) × (location_fraction (axis_answer f l).location ≡ plus_zero)
  unfolding axis_answer
  no_location l = (ap location_index (given_bad f l (Exact 0) h), ap location_fraction (given_bad f l (Exact 0) h))

-- ---- what each tells
module _ (nodes : List Float) (p : Float) where
  pub lower_index_quiet : Quiet (locate_lower_index nodes p).answer
  unfolding locate_lower_index index_answer
  lower_index_quiet = quiet _

  pub exact_index_quiet : (lower : ℕ) → Quiet (exact_index nodes lower p).answer
  unfolding exact_index exact_answer
  exact_index_quiet lower = quiet _

  pub locate_axis_quiet : Quiet (locate_axis nodes p).answer
  unfolding locate_axis axis_answer
  locate_axis_quiet = quiet _

  pub step_index_quiet : (direction : ℕ) → Quiet (locate_step_index direction nodes p).answer
  unfolding locate_step_index index_answer
  step_index_quiet direction = quiet _

pub uniform_index_quiet : (first step : Float) (n : ℕ) (p : Float) → Quiet (locate_lower_index_uniform first step n p).answer
unfolding locate_lower_index_uniform index_answer
uniform_index_quiet first step n p = quiet _

pub grid_quiet : (nodes : List Float) (tolerance : Float) → Quiet (validate_uniform_grid nodes tolerance)
unfolding validate_uniform_grid validate_uniform_grid_epsilon
grid_quiet nodes tolerance = quiet _

pub grid_epsilon_quiet : (nodes : List Float) (tolerance : Option Float) → Quiet (validate_uniform_grid_epsilon nodes tolerance)
unfolding validate_uniform_grid_epsilon
grid_epsilon_quiet nodes tolerance = quiet _
