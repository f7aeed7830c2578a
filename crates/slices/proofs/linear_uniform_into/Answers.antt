use Rattle.answer.proofs.Checks.{passes}
use Rattle.slices.specs.LinearSlices.{linear_uniform_slice_fault}
use Rattle.slices.proofs.Sliced.{linear_ready, linear-first, uniform_linear, or_kept, or_filled, on-axis}
use Rattle.slices.proofs.linear_uniform_into.Goals as goal

pub returns-in_err-linear_uniform_front : goal.returns-in_err-linear_uniform_front
unfolding linear_uniform_slice_fault
returns-in_err-linear_uniform_front c = or_kept _ _ _ c.in_err-linear_uniform_front.ensures _ _ c.from_residual.ensures _ _

pub linear_judged-requires : goal.linear_judged-requires
linear_judged-requires c = linear_ready _ _ _ _ (uniform_linear _ _ _ _ (passes _ _ c.in_ok-linear_uniform_front.ensures))

pub returns : goal.returns
unfolding linear_uniform_slice_fault
returns c = or_filled _ _ c.in_ok-linear_uniform_front.ensures _ _ _ (on-axis _ _ _ _ _ _ _ (linear-first _ _ _ _ (uniform_linear _ _ _ _ (passes _ _ c.in_ok-linear_uniform_front.ensures))) c.linear_judged.ensures)
