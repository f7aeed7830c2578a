use Rattle.answer.proofs.Checks.{passes}
use Rattle.slices.specs.LinearSlices.{linear_rest}
use Rattle.slices.proofs.Sliced.{or_kept, or_filled, point_taken}
use Rattle.slices.proofs.judged.linear_judged.Goals as goal

pub returns-in_err-point_fault : goal.returns-in_err-point_fault
unfolding linear_rest
returns-in_err-point_fault c = or_kept _ _ _ c.in_err-point_fault.ensures _ _ c.from_residual.ensures _ _

pub along_first-requires-clause-taken : goal.along_first-requires-clause-taken
along_first-requires-clause-taken c = point_taken _ _ _ _ _ (passes _ _ c.in_ok-point_fault.ensures)

pub returns : goal.returns
unfolding linear_rest
returns c = or_filled _ _ c.in_ok-point_fault.ensures _ _ _ c.along_first.ensures
