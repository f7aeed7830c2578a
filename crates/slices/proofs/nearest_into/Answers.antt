use native.Mathlib.Omega.{arith}
use Rattle.answer.proofs.Checks.{passes}
use Rattle.orders.specs.Orders.{nearest_slice_fault}
use Rattle.axis.proofs.picks.Picks.{is_nearest}
use Rattle.slices.specs.Slices.{rule_slice}
use Rattle.slices.proofs.Sliced.{nearest_ready, or_kept, or_filled, at_index}
use Rattle.slices.proofs.nearest_into.Goals as goal

pub returns-in_err-nearest_front : goal.returns-in_err-nearest_front
unfolding nearest_slice_fault
returns-in_err-nearest_front c = or_kept _ _ _ c.in_err-nearest_front.ensures _ _ c.from_residual.ensures _ _

pub pick_judged-requires : goal.pick_judged-requires
pick_judged-requires c = nearest_ready _ _ _ _ (passes _ _ c.in_ok-nearest_front.ensures)

pub returns : goal.returns
unfolding nearest_slice_fault rule_slice
returns c = or_filled _ _ c.in_ok-nearest_front.ensures _ _ _ (at_index _ _ _ _ _ (is_nearest 2 _ _ (omega arith)) c.pick_judged.ensures)
