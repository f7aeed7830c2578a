use native.Mathlib.Omega.{arith}
use Rattle.answer.proofs.Checks.{passes}
use Rattle.orders.specs.Orders.{step_slice_fault}
use Rattle.slices.specs.Slices.{rule_slice}
use Rattle.slices.proofs.Sliced.{step_ready, step_lent, or_kept, or_filled, at_index, step_directions, toward_step}
use Rattle.slices.proofs.step_into.Goals as goal

pub returns-in_err-step_front : goal.returns-in_err-step_front
unfolding step_slice_fault
returns-in_err-step_front c = or_kept _ _ _ c.in_err-step_front.ensures _ _ c.from_residual.ensures _ _

pub bounds-directions-axis : goal.bounds-directions-axis
bounds-directions-axis c =
    let passed = passes _ _ c.in_ok-step_front.ensures in
    omega (arith, (step_ready _ _ _ _ _ passed).within, step_lent _ _ _ _ _ passed)

pub pick_judged-requires : goal.pick_judged-requires
pick_judged-requires c = step_ready _ _ _ _ _ (passes _ _ c.in_ok-step_front.ensures)

pub returns : goal.returns
unfolding step_slice_fault rule_slice
returns c =
    let passed = passes _ _ c.in_ok-step_front.ensures in
    let direction = step_directions _ _ _ _ _ passed c.args.axis (omega (arith, (step_ready _ _ _ _ _ passed).within, step_lent _ _ _ _ _ passed)) in
    or_filled _ _ c.in_ok-step_front.ensures _ _ _ (at_index _ _ _ _ _ (toward_step _ _ _ _ c.toward-pick.ensures direction) c.pick_judged.ensures)
