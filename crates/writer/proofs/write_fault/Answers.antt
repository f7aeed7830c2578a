use mathlib.Core.Path.{ap, ◌∙◌}
use Prim.Native.Nat.{ℕ}
use Rattle.answer.proofs.Checks.{passes, stops, goes_on}
use Rattle.answer.proofs.Orders.{or_assoc, first-passed}
use Rattle.checks.specs.Shapes.{shape_fault, frame_fault}
use Rattle.checks.specs.Numbers.{room_fault}
use Rattle.writer.specs.Write.{write_fault}
use Rattle.writer.proofs.write_fault.Goals as goal

pub returns-in_err-frame_fault : goal.returns-in_err-frame_fault
unfolding write_fault
returns-in_err-frame_fault c = stops _ _ _ c.in_err-frame_fault.ensures _ c.from_residual.ensures _

pub returns-in_err-stored_fault : goal.returns-in_err-stored_fault
unfolding write_fault
returns-in_err-stored_fault c =
    goes_on _ _ c.in_ok-frame_fault.ensures _ _ (stops _ _ _ c.in_err-stored_fault.ensures _ c.from_residual-in_err-stored_fault.ensures _ ∙ or_assoc _ _ _)

pub image_length-requires : goal.image_length-requires
unfolding frame_fault
image_length-requires c = first-passed (shape_fault c.args.shape) _ (passes _ _ c.in_ok-frame_fault.ensures)

pub returns : goal.returns
unfolding write_fault
returns c =
    goes_on _ _ c.in_ok-frame_fault.ensures _ _
    (goes_on _ _ c.in_ok-stored_fault.ensures _ _ (c.room_fault.ensures ∙ ap (λ (k : ℕ). room_fault 2 k c.args.room) c.image_length.ensures) ∙ or_assoc _ _ _)
