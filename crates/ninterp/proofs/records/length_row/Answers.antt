use Rattle.std.proofs.Common.{◌≤◌, arith}
use Rattle.answer.proofs.Checks.{passes, stops, goes_on}
use Rattle.checks.proofs.shapes.Frames.{shape_four}
use Rattle.checks.proofs.table.Grids.{frame_shape}
use Rattle.ninterp.proofs.records.length_row.Goals as goal

pub overflow_mul-shape : goal.overflow_mul-shape
overflow_mul-shape c =
    let few : c.args.shape.axes ≤ 4 = shape_four c.args.shape (frame_shape c.args.shape c.args.nodes.now c.args.values.now (passes _ _ c.in_ok-frame_fault.ensures)) in
    omega (arith, few)

pub overflow_add-shape : goal.overflow_add-shape
overflow_add-shape c =
    let few : c.args.shape.axes ≤ 4 = shape_four c.args.shape (frame_shape c.args.shape c.args.nodes.now c.args.values.now (passes _ _ c.in_ok-frame_fault.ensures)) in
    omega (arith, few)

pub returns-in_err-frame_fault : goal.returns-in_err-frame_fault
returns-in_err-frame_fault c = stops _ _ _ c.in_err-frame_fault.ensures _ c.from_residual.ensures _

pub returns : goal.returns
returns c = goes_on _ _ c.in_ok-frame_fault.ensures _ _ c.length_fault.ensures
