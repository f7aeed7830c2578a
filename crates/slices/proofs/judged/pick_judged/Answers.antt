use mathlib.Core.Path.{sym}
use Rattle.answer.proofs.Checks.{passes}
use Rattle.layout.proofs.Removals.{length_slice}
use Rattle.slices.proofs.Sliced.{kept, written, point_taken}
use Rattle.slices.proofs.judged.pick_judged.Goals as goal

pub returns-in_err-point_fault : goal.returns-in_err-point_fault
returns-in_err-point_fault c = kept _ _ _ c.in_err-point_fault.ensures _ c.from_residual.ensures _ _

pub pick_slice-requires-clause-taken : goal.pick_slice-requires-clause-taken
pick_slice-requires-clause-taken c = point_taken _ _ _ _ _ (passes _ _ c.in_ok-point_fault.ensures)

pub returns : goal.returns
returns c = written _ _ c.in_ok-point_fault.ensures _ _ _ _ (sym (length_slice _ _ _ _)) _ c.pick_slice.ensures
