use Rattle.answer.proofs.Checks.{stops, goes_on}
use Rattle.ninterp.proofs.records.whole_table_fault.Goals as goal

pub returns-in_err-frame_fault : goal.returns-in_err-frame_fault
returns-in_err-frame_fault c = stops _ _ _ c.in_err-frame_fault.ensures _ c.from_residual.ensures _

pub returns : goal.returns
returns c = goes_on _ _ c.in_ok-frame_fault.ensures _ _ c.stored_fault.ensures
