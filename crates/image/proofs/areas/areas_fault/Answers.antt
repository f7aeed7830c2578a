use Rattle.answer.proofs.Loops as loops
use Rattle.image.proofs.areas.areas_fault.Goals as goal

pub returns-in_err-area_fault : goal.returns-in_err-area_fault
returns-in_err-area_fault c = loops.stop _ _ _ _ _ c.loop-k.invariant c.loop-k-test.true _ _ c.in_err-area_fault.ensures _ c.from_residual.ensures

pub loop-k-preserved : goal.loop-k-preserved
loop-k-preserved c = loops.again _ _ _ _ _ c.loop-k.invariant c.loop-k-test.true _ c.in_ok-area_fault.ensures

pub returns : goal.returns
returns c = loops.done _ _ _ _ _ c.loop-k.invariant _ c.loop-k-test.false
