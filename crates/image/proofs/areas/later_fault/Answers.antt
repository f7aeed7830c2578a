use Rattle.answer.proofs.Loops as loops
use Rattle.image.proofs.areas.later_fault.Goals as goal

pub returns-in_err-shared_fault : goal.returns-in_err-shared_fault
returns-in_err-shared_fault c = loops.stop _ _ _ _ _ c.loop-j.invariant c.loop-j-test.true _ _ c.in_err-shared_fault.ensures _ c.from_residual.ensures

pub loop-j-preserved : goal.loop-j-preserved
loop-j-preserved c = loops.again _ _ _ _ _ c.loop-j.invariant c.loop-j-test.true _ c.in_ok-shared_fault.ensures

pub returns : goal.returns
returns c = loops.done _ _ _ _ _ c.loop-j.invariant _ c.loop-j-test.false
