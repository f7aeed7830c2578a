use Rattle.answer.proofs.Loops as loops
use Rattle.image.proofs.areas.pairs_fault.Goals as goal

pub returns-in_err-later_fault : goal.returns-in_err-later_fault
returns-in_err-later_fault c = loops.stop _ _ _ _ _ c.loop-i.invariant c.loop-i-test.true _ _ c.in_err-later_fault.ensures _ c.from_residual.ensures

pub loop-i-preserved : goal.loop-i-preserved
loop-i-preserved c = loops.again _ _ _ _ _ c.loop-i.invariant c.loop-i-test.true _ c.in_ok-later_fault.ensures

pub returns : goal.returns
returns c = loops.done _ _ _ _ _ c.loop-i.invariant _ c.loop-i-test.false
