use Rattle.answer.proofs.Loops as loops
use Rattle.checks.proofs.values.values_fault_from.Goals as goal

pub returns-in_err-value_fault : goal.returns-in_err-value_fault
returns-in_err-value_fault c =
    loops.stop _ _ _ _ _ c.loop-i.invariant c.loop-i-test.true _ _ c.in_err-value_fault.ensures _ c.from_residual.ensures

pub loop-i-preserved : goal.loop-i-preserved
loop-i-preserved c = loops.again _ _ _ _ _ c.loop-i.invariant c.loop-i-test.true _ c.in_ok-value_fault.ensures

pub returns : goal.returns
returns c = loops.done _ _ _ _ _ c.loop-i.invariant _ c.loop-i-test.false
