use Rattle.answer.proofs.Loops as loops
use Rattle.image.proofs.rows.counts_fault.Goals as goal

pub returns-in_err-count_row : goal.returns-in_err-count_row
returns-in_err-count_row c = loops.stop _ _ _ _ _ c.loop-a.invariant c.loop-a-test.true _ _ c.in_err-count_row.ensures _ c.from_residual.ensures

pub loop-a-preserved : goal.loop-a-preserved
loop-a-preserved c = loops.again _ _ _ _ _ c.loop-a.invariant c.loop-a-test.true _ c.in_ok-count_row.ensures

pub returns : goal.returns
returns c = loops.done _ _ _ _ _ c.loop-a.invariant _ c.loop-a-test.false
