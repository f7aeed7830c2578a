use Rattle.answer.proofs.Loops as loops
use Rattle.checks.proofs.nodes.nodes_fault.Goals as goal

pub returns-in_err-node_fault : goal.returns-in_err-node_fault
returns-in_err-node_fault c =
    loops.stop _ _ _ _ _ c.loop-i.invariant c.loop-i-test.true _ _ c.in_err-node_fault.ensures _ c.from_residual.ensures

pub loop-i-preserved : goal.loop-i-preserved
loop-i-preserved c = loops.again _ _ _ _ _ c.loop-i.invariant c.loop-i-test.true _ c.in_ok-node_fault.ensures

pub returns : goal.returns
returns c = loops.done _ _ _ _ _ c.loop-i.invariant _ c.loop-i-test.false
