use Rattle.axis.proofs.cells.Cells.{count_step, count_end}
use Rattle.axis.proofs.cells.count_below.Goals as goal

pub loop-node-preserved : goal.loop-node-preserved
loop-node-preserved c = count_step _ _ _ _ _ c.loop-node-test.true c.from-count.ensures c.loop-node.invariant

pub returns : goal.returns
returns c = count_end _ _ _ _ c.loop-node-test.false c.loop-node.invariant
