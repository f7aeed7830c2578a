use Rattle.axis.proofs.cells.Cells.{Counted}
use Rattle.axis.proofs.cells.count_below.Given as goal

abbrev pub invariant-loop-node : goal.invariant-loop-node
invariant-loop-node l = Counted l.grid l.point l.node-index l.count
