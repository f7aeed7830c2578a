use Rattle.ninterp.proofs.CountCells.{Finding}
use Rattle.ninterp.proofs.records.count.cells_of.Given as goal

abbrev pub invariant-loop-a : goal.invariant-loop-a
invariant-loop-a l = Finding (record { axes = l.shape.axes; counts = l.shape.counts }) l.nodes l.rec l.found l.at l.a
