use Rattle.ninterp.proofs.Locating.{Locating}
use Rattle.ninterp.proofs.interpolator.n.locations.all.Given as goal

abbrev pub invariant-loop-a : goal.invariant-loop-a
invariant-loop-a l = Locating l.uniform (record { axes = l.shape.axes; counts = l.shape.counts }) l.nodes l.point l.found l.a l.at
