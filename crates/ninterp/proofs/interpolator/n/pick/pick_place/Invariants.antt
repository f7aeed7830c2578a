use Rattle.ninterp.proofs.Picks.{Picking}
use Rattle.ninterp.proofs.interpolator.n.pick.pick_place.Given as goal

abbrev pub invariant-loop-a : goal.invariant-loop-a
invariant-loop-a g l = Picking (goal.F-post g l.pick) (record { axes = l.shape.axes; counts = l.shape.counts }) l.nodes l.point l.a l.at l.flat
