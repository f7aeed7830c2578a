use Rattle.ninterp.proofs.Corners.{Spreaded}
use Rattle.ninterp.proofs.interpolator.n.corners.spread.Given as goal

abbrev pub invariant-loop-i : goal.invariant-loop-i
invariant-loop-i l = Spreaded l.initial.places l.count l.low l.high l.i l.places
