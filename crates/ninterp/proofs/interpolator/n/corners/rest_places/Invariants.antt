use Rattle.ninterp.proofs.Corners.{Turning}
use Rattle.ninterp.proofs.interpolator.n.corners.rest_places.Given as goal

abbrev pub invariant-loop-d : goal.invariant-loop-d
invariant-loop-d l = Turning l.counts l.locations l.n l.places l.d l.rest.count l.rest.low l.rest.high l.stride
