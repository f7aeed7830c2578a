use Rattle.std.proofs.Common.{drop}
use Rattle.rust.specs.Scaffolding.{diffs, butterfly}
use Rattle.blend.proofs.fold.Folds.{Folding}
use Rattle.blend.proofs.fold.fold.Given as goal

abbrev pub invariant-loop-location : goal.invariant-loop-location
invariant-loop-location l = Folding (drop l.location-index l.axes) (butterfly (diffs l.axes) l.initial.vals) l.vals l.half
