use Rattle.std.proofs.Common.{◌≡◌, ◌^◌, length, take}
use Rattle.rust.specs.Scaffolding.{diffs}
use Rattle.blend.proofs.fold.corner_count.Given as goal

abbrev pub invariant-loop-location : goal.invariant-loop-location
invariant-loop-location l = l.count ≡ 2 ^ length (diffs (take l.location-index l.locations))
