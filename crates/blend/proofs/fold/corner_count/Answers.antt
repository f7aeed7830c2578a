use Rattle.std.proofs.Common.{◌∙◌}
use Rattle.blend.proofs.fold.Counts.{count_step}
use Rattle.blend.proofs.fold.corner_count.Goals as goal

pub loop-location-preserved : goal.loop-location-preserved
loop-location-preserved c = c.grow-count.ensures ∙ count_step _ _ _ c.requires c.loop-location-test.true c.loop-location.invariant
