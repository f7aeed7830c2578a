use Rattle.slices.proofs.Runs.{copied}
use Rattle.slices.proofs.written.copy_run.Goals as goal

pub loop-j-preserved : goal.loop-j-preserved
loop-j-preserved c = copied _ _ _ _ c.loop-j-test.true c.requires c.loop-j.invariant
