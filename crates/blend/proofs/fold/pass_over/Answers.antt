use Rattle.blend.proofs.runs.Blends.{run_done}
use Rattle.blend.proofs.fold.Folds.{pass_step, pass_done}
use Rattle.blend.proofs.fold.pass_over.Goals as goal

pub loop-i-preserved : goal.loop-i-preserved
loop-i-preserved c = pass_step _ _ _ _ _ c.loop-i.invariant _ c.loop-i-test.true c.blend.ensures

pub returns : goal.returns
returns c =
    let split = c.split_at_mut-low.ensures in
    pass_done _ _ _ c.requires _ _ _ split.front split.back (run_done _ _ _ _ c.loop-i.invariant c.loop-i.auto.i-end c.loop-i-test.false)
