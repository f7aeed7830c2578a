use Rattle.ninterp.proofs.CountBlocks.{loop_again, loop_last}
use Rattle.ninterp.proofs.records.count.count_records.Goals as goal

pub loop-rec-preserved : goal.loop-rec-preserved
loop-rec-preserved c =
    let a = c.args in
    loop_again a.shape a.nodes.now a.values.now a.t a.records.now a.size c.requires.size_value c.loop-rec.invariant _ _ c.next.ensures.steps _ c.in-Some.is _ c.count_next-read.ensures

pub returns : goal.returns
returns c =
    let a = c.args in
    loop_last a.shape a.nodes.now a.values.now a.t a.records.now a.size c.requires.size_value c.loop-rec.invariant _ _ c.next.ensures.steps c.in-None.is
