use Rattle.ninterp.proofs.Chunks.{chunk_begin}
use Rattle.ninterp.proofs.RecordLines.{block_begin, block_turn, block_last, block_full}
use Rattle.ninterp.proofs.records.block.answer_records.Goals as goal

pub loop-rec-init : goal.loop-rec-init
loop-rec-init c =
    let a = c.args in
    block_begin a.shape a.nodes.now a.values.now a.size c.requires.size_value a.most a.records.now a.out.now _
    (chunk_begin c.chunks_exact.ensures.rest c.chunks_exact.ensures.size c.take-rec-items.ensures.source c.take-rec-items.ensures.count c.into_iter-rec-iterator.ensures.into_iter_gives)

pub loop-rec-preserved : goal.loop-rec-preserved
loop-rec-preserved c =
    let a = c.args in
    block_turn a.shape a.nodes.now a.values.now a.size c.requires.size_value c.loop-rec.invariant _ _ c.next.ensures.steps _ c.in-Some.is c.if-out-done-lt-LONGEST.false c.put_answer.ensures.wrote c.put_answer.ensures.upper_bound c.put_answer.auto.out

pub returns-in-None : goal.returns-in-None
returns-in-None c =
    let a = c.args in
    block_last a.shape a.nodes.now a.values.now a.size c.requires.size_value c.loop-rec.invariant _ _ c.next.ensures.steps c.in-None.is

pub returns-then-out-done-lt-LONGEST : goal.returns-then-out-done-lt-LONGEST
returns-then-out-done-lt-LONGEST c =
    let a = c.args in
    block_full a.shape a.nodes.now a.values.now a.size c.requires.size_value c.loop-rec.invariant c.if-out-done-lt-LONGEST.true
