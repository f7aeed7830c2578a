use Rattle.ninterp.proofs.RecordLines.{record_wrote}
use Rattle.ninterp.proofs.records.block.put_answer.Goals as goal

pub returns : goal.returns
returns c =
    let a = c.args in
    record { wrote = record_wrote a.shape a.nodes.now a.values.now a.rec.now c.whole_answer-a.result a.out.now a.to c.whole_answer-a.ensures c.requires.rec_len.1 c.put_line.ensures.value.0 c.put_line.ensures.value.1; upper_bound = c.put_line.ensures.upper_bound }
