use Rattle.ninterp.proofs.RecordLines.{Answering}
use Rattle.ninterp.proofs.records.block.answer_records.Given as goal

abbrev pub invariant-loop-rec : goal.invariant-loop-rec
invariant-loop-rec l = Answering l.shape l.nodes l.values l.size l.most l.records l.initial.out l.out l.done.count l.done.written l.rec-iterator
