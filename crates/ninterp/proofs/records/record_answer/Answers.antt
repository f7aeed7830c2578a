use Rattle.ninterp.proofs.KindOrder.{lengths_stop, lengths_pass}
use Rattle.ninterp.proofs.records.record_answer.Goals as goal

pub whole_answer-requires : goal.whole_answer-requires
whole_answer-requires c = record {
  known = record { judged = c.whole_table_fault-table.ensures; spaced = c.axes_uniform_fault-uniform.ensures };
  rec_len = lengths_pass c.args.shape c.args.nodes.now c.args.values.now c.args.rec.now _ c.in-Ok.ensures;
}

pub returns-in-Err : goal.returns-in-Err
returns-in-Err c = lengths_stop c.args.shape c.args.nodes.now c.args.values.now c.args.rec.now _ _ c.in-Err.ensures _ c.from.ensures
