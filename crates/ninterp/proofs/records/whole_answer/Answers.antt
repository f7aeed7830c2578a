use Rattle.std.proofs.Common.{sym}
use Rattle.ninterp.proofs.KindOrder.{whole_stops, whole_table, whole_enough, whole_count, whole_found}
use Rattle.ninterp.proofs.records.whole_answer.Goals as goal

pub slice_bounds-readings-end : goal.slice_bounds-readings-end
slice_bounds-readings-end c = whole_enough c.requires.known c.args.rec.now c.requires.rec_len _ c.in-Ok.ensures.fault _ c.readings_of-readings.ensures

pub slice_bounds-point_answer-end : goal.slice_bounds-point_answer-end
slice_bounds-point_answer-end c = sym (whole_count c.requires.known c.args.rec.now c.requires.rec_len _ c.in-Ok.ensures.fault _ c.readings_of-readings.ensures)

pub point_answer-requires : goal.point_answer-requires
point_answer-requires c = record {
  values_value = whole_table c.requires.known c.args.rec.now c.requires.rec_len _ c.in-Ok.ensures.fault;
  point_len = whole_count c.requires.known c.args.rec.now c.requires.rec_len _ c.in-Ok.ensures.fault _ c.readings_of-readings.ensures;
}

pub returns-in-Err : goal.returns-in-Err
returns-in-Err c = whole_stops c.requires.known c.args.rec.now c.requires.rec_len _ c.in-Err.ensures.fault _ c.from.ensures

pub returns-in-Ok : goal.returns-in-Ok
returns-in-Ok c =
    whole_found c.requires.known c.args.rec.now c.requires.rec_len _ c.in-Ok.ensures.fault _ c.readings_of-readings.ensures c.in-Ok.ensures.known _ c.point_answer.ensures
