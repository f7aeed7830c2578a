use Rattle.answer.proofs.Checks.{passes, then_stops, then_goes_on}
use Rattle.ninterp.proofs.KindOrder.{point_judged}
use Rattle.ninterp.proofs.records.point_answer.Goals as goal

pub found-requires : goal.found-requires
found-requires c = point_judged c.args.shape c.args.nodes.now c.args.values.now c.args.point.now c.requires.point_len c.requires.values_value (passes _ _ c.in-Ok.ensures)

pub returns-in-Ok : goal.returns-in-Ok
returns-in-Ok c = then_goes_on _ _ c.in-Ok.ensures _ _ c.found.ensures

pub returns-in-Err : goal.returns-in-Err
returns-in-Err c = then_stops _ _ _ c.in-Err.ensures _ _ c.from.ensures
