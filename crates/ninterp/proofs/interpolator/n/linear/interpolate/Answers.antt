use Rattle.answer.proofs.Checks.{passes, then_stops, then_goes_on}
use Rattle.ninterp.specs.Linears.{linear_answer}
use Rattle.ninterp.proofs.Lookups.{lookup_judged_lem}
use Rattle.ninterp.proofs.interpolator.n.linear.interpolate.Goals as goal

pub interpolated-requires : goal.interpolated-requires
interpolated-requires c = lookup_judged_lem _ _ _ _ (passes _ _ c.in-Ok.ensures)

pub returns-in-Ok : goal.returns-in-Ok
unfolding linear_answer
returns-in-Ok c = then_goes_on _ _ c.in-Ok.ensures _ _ c.interpolated.ensures

pub returns-in-Err : goal.returns-in-Err
unfolding linear_answer
returns-in-Err c = then_stops _ _ _ c.in-Err.ensures _ _ c.from.ensures
