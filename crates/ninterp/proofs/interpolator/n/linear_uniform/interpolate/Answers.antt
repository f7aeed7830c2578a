use Rattle.answer.proofs.Checks.{passes, then_stops, then_goes_on}
use Rattle.ninterp.specs.Linears.{linear_uniform_answer}
use Rattle.ninterp.proofs.Lookups.{linear_uniform_judged}
use Rattle.ninterp.proofs.interpolator.n.linear_uniform.interpolate.Goals as goal

pub interpolated-requires : goal.interpolated-requires
interpolated-requires c = linear_uniform_judged _ _ _ _ (passes _ _ c.in-Ok.ensures)

pub returns-in-Ok : goal.returns-in-Ok
unfolding linear_uniform_answer
returns-in-Ok c = then_goes_on _ _ c.in-Ok.ensures _ _ c.interpolated.ensures

pub returns-in-Err : goal.returns-in-Err
unfolding linear_uniform_answer
returns-in-Err c = then_stops _ _ _ c.in-Err.ensures _ _ c.from.ensures
