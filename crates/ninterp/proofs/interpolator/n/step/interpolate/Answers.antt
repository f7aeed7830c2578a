use Rattle.std.proofs.Common.{◌≡◌, length, rules, ap, ◌∙◌}
use Rattle.answer.specs.Answer.{answered}
use Rattle.answer.proofs.Checks.{passes, then_stops, then_goes_on}
use Rattle.ninterp.specs.Tables.{step_answer}
use Rattle.ninterp.proofs.Lookups.{step_judged, step_lent, stored_step}
use Rattle.ninterp.proofs.interpolator.n.step.interpolate.Goals as goal

pub stored-requires-clause-lookup_judged : goal.stored-requires-clause-lookup_judged
stored-requires-clause-lookup_judged c = step_judged _ _ _ _ _ (passes _ _ c.in-Ok.ensures)

pub stored-requires-clause-callable : goal.stored-requires-clause-callable
stored-requires-clause-callable c =
    let lent : length c.args.directions.now ≡ c.args.shape.axes = step_lent _ _ _ _ _ (passes _ _ c.in-Ok.ensures) in
    λ a l. search rules

pub returns-in-Ok : goal.returns-in-Ok
unfolding step_answer
returns-in-Ok c =
    then_goes_on _ _ c.in-Ok.ensures _ _
    (c.stored.ensures.same
    ∙ ap answered (stored_step c.args.shape c.args.nodes.now c.args.values.now c.args.point.now c.stored.ensures.picks c.args.directions.now (passes _ _ c.in-Ok.ensures) (λ a l. let h = c.stored.ensures.told a l in search rules)))

pub returns-in-Err : goal.returns-in-Err
unfolding step_answer
returns-in-Err c = then_stops _ _ _ c.in-Err.ensures _ _ c.from.ensures
