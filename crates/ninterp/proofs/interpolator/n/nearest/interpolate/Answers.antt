use Rattle.std.proofs.Common.{rules, ap, ◌∙◌}
use Rattle.answer.specs.Answer.{answered}
use Rattle.answer.proofs.Checks.{passes, then_stops, then_goes_on}
use Rattle.ninterp.specs.Tables.{nearest_answer}
use Rattle.ninterp.proofs.Lookups.{lookup_judged_lem, stored_nearest}
use Rattle.ninterp.proofs.interpolator.n.nearest.interpolate.Goals as goal

pub stored-requires-clause-lookup_judged : goal.stored-requires-clause-lookup_judged
stored-requires-clause-lookup_judged c = lookup_judged_lem _ _ _ _ (passes _ _ c.in-Ok.ensures)

pub returns-in-Ok : goal.returns-in-Ok
unfolding nearest_answer
returns-in-Ok c =
    then_goes_on _ _ c.in-Ok.ensures _ _
    (c.stored.ensures.same
    ∙ ap answered (stored_nearest c.args.shape c.args.nodes.now c.args.values.now c.args.point.now c.stored.ensures.picks (λ a l. let h = c.stored.ensures.told a l in search rules)))

pub returns-in-Err : goal.returns-in-Err
unfolding nearest_answer
returns-in-Err c = then_stops _ _ _ c.in-Err.ensures _ _ c.from.ensures
