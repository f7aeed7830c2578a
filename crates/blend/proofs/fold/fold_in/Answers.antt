use Rattle.std.proofs.Common.{ap, ◌∙◌}
use Rattle.answer.specs.Answer.{answered}
use Rattle.answer.proofs.Checks.{then_stops, then_goes_on}
use Rattle.checks.specs.Numbers.{result_fault}
use Rattle.blend.specs.Blend.{computed}
use Rattle.blend.proofs.fold.fold_in.Goals as goal

pub returns-in-Ok : goal.returns-in-Ok
unfolding computed
returns-in-Ok c = then_goes_on _ _ (c.in-Ok.ensures ∙ ap (result_fault 0) c.fold-value.ensures) _ _ (c.from.ensures ∙ ap answered c.fold-value.ensures)

pub returns-in-Err : goal.returns-in-Err
unfolding computed
returns-in-Err c = then_stops _ _ _ (c.in-Err.ensures ∙ ap (result_fault 0) c.fold-value.ensures) _ _ c.from-in-Err.ensures
