use mathlib.Core.Path.{ap, ◌∙◌}
use Rattle.answer.specs.Faults.{Fault}
use Rattle.answer.proofs.Orders.{first-passed}
use Rattle.orders.specs.Orders.{step_slice_fault}
use Rattle.slices.specs.Slices.{slice_answer, step_slice, step_sliced}
use Rattle.slices.proofs.Sliced.{step_ready, axis_of_ready, where_made}
use Rattle.slices.proofs.step.Goals as goal

pub slice_answer-requires : goal.slice_answer-requires
unfolding step_slice_fault
slice_answer-requires c = where_made _ _ c.step_into-judged.ensures.judged (λ g. axis_of_ready _ _ _ (step_ready _ _ _ _ _ (first-passed _ _ g)))

pub returns-clause-value : goal.returns-clause-value
unfolding step_slice
returns-clause-value c = c.slice_answer.ensures ∙ ap (λ (f : Fault). slice_answer f c.args.shape c.args.axis) c.step_into-judged.ensures.judged

pub returns-clause-out_after : goal.returns-clause-out_after
unfolding step_sliced
returns-clause-out_after c = c.step_into-judged.ensures.output
