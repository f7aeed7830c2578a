use mathlib.Core.Path.{ap, ◌∙◌}
use Rattle.answer.specs.Faults.{Fault}
use Rattle.answer.proofs.Orders.{first-passed}
use Rattle.orders.specs.Orders.{nearest_slice_fault}
use Rattle.slices.specs.Slices.{slice_answer, nearest_slice, nearest_sliced}
use Rattle.slices.proofs.Sliced.{nearest_ready, axis_of_ready, where_made}
use Rattle.slices.proofs.nearest.Goals as goal

pub slice_answer-requires : goal.slice_answer-requires
unfolding nearest_slice_fault
slice_answer-requires c = where_made _ _ c.nearest_into-judged.ensures.judged (λ g. axis_of_ready _ _ _ (nearest_ready _ _ _ _ (first-passed _ _ g)))

pub returns-clause-value : goal.returns-clause-value
unfolding nearest_slice
returns-clause-value c = c.slice_answer.ensures ∙ ap (λ (f : Fault). slice_answer f c.args.shape c.args.axis) c.nearest_into-judged.ensures.judged

pub returns-clause-out_after : goal.returns-clause-out_after
unfolding nearest_sliced
returns-clause-out_after c = c.nearest_into-judged.ensures.output
