use mathlib.Core.Path.{ap, ◌∙◌}
use Rattle.answer.specs.Faults.{Fault}
use Rattle.answer.proofs.Orders.{first-passed}
use Rattle.slices.specs.Slices.{slice_answer}
use Rattle.slices.specs.LinearSlices.{linear_slice_fault, linear_slice, linear_sliced}
use Rattle.slices.proofs.Sliced.{linear_axis, where_made}
use Rattle.slices.proofs.linear.Goals as goal

pub slice_answer-requires : goal.slice_answer-requires
unfolding linear_slice_fault
slice_answer-requires c = where_made _ _ c.linear_into-judged.ensures.judged (λ g. linear_axis _ _ _ _ (first-passed _ _ g))

pub returns-clause-value : goal.returns-clause-value
unfolding linear_slice
returns-clause-value c = c.slice_answer.ensures ∙ ap (λ (f : Fault). slice_answer f c.args.shape c.args.axis) c.linear_into-judged.ensures.judged

pub returns-clause-out_after : goal.returns-clause-out_after
unfolding linear_sliced
returns-clause-out_after c = c.linear_into-judged.ensures.output
