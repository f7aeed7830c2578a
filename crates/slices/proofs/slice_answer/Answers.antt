use mathlib.Core.Path.{sym, ap, ◌∙◌}
use Rattle.answer.specs.Rows.{said}
use Rattle.slices.specs.Slices.{slice_answer}
use Rattle.slices.proofs.Sliced.{answer_refused, answer_made}
use Rattle.slices.proofs.slice_answer.Goals as goal

pub returns-in-Ok : goal.returns-in-Ok
returns-in-Ok c = answer_made _ _ tt _ _ c.pass.ensures c.shape_without.ensures ∙ ap (λ r. slice_answer (said r) c.args.shape c.args.axis) (sym c.in-Ok.is)

pub returns-in-Err : goal.returns-in-Err
returns-in-Err c = answer_refused _ _ (Unit {0}) _ _ c.from.ensures ∙ ap (λ r. slice_answer (said r) c.args.shape c.args.axis) (sym c.in-Err.is)
