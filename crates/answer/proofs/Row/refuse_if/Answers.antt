use mathlib.Core.Path.{sym, ◌∙◌}
use Rattle.answer.specs.Rows.{said}
use Rattle.answer.proofs.Orders.{when_true, when_false}
use Rattle.answer.proofs.Row.refuse_if.Goals as goal

pub returns-then-met : goal.returns-then-met
unfolding said
returns-then-met c = c.at.ensures ∙ sym (when_true _ _ c.if-met.true)

pub returns-else-met : goal.returns-else-met
unfolding said
returns-else-met c = sym (when_false _ _ c.if-met.false)
