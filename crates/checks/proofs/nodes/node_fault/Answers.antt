use mathlib.Core.Path.{sym, ◌∙◌}
use borrow.Author.Tests.{lt-ltb, le-ltb}
use Rattle.answer.proofs.Orders.{when_true, when_false}
use Rattle.answer.proofs.Checks.{goes_on, said-ok}
use Rattle.checks.specs.Numbers.{node_fault}
use Rattle.checks.proofs.nodes.node_fault.Goals as goal

pub returns-then-i-gt0 : goal.returns-then-i-gt0
unfolding node_fault
returns-then-i-gt0 c = goes_on _ _ c.in_ok-finite_fault.ensures _ _ (c.rise_fault.ensures ∙ sym (when_true _ _ (lt-ltb _ _ c.if-i-gt0.true)))

pub returns-else-i-gt0 : goal.returns-else-i-gt0
unfolding node_fault
returns-else-i-gt0 c = goes_on _ _ c.in_ok-finite_fault.ensures _ _ (said-ok _ ∙ sym (when_false _ _ (le-ltb _ _ c.if-i-gt0.false)))
