use Rattle.checks.specs.Numbers.{nodes_fault, axes_fault}
use Rattle.checks.proofs.table.axes_fault.Goals as goal

pub returns : goal.returns
unfolding axes_fault
returns c = c.each_axis.ensures nodes_fault (λ a grid r p. p)
