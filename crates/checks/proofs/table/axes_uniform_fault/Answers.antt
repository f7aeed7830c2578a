use Rattle.checks.specs.Numbers.{default_fault, axes_uniform_fault}
use Rattle.checks.proofs.table.axes_uniform_fault.Goals as goal

pub returns : goal.returns
unfolding axes_uniform_fault
returns c = c.each_axis.ensures default_fault (λ a grid r p. p)
