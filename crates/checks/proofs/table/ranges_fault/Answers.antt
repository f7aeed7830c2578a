use Rattle.std.proofs.Common.{rules, get_or}
use lib.Ieee.{nan}
use Rattle.checks.specs.Numbers.{range_fault, ranges_fault}
use Rattle.checks.proofs.table.ranges_fault.Goals as goal

pub returns : goal.returns
unfolding ranges_fault
returns c = c.each_axis.ensures (λ a grid. range_fault a grid (get_or c.args.readings.now a nan)) (λ a grid r p. search rules)
