use Rattle.checks.proofs.shapes.Sums as sums
use Rattle.checks.proofs.shapes.sums_of.Given as goal

abbrev pub invariant-loop-count : goal.invariant-loop-count
invariant-loop-count l = sums.Sums l.counts l.count-index l.nodes l.values
