use Rattle.std.proofs.Common.{ℕ, List, Float}
use Rattle.answer.specs.Faults.{Fault}
use Rattle.checks.specs.Scaffolding.{Says}
use Rattle.checks.proofs.table.Axes as axes
use Rattle.checks.proofs.table.each_axis.Given as goal

abbrev pub invariant-loop-a : goal.invariant-loop-a
invariant-loop-a g l = (fault : ℕ → List Float → Fault) → Says (goal.F-post g l.row) fault → axes.Left fault l.counts l.nodes l.rest l.a
