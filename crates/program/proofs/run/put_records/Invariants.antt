use Rattle.ninterp.specs.Records.{record_rule}
use Rattle.checks.specs.Numbers.{most_records}
use Rattle.program.proofs.run.Walks.{Walking}
use Rattle.program.proofs.run.put_records.Given as goal

abbrev pub invariant-loop-left : goal.invariant-loop-left
invariant-loop-left l = Walking (record_rule l.shape l.nodes l.values) most_records l.records l.initial.out l.chunk l.out l.at l.left l.total

abbrev pub decreases-loop-left : goal.decreases-loop-left
decreases-loop-left l = l.left
