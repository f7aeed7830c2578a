use Rattle.program.specs.Coverage.{report_on}
use Rattle.program.proofs.coverage.put.Goals as goal

pub returns : goal.returns
unfolding report_on
returns c =
    record { value = c.put.ensures.value; upper_bound = c.put.ensures.upper_bound }
