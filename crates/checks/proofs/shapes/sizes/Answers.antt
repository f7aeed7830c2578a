use Rattle.answer.proofs.Checks.{passes}
use Rattle.checks.proofs.counts.Rows.{axes_four}
use Rattle.checks.proofs.shapes.Frames.{counts_few}
use Rattle.checks.proofs.shapes.sizes.Goals as goal

pub counts_fault-requires : goal.counts_fault-requires
counts_fault-requires c = axes_four _ (passes _ _ c.in_ok-axes_count_fault.ensures)

pub sums_of-sums-requires : goal.sums_of-sums-requires
sums_of-sums-requires c = counts_few _ (passes _ _ c.in_ok-axes_count_fault.ensures) (passes _ _ c.in_ok-counts_fault.ensures)
