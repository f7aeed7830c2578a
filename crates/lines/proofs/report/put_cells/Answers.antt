use mathlib.Core.Path.{ap, ◌∙◌}
use native.Mathlib.Omega.{arith}
use Rattle.lines.specs.Report.{cell_line}
use Rattle.lines.proofs.Fields.{cell_is}
use Rattle.lines.proofs.Reports.{reports, part_at, join_start, join_step}
use Rattle.lines.proofs.report.put_cells.Goals as goal

pub loop-i-init : goal.loop-i-init
loop-i-init c = join_start _ _ _ _

pub loop-i-preserved : goal.loop-i-preserved
loop-i-preserved c =
    join_step c.loop-i.invariant (omega arith) (cell_is _ _ _ ∙ ap (cell_line c.args.axis c.loop-i.i) (c.from.ensures ∙ part_at _ _ _ _ c.loop-i-test.true)) (grind (arith, reports)) c.put_fields-next.ensures
