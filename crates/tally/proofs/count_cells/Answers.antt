use mathlib.Core.Path.{◌≡◌, ap, ◌∙◌}
use Rattle.std.proofs.Common.{rules, length}
use Rattle.layout.proofs.Totals.{counts_least}
use Rattle.tally.specs.Tally.{cells_more}
use Rattle.tally.proofs.Steps.{cells_step, cells_done}
use Rattle.tally.proofs.count_cells.Goals as goal

pub loop-a-preserved : goal.loop-a-preserved
loop-a-preserved c = cells_step _ _ _ _ _ c.loop-a-test.true c.count_cell.ensures c.loop-a.invariant

pub returns : goal.returns
returns c =
    let four : length c.args.found ≡ 4 = search rules in
    cells_done _ _ _ _ c.loop-a-test.false c.loop-a.invariant ∙ ap (cells_more c.args.cells.now 0) (counts_least _ _ _ four c.min.ensures)
