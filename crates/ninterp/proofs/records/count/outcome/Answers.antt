use Rattle.ninterp.proofs.CountCells.{outcome_flat, outcome_accepted, outcome_refused}
use Rattle.ninterp.proofs.records.count.outcome.Goals as goal

pub returns-then-number-ne0 : goal.returns-then-number-ne0
returns-then-number-ne0 c =
    outcome_refused c.args.shape c.args.nodes.now c.args.values.now c.args.rec.now c.args.number c.requires c.if-number-ne0.true

pub cells_of-cells-requires : goal.cells_of-cells-requires
cells_of-cells-requires c =
    outcome_flat c.args.shape c.args.nodes.now c.args.values.now c.args.rec.now c.args.number c.requires c.if-number-ne0.false

pub returns : goal.returns
returns c =
    outcome_accepted c.args.shape c.args.nodes.now c.args.values.now c.args.rec.now c.args.number c.requires _ c.if-number-ne0.false c.cells_of-cells.ensures
