use Rattle.slices.proofs.Counts.{count_left, count_gone}
use native.Mathlib.Omega.{arith}
use Rattle.slices.proofs.remaining.count_without.Goals as goal

pub bounds-counts-b : goal.bounds-counts-b
bounds-counts-b c = omega (arith, c.requires.axes_bound)

pub returns-then-b-shape : goal.returns-then-b-shape
returns-then-b-shape c = count_left c.args.shape c.args.axis c.args.a c.axis_past-b.result c.axis_past-b.ensures c.if-b-shape.true

pub returns-else-b-shape : goal.returns-else-b-shape
returns-else-b-shape c = count_gone c.args.shape c.args.axis c.args.a c.axis_past-b.result c.axis_past-b.ensures c.if-b-shape.false
