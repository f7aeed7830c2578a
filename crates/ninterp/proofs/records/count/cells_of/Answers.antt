use Rattle.std.proofs.Common.{arith}
use Rattle.ninterp.proofs.CountCells.{find_begin, find_within, find_again, find_done}
use Rattle.ninterp.proofs.records.count.cells_of.Goals as goal

pub loop-a-init : goal.loop-a-init
loop-a-init c = find_begin c.args.shape c.args.nodes.now c.args.rec.now c.requires

pub overflow_add-end : goal.overflow_add-end
overflow_add-end c = omega (arith, find_within c.args.shape c.args.nodes.now c.args.rec.now c.requires c.loop-a.invariant c.loop-a-test.true)

pub offset_bounds-nodes-at : goal.offset_bounds-nodes-at
offset_bounds-nodes-at c = omega (arith, find_within c.args.shape c.args.nodes.now c.args.rec.now c.requires c.loop-a.invariant c.loop-a-test.true)

pub slice_bounds-lower_index-end : goal.slice_bounds-lower_index-end
slice_bounds-lower_index-end c = omega (arith, find_within c.args.shape c.args.nodes.now c.args.rec.now c.requires c.loop-a.invariant c.loop-a-test.true)

pub loop-a-preserved : goal.loop-a-preserved
loop-a-preserved c =
    find_again c.args.shape c.args.nodes.now c.args.rec.now c.requires c.loop-a.invariant c.loop-a-test.true _ c.float-reading.ensures _ c.lower_index.ensures

pub returns : goal.returns
returns c = find_done c.args.shape c.args.nodes.now c.args.rec.now c.requires c.loop-a.invariant c.loop-a-test.false
