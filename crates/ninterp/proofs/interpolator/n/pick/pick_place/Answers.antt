use Rattle.std.proofs.Common.{arith}
use Rattle.ninterp.proofs.Picks.{axis_within, picking_begin, picking_walks, picking_fits, picking_next, picking_done}
use Rattle.ninterp.proofs.interpolator.n.pick.pick_place.Goals as goal

pub loop-a-init : goal.loop-a-init
loop-a-init g c = picking_begin _ c.requires.readable_table

pub overflow_add-end : goal.overflow_add-end
overflow_add-end g c = omega (arith, axis_within c.requires.readable_table (picking_walks c.loop-a.invariant) c.loop-a-test.true)

pub pick-requires : goal.pick-requires
pick-requires g c = c.requires.callable _ c.loop-a-test.true

pub offset_bounds-nodes-at : goal.offset_bounds-nodes-at
offset_bounds-nodes-at g c = omega (arith, axis_within c.requires.readable_table (picking_walks c.loop-a.invariant) c.loop-a-test.true)

pub slice_bounds-index_by-end : goal.slice_bounds-index_by-end
slice_bounds-index_by-end g c = omega (arith, axis_within c.requires.readable_table (picking_walks c.loop-a.invariant) c.loop-a-test.true)

pub overflow_mul-flat : goal.overflow_mul-flat
overflow_mul-flat g c = omega (arith, picking_fits _ c.requires.readable_table c.loop-a.invariant c.loop-a-test.true _ c.pick.ensures c.index_by-i.ensures)

pub overflow_add-flat : goal.overflow_add-flat
overflow_add-flat g c = omega (arith, picking_fits _ c.requires.readable_table c.loop-a.invariant c.loop-a-test.true _ c.pick.ensures c.index_by-i.ensures)

pub loop-a-preserved : goal.loop-a-preserved
loop-a-preserved g c = picking_next _ c.requires.readable_table c.loop-a.invariant c.loop-a-test.true _ c.pick.ensures c.index_by-i.ensures

pub returns : goal.returns
returns g c = picking_done _ c.requires.readable_table c.loop-a.invariant c.loop-a-test.false
