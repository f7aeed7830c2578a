use Rattle.std.proofs.Common.{◌≡◌, ℕ, length, arith, rules}
use Rattle.ninterp.proofs.Picks.{axis_within}
use Rattle.ninterp.proofs.Locating.{locate_begin, locate_again, locate_done}
use Rattle.ninterp.proofs.interpolator.n.locations.all.Goals as goal

pub loop-a-init : goal.loop-a-init
loop-a-init c = let four : length c.args.found.now ≡ 4 = search rules in locate_begin c.args.uniform c.requires c.args.found.now four

pub overflow_add-end : goal.overflow_add-end
overflow_add-end c = omega (arith, axis_within c.requires c.loop-a.invariant.walking c.loop-a-test.true)

pub offset_bounds-nodes-at : goal.offset_bounds-nodes-at
offset_bounds-nodes-at c = omega (arith, axis_within c.requires c.loop-a.invariant.walking c.loop-a-test.true)

pub slice_bounds-location_by-end : goal.slice_bounds-location_by-end
slice_bounds-location_by-end c = omega (arith, axis_within c.requires c.loop-a.invariant.walking c.loop-a-test.true)

pub loop-a-preserved : goal.loop-a-preserved
loop-a-preserved c = locate_again c.args.uniform c.requires c.loop-a.invariant c.loop-a-test.true c.location_by.ensures

pub returns : goal.returns
returns c = locate_done c.args.uniform c.requires c.loop-a.invariant c.loop-a-test.false
