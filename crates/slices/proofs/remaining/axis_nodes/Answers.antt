use mathlib.Core.Path.{◌≡◌}
use Prim.Native.Nat.{◌+◌, ◌≤◌}
use native.Mathlib.Omega.{arith}
use lib.ListN.{length, take, get_or}
use Rattle.std.proofs.Common.{rules}
use Rattle.std.specs.List.{sum}
use Rattle.std.proofs.lemmas.Iterator.{YieldsList-from_slice}
use Rattle.std.proofs.lemmas.Iterator.Consumers.{sum_from_yields_List, fits_from_yields_list}
use Rattle.slices.proofs.Counts.{axis_ends, axis_lies}
use Rattle.slices.proofs.remaining.axis_nodes.Goals as goal

pub sum-start-requires-clause-fits : goal.sum-start-requires-clause-fits
sum-start-requires-clause-fits c =
    let four : length c.args.shape.counts ≡ 4 = search rules in
    fits_from_yields_list c.iter.result _ (YieldsList-from_slice _ c.iter.ensures.rest) (omega (arith, axis_ends c.args.shape four c.args.nodes.now c.args.axis c.requires.there c.requires.flat))

pub overflow_add-result : goal.overflow_add-result
overflow_add-result c =
    let four : length c.args.shape.counts ≡ 4 = search rules in
    let start : c.sum-start.result ≡ sum (take c.args.axis c.args.shape.counts) = sum_from_yields_List c.iter.result _ c.sum-start.ensures.ran (YieldsList-from_slice _ c.iter.ensures.rest) in
    omega (arith, start, axis_ends c.args.shape four c.args.nodes.now c.args.axis c.requires.there c.requires.flat)

pub offset_bounds-nodes-start : goal.offset_bounds-nodes-start
offset_bounds-nodes-start c =
    let four : length c.args.shape.counts ≡ 4 = search rules in
    let start : c.sum-start.result ≡ sum (take c.args.axis c.args.shape.counts) = sum_from_yields_List c.iter.result _ c.sum-start.ensures.ran (YieldsList-from_slice _ c.iter.ensures.rest) in
    omega (arith, start, axis_ends c.args.shape four c.args.nodes.now c.args.axis c.requires.there c.requires.flat)

pub slice_bounds-result-end : goal.slice_bounds-result-end
slice_bounds-result-end c =
    let four : length c.args.shape.counts ≡ 4 = search rules in
    let start : c.sum-start.result ≡ sum (take c.args.axis c.args.shape.counts) = sum_from_yields_List c.iter.result _ c.sum-start.ensures.ran (YieldsList-from_slice _ c.iter.ensures.rest) in
    let ends : c.sum-start.result + get_or c.args.shape.counts c.args.axis 0 ≤ length c.args.nodes.now = omega (arith, start, axis_ends c.args.shape four c.args.nodes.now c.args.axis c.requires.there c.requires.flat) in
    search rules

pub returns : goal.returns
returns c =
    let four : length c.args.shape.counts ≡ 4 = search rules in
    let start : c.sum-start.result ≡ sum (take c.args.axis c.args.shape.counts) = sum_from_yields_List c.iter.result _ c.sum-start.ensures.ran (YieldsList-from_slice _ c.iter.ensures.rest) in
    axis_lies _ four _ _ c.requires.there c.requires.flat _ start
