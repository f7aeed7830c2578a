use Rattle.slices.proofs.Slices.{few_counts, pick_is, pick_within, runs_there, runs_written}
use Rattle.slices.proofs.judged.pick_slice.Goals as goal

pub stride-inner-requires-clause-few : goal.stride-inner-requires-clause-few
stride-inner-requires-clause-few c = few_counts c.requires.ready

pub fill-requires : goal.fill-requires
fill-requires c =
    let r = c.requires.ready in
    let is = c.axis_nodes-grid.ensures in
    runs_there r _ is _ c.stride-inner.ensures _ (pick_within r _ is _ c.requires.taken.finite_point _ _ c.index_by-i.ensures) _ c.requires.taken.enough

pub returns : goal.returns
returns c =
    let r = c.requires.ready in
    let is = c.axis_nodes-grid.ensures in
    runs_written r _ is _ c.stride-inner.ensures _ _ (pick_is r _ is _ c.requires.taken.finite_point _ _ c.index_by-i.ensures) _ _ c.fill.ensures
