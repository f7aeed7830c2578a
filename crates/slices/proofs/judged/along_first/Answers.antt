use mathlib.Core.Path.{sym, ◌∙◌}
use Rattle.axis.specs.Scaffolding.{location_by}
use Rattle.slices.proofs.Slices.{place_found, place_fits}
use Rattle.slices.proofs.Alongs.{at_node, node_runs, node_results, runs_beside, between_results}
use Rattle.slices.proofs.judged.along_first.Goals as goal

pub fill-requires : goal.fill-requires
fill-requires c =
    let r = c.requires.ready in
    let is = c.axis_nodes-grid.ensures in
    node_runs r _ is _ (place_fits r _ is _ c.requires.taken.finite_point _ _ (at_node c.in_default.is c.lower_node-node.ensures c.location_by-location.ensures)) _ c.requires.taken.enough

pub returns-in_default : goal.returns-in_default
returns-in_default c =
    let r = c.requires.ready in
    let is = c.axis_nodes-grid.ensures in
    let fin = c.requires.taken.finite_point in
    let found = at_node c.in_default.is c.lower_node-node.ensures c.location_by-location.ensures in
    node_results r _ is (location_by c.args.uniform) _ _ (place_found r _ is _ fin _ _ found) (place_fits r _ is _ fin _ _ found) _ _ _ c.fill.ensures

pub blend_runs-requires : goal.blend_runs-requires
blend_runs-requires c =
    let r = c.requires.ready in
    let is = c.axis_nodes-grid.ensures in
    runs_beside r _ is _ c.in-Between.frac (place_fits r _ is _ c.requires.taken.finite_point _ _ (sym c.in-Between.is ∙ c.location_by-location.ensures)) _ c.requires.taken.enough

pub returns : goal.returns
returns c =
    let r = c.requires.ready in
    let is = c.axis_nodes-grid.ensures in
    let fin = c.requires.taken.finite_point in
    let found = sym c.in-Between.is ∙ c.location_by-location.ensures in
    between_results r _ is (location_by c.args.uniform) _ _ _ (place_found r _ is _ fin _ _ found) (place_fits r _ is _ fin _ _ found) c.blend_runs.ensures
