use Rattle.std.proofs.Common.{refl, sym, ap, ◌∙◌}
use lib.Seq.{length-take-le}
use Rattle.blend.specs.Blend.{computed}
use Rattle.ninterp.proofs.Corners.{rest_few, rest_gatherable, rest_folded}
use Rattle.ninterp.proofs.interpolator.n.corners.corner_answer.Goals as goal

pub rest_places-rest-requires : goal.rest_places-rest-requires
rest_places-rest-requires c = record { placeable = c.requires.placeable; blank = record { sixteen = refl; zero_first = refl } }

pub slice_bounds-places-end : goal.slice_bounds-places-end
slice_bounds-places-end c = rest_few c.requires.placeable c.rest_places-rest.ensures c.rest_places-rest.auto.places

pub slice_bounds-gather-end : goal.slice_bounds-gather-end
slice_bounds-gather-end c = sym (length-take-le _ _ (rest_few c.requires.placeable c.rest_places-rest.ensures c.rest_places-rest.auto.places))

pub gather-vals-requires : goal.gather-vals-requires
gather-vals-requires c = rest_gatherable c.requires.placeable c.rest_places-rest.ensures _ refl c.rest_places-rest.auto.places _ c.requires.stored

pub returns : goal.returns
returns c =
    c.fold_in.ensures ∙ ap computed (rest_folded c.requires.placeable c.rest_places-rest.ensures _ refl c.rest_places-rest.auto.places _ _ c.gather-vals.ensures)
