use Rattle.std.proofs.Common.{ap, ◌∙◌}
use Rattle.layout.specs.Shape.{counts_of}
use Rattle.layout.specs.Layout.{table}
use Rattle.blend.specs.Blend.{linear, computed}
use Rattle.ninterp.specs.Linears.{interpolated}
use Rattle.ninterp.proofs.interpolator.n.corners.interpolated.Goals as goal

pub all-requires : goal.all-requires
all-requires c = c.requires.readable

pub corner_answer-requires : goal.corner_answer-requires
corner_answer-requires c =
    let t = c.requires.readable in
    record {
      placeable = record {
        some = c.requires.some;
        few = t.four;
        long_counts = t.long;
        long_locations = c.all.ensures.long;
        small = t.grid.small;
        within = c.all.ensures.within;
      };
      stored = c.requires.stored;
    }

pub returns : goal.returns
unfolding interpolated
returns c =
    c.corner_answer.ensures ∙ ap (λ ps. computed (linear ps (table (counts_of c.args.shape) c.args.values.now))) c.all.ensures.same
