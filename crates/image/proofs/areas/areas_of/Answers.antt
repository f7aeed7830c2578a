use Rattle.std.proofs.Common.{rules}
use Rattle.image.specs.Scaffolding.{AreaIn, nth}
use Rattle.image.proofs.Floats.{axes_four}
use Rattle.image.proofs.Listed.{five_each}
use Rattle.image.proofs.areas.areas_of.Goals as goal

pub returns : goal.returns
returns c = record {
  five = c.from_fn.ensures.items.long;
  four = axes_four _ c.requires.judged;
  each = five_each (λ k. AreaIn c.args.img.now k (nth c.from_fn.result k)) (search rules) (search rules) (search rules) (search rules) (search rules);
}
