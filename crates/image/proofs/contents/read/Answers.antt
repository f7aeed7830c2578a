use Rattle.std.proofs.Common.{◌∙◌, ap₂, arith}
use Rattle.image.specs.Image.{floats_at, values_in}
use Rattle.image.proofs.Floats.{size_small}
use Rattle.image.proofs.contents.read.Goals as goal

pub read_floats-requires : goal.read_floats-requires
read_floats-requires c = record { near = c.values_at.ensures.below; few = omega (arith, c.requires.values_room, size_small _ c.requires.judged) }

pub returns-clause-values : goal.returns-clause-values
unfolding values_in
returns-clause-values c = c.read_floats.ensures ∙ ap₂ (floats_at c.args.img.now) c.values_at.ensures.is c.requires.values_room
