use native.Mathlib.Omega.{arith}
use Rattle.writer.specs.Made.{image_length, values_at}
use Rattle.writer.proofs.image_length.Goals as goal

pub returns : goal.returns
unfolding image_length values_at
returns c = omega (arith, c.held-held.ensures.nodes, c.held-held.ensures.values)
