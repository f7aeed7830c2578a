use Rattle.image.specs.Fields.{axes_field}
use Rattle.image.proofs.Floats.{Reading}
use Rattle.image.proofs.contents.read_nodes.Given as goal

abbrev pub invariant-loop-a : goal.invariant-loop-a
invariant-loop-a l = Reading l.img (axes_field l.img) l.out l.to l.a
