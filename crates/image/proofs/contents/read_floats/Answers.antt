use Rattle.std.proofs.Common.{◌∙◌, ap, arith}
use Rattle.image.specs.Image.{floats_at}
use Rattle.image.proofs.Floats.{floats_all}
use Rattle.image.proofs.contents.read_floats.Goals as goal

pub returns : goal.returns
returns c =
    floats_all c.args.img.now c.args.at c.loop-i.out (λ k l. c.loop-i.invariant k (omega (arith, c.loop-i-test.false)))
    ∙ ap (floats_at c.args.img.now c.args.at) c.loop-i.auto.out
