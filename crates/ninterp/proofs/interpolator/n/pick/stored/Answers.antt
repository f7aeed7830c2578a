use Rattle.std.proofs.Common.{ap, ◌∙◌, arith}
use Rattle.answer.specs.Answer.{answered}
use Rattle.layout.specs.Shape.{counts_of}
use Rattle.ninterp.specs.Scaffolding.{pick_by}
use Rattle.ninterp.proofs.Lookups.{stored_at}
use Rattle.ninterp.proofs.interpolator.n.pick.stored.Goals as goal

pub bounds-values-at : goal.bounds-values-at
bounds-values-at g c = omega (arith, c.pick_place-at.ensures.below, c.requires.lookup_judged.stored)

pub returns : goal.returns
returns g c =
    let p = c.pick_place-at.ensures in
    record {
      picks = p.picks;
      told = p.told;
      same = c.from.ensures ∙ ap answered (stored_at (pick_by p.picks) (counts_of c.args.shape) c.args.nodes.now c.args.values.now c.args.point.now _ p.same);
    }
