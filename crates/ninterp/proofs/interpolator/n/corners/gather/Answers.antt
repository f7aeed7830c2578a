use Rattle.std.proofs.Common.{refl, ◌∙◌, ◌+◌, length, get_or, set, arith, length-set}
use lib.Ieee.{nan}
use Rattle.ninterp.proofs.Corners.{put_both}
use Rattle.ninterp.proofs.interpolator.n.corners.gather.Goals as goal

pub loop-i-init : goal.loop-i-init
loop-i-init c = (refl, λ k b. absurd (omega arith))

pub loop-i-preserved : goal.loop-i-preserved
loop-i-preserved c =
    let xs = c.args.values.now in
    let ps = c.args.places.now in
    (length-set (set c.loop-i.vals _ _) c.loop-i.i _ ∙ length-set c.loop-i.vals _ _ ∙ c.loop-i.invariant.0, put_both c.loop-i.vals c.loop-i.i (length ps) _ _ nan (λ k. get_or xs (get_or ps k 0 + c.args.low) nan) (λ k. get_or xs (get_or ps k 0 + c.args.high) nan) c.loop-i-test.true (omega (arith, c.loop-i.invariant.0, c.requires.few, c.loop-i-test.true)) c.loop-i.invariant.1 refl refl)

pub returns : goal.returns
returns c = record { both = λ k b. c.loop-i.invariant.1 k (omega (arith, c.loop-i-test.false, b)) }
