use Rattle.std.proofs.Common.{refl, arith}
use Rattle.ninterp.proofs.Corners.{spread_turn}
use Rattle.ninterp.proofs.interpolator.n.corners.spread.Goals as goal

pub loop-i-init : goal.loop-i-init
loop-i-init c = record { long = refl; done = λ k b. absurd (omega arith); rest = λ k a b. refl }

pub loop-i-preserved : goal.loop-i-preserved
loop-i-preserved c = spread_turn _ _ _ _ _ _ _ c.requires.room c.loop-i-test.true c.loop-i.invariant refl

pub returns : goal.returns
returns c = record { both = λ k b. c.loop-i.invariant.done k (omega (arith, c.loop-i-test.false, b)) }
