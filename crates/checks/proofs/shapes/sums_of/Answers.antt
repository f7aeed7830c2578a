use mathlib.Core.Path.{◌≡◌}
use native.Mathlib.Nat.{lt_of_le_of_lt}
use native.Mathlib.Omega.{arith}
use Rattle.std.proofs.Common.{rules, length}
use lib.Dec.{lit<}
use lib.ListN.{length-take}
use Rattle.checks.proofs.shapes.Sums as sums
use Rattle.checks.proofs.shapes.sums_of.Goals as goal

pub loop-count-init : goal.loop-count-init
loop-count-init c = sums.begin _

pub overflow_add-nodes : goal.overflow_add-nodes
overflow_add-nodes c =
    let four : length c.args.shape.counts ≡ 4 = search rules in
    record { fits = lt_of_le_of_lt (sums.sum_fits _ _ _ _ c.loop-count.invariant c.loop-count-test.true (omega (arith, c.requires.axes, length-take c.args.shape.axes c.args.shape.counts)) (sums.counts_few _ _ (omega (arith, c.requires.axes)) c.requires.each)) (lit< {m = 256} tt) }

pub overflow_mul-values : goal.overflow_mul-values
overflow_mul-values c =
    let four : length c.args.shape.counts ≡ 4 = search rules in
    record { fits = lt_of_le_of_lt (sums.product_fits _ _ _ _ c.loop-count.invariant c.loop-count-test.true (omega (arith, c.requires.axes, length-take c.args.shape.axes c.args.shape.counts)) (sums.counts_few _ _ (omega (arith, c.requires.axes)) c.requires.each)) (lit< {m = 16777216} tt) }

pub loop-count-preserved : goal.loop-count-preserved
loop-count-preserved c = sums.again _ _ _ _ c.loop-count.invariant c.loop-count-test.true

pub returns : goal.returns
returns c = sums.done _ _ _ _ c.loop-count.invariant c.loop-count-test.false
