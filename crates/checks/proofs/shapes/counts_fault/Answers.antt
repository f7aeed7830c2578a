use mathlib.Core.Path.{◌≡◌, ap, ◌∙◌}
use Prim.Native.Nat.{◌<◌}
use native.Mathlib.Omega.{arith}
use Rattle.std.proofs.Common.{rules, length}
use lib.Seq.{length-take-le, get_or-take}
use Rattle.answer.proofs.Loops as loops
use Rattle.checks.specs.Numbers.{count_fault}
use Rattle.checks.proofs.shapes.counts_fault.Goals as goal

pub returns-in_err-count_fault : goal.returns-in_err-count_fault
returns-in_err-count_fault c =
    let four : length c.args.shape.counts ≡ 4 = search rules in
    let here : c.loop-a.a < c.args.shape.axes = omega (arith, length-take-le c.args.shape.axes c.args.shape.counts (omega (arith, c.requires))) in
    loops.stop _ _ _ _ _ c.loop-a.invariant here _ _ (c.in_err-count_fault.ensures ∙ ap (count_fault _) (get_or-take _ _ _ _ here)) _ c.from_residual.ensures

pub loop-a-preserved : goal.loop-a-preserved
loop-a-preserved c =
    let four : length c.args.shape.counts ≡ 4 = search rules in
    let here : c.loop-a.a < c.args.shape.axes = omega (arith, length-take-le c.args.shape.axes c.args.shape.counts (omega (arith, c.requires))) in
    loops.again _ _ _ _ _ c.loop-a.invariant here _ (c.in_ok-count_fault.ensures ∙ ap (count_fault _) (get_or-take _ _ _ _ here))

pub returns : goal.returns
returns c =
    let four : length c.args.shape.counts ≡ 4 = search rules in
    loops.done _ _ _ _ _ c.loop-a.invariant _ (omega (arith, c.loop-a-test.false, length-take-le c.args.shape.axes c.args.shape.counts (omega (arith, c.requires))))
