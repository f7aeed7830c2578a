use mathlib.Core.Path.{◌≡◌, ap, ◌∙◌}
use Prim.Native.Nat.{ℕ}
use Rattle.std.proofs.Common.{rules, List, length}
use Rattle.layout.proofs.Totals.{counts_least}
use Rattle.checks.specs.Scaffolding.{each_axis}
use Rattle.checks.proofs.table.Axes as axes
use Rattle.checks.proofs.table.each_axis.Goals as goal

pub loop-a-init : goal.loop-a-init
loop-a-init g c = λ fault says. axes.begin _ _ _

pub returns-in_err-row : goal.returns-in_err-row
returns-in_err-row g c = λ fault says.
    let four : length c.args.shape.counts ≡ 4 = search rules in
    axes.stop fault _ _ _ _ (c.loop-a.invariant fault says) c.loop-a-test.true _ c.min-in-loop-a.ensures _ c.split_at.ensures.front _ _ (says _ _ _ c.in_err-row.ensures) _ c.from_residual.ensures
    ∙ ap (λ (cs : List ℕ). each_axis fault cs c.args.nodes.now) (counts_least _ _ _ four c.min.ensures)

pub loop-a-preserved : goal.loop-a-preserved
loop-a-preserved g c = λ fault says.
    axes.again fault _ _ _ _ (c.loop-a.invariant fault says) c.loop-a-test.true _ c.min-in-loop-a.ensures _ c.split_at.ensures.front _ c.split_at.ensures.back _ (says _ _ _ c.in_ok-row.ensures)

pub returns : goal.returns
returns g c = λ fault says.
    let four : length c.args.shape.counts ≡ 4 = search rules in
    axes.done fault _ _ _ _ (c.loop-a.invariant fault says) _ c.loop-a-test.false
    ∙ ap (λ (cs : List ℕ). each_axis fault cs c.args.nodes.now) (counts_least _ _ _ four c.min.ensures)
