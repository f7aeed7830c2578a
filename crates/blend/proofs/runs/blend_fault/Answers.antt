use Rattle.std.proofs.Common.{ap, ◌∙◌}
use Rattle.answer.proofs.Loops as loops
use Rattle.checks.specs.Numbers.{result_fault}
use Rattle.blend.proofs.runs.Blends.{results_blends}
use Rattle.blend.proofs.runs.blend_fault.Goals as goal

pub returns-in_err-result_fault : goal.returns-in_err-result_fault
returns-in_err-result_fault c =
    loops.stop _ _ _ _ _ c.loop-i.invariant c.loop-i-test.true _ _ (c.in_err-result_fault.ensures ∙ ap (result_fault _) c.blend.ensures) _ c.from_residual.ensures
    ∙ results_blends _ _ _ _ c.min-count.ensures

pub loop-i-preserved : goal.loop-i-preserved
loop-i-preserved c =
    loops.again _ _ _ _ _ c.loop-i.invariant c.loop-i-test.true _ (c.in_ok-result_fault.ensures ∙ ap (result_fault _) c.blend.ensures)

pub returns : goal.returns
returns c = loops.done _ _ _ _ _ c.loop-i.invariant _ c.loop-i-test.false ∙ results_blends _ _ _ _ c.min-count.ensures
