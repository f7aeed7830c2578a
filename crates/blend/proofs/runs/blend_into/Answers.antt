use Rattle.std.proofs.Common.{◌≡◌, ℕ, min, ◌++◌, length, take, drop, ap, ◌∙◌, arith, length-take}
use Rattle.layout.specs.Layout.{tabulate}
use Rattle.blend.specs.Scaffolding.{blended_into}
use Rattle.blend.proofs.runs.Blends.{run_at, run_step, run_done}
use Rattle.blend.proofs.runs.blend_into.Goals as goal

pub loop-i-preserved : goal.loop-i-preserved
loop-i-preserved c = run_step (run_at c.args.f c.args.low.now c.args.high.now) _ _ _ c.loop-i.invariant _ c.loop-i-test.true c.blend.ensures

pub returns : goal.returns
unfolding blended_into
returns c =
    let h = run_at c.args.f c.args.low.now c.args.high.now in
    let front = take c.min-count.result c.args.out.now in
    let long : length front ≡ c.min-count.result = omega (arith, length-take c.min-count.result c.args.out.now) in
    let count : c.min-count.result ≡ min (min (length c.args.low.now) (length c.args.high.now)) (length c.args.out.now) = omega arith in
    ap (λ v. v ++ drop c.min-count.result c.args.out.now) (run_done h front _ _ c.loop-i.invariant (omega arith) c.loop-i-test.false ∙ ap (λ (k : ℕ). tabulate k h) long)
    ∙ ap (λ (k : ℕ). tabulate k h ++ drop k c.args.out.now) count
