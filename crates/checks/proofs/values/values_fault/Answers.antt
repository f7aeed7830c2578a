use mathlib.Core.Path.{◌≡◌, subst}
use Prim.Native.Nat.{ℕ, ◌+◌, ◌*◌, ◌/◌}
use native.Mathlib.Omega.{arith}
use Rattle.std.proofs.Common.{rules, length}
use Rattle.answer.proofs.Loops as loops
use Rattle.answer.proofs.Tests.{not_false}
use Rattle.checks.proofs.values.Rows.{value_good}
use Rattle.checks.specs.Numbers.{value_fault, values_fault}
use Rattle.checks.proofs.values.values_fault.Goals as goal

pub returns-then-not-eight_finite : goal.returns-then-not-eight_finite
returns-then-not-eight_finite c = loops.rest _ _ _ _ _ c.loop-k.invariant _ c.values_fault_from.ensures

pub loop-k-preserved : goal.loop-k-preserved
loop-k-preserved c =
    let vs = c.args.values.now in
    subst (loops.Left (value_fault vs) (values_fault vs) 0 (length vs)) (omega arith)
    (loops.skip _ _ _ _ _ c.loop-k.invariant 8 (omega arith) (λ j h. value_good vs (8 * c.loop-k.k + j) (c.eight_finite.ensures (not_false _ (search rules)) j h)))

pub returns : goal.returns
returns c =
    let vs = c.args.values.now in
    let all : c.loop-k.k ≡ length vs / 8 = omega arith in
    loops.rest _ _ _ _ _ (subst (λ (k : ℕ). loops.Left (value_fault vs) (values_fault vs) 0 (length vs) (8 * k)) all c.loop-k.invariant) _ c.values_fault_from-2.ensures
