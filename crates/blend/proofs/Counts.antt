-- How many corners the axes have. Assumes nothing.
use mathlib.Core.Path.{◌≡◌, sym, ap₂, ◌∙◌}
use mathlib.Core.List.{List, [], ◌∷◌}
use Prim.Native.Nat.{ℕ, suc, ◌+◌, ◌^◌, ◌≤◌, min}
use native.Mathlib.Nat.{pow-le-pow_right}
use native.Mathlib.Omega.{arith}
use lib.ListN.{length}
use Rattle.rust.specs.Scaffolding.{diffs}
use Rattle.blend.specs.Scaffolding.{more_corners}
use Rattle.rust.specs.declared.AxisLocation.{AxisLocation}
use Rattle.rust.specs.declared.AxisLocation.TheVariants.{Exact, Between}
use Rattle.rust.proofs.Passes.{power_suc}

pub more_power : (p : AxisLocation) (ps : List AxisLocation) (h : ℕ) → h ≡ 2 ^ length (diffs ps) → 2 ^ length (diffs (p ∷ ps)) ≤ 16 → more_corners p h ≡ 2 ^ length (diffs (p ∷ ps))
more_power (Exact node) ps h e l = e
more_power (Between k f) ps h e l =
    let d : h + h ≡ 2 ^ suc (length (diffs ps)) = ap₂ (λ (x y : ℕ). x + y) e e ∙ sym (power_suc (length (diffs ps))) in
    let m : min (h + h) 16 ≡ h + h = omega (arith, d, l) in
    m ∙ d

pub few_diffs : (ps : List AxisLocation) → length (diffs ps) ≤ length ps
few_diffs [] = omega arith
few_diffs (Exact node ∷ ps) = omega (arith, few_diffs ps)
few_diffs (Between l f ∷ ps) = omega (arith, few_diffs ps)

pub few_corners : (ps : List AxisLocation) → length ps ≤ 4 → 2 ^ length (diffs ps) ≤ 16
few_corners ps l = let u : 2 ^ length (diffs ps) ≤ 2 ^ 4 = pow-le-pow_right (omega arith) {j = 4} (omega (arith, few_diffs ps, l)) in u
