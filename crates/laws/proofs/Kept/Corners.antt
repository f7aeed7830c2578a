-- Laws of how many corners the axes have, counted from the last one on, a step that the code no longer takes. They hold as they did; no proof
-- stands on them.
use mathlib.Core.Path.{◌≡◌, sym, ap, ◌∙◌, subst}
use mathlib.Core.List.{List, ◌∷◌}
use Prim.Native.Nat.{ℕ, ◌+◌, ◌-◌, ◌^◌, ◌≤◌, ◌<◌}
use native.Mathlib.Omega.{arith}
use lib.ListN.{length, take, drop, get_or, length-drop, length-take}
use Rattle.layout.proofs.Totals.{ahead, past}
use Rattle.rust.specs.Scaffolding.{diffs}
use Rattle.rust.specs.declared.AxisLocation.{AxisLocation}
use Rattle.rust.specs.declared.AxisLocation.TheVariants.{Exact}
use Rattle.blend.specs.Scaffolding.{more_corners}
use Rattle.blend.proofs.Counts.{more_power, few_corners}

left_few : (ls : List AxisLocation) (n d : ℕ) → n ≤ 4 → length (drop d (take n ls)) ≤ 4
left_few ls n d l = omega (arith, length-drop d (take n ls), length-take n ls, l)

-- from the last axis on
pub count-step : (ls : List AxisLocation) (n d count : ℕ) → n ≤ 4 → n ≤ length ls → 0 < d → d ≤ n → count ≡ 2 ^ length (diffs (drop d (take n ls)))
    → more_corners (get_or ls (d - 1) (Exact 0)) count ≡ 2 ^ length (diffs (drop (d - 1) (take n ls)))
count-step ls n d count f a b l e =
    let v : d ≡ d - 1 + 1 = omega arith in
    let open_up : drop (d - 1) (take n ls) ≡ get_or ls (d - 1) (Exact 0) ∷ drop (d - 1 + 1) (take n ls) = ahead ls n (d - 1) (Exact 0) (omega arith) a in
    let few : 2 ^ length (diffs (get_or ls (d - 1) (Exact 0) ∷ drop (d - 1 + 1) (take n ls))) ≤ 16 =
    subst (λ (r : List AxisLocation). 2 ^ length (diffs r) ≤ 16) open_up (few_corners (drop (d - 1) (take n ls)) (left_few ls n (d - 1) f)) in
    more_power (get_or ls (d - 1) (Exact 0)) (drop (d - 1 + 1) (take n ls)) count (e ∙ ap (λ (k : ℕ). 2 ^ length (diffs (drop k (take n ls)))) v) few
    ∙ ap (λ (r : List AxisLocation). 2 ^ length (diffs r)) (sym open_up)

pub count_none : (ls : List AxisLocation) (n : ℕ) → 1 ≡ 2 ^ length (diffs (drop n (take n ls)))
count_none ls n = sym (ap (λ (r : List AxisLocation). 2 ^ length (diffs r)) (past ls n n (omega arith)))
