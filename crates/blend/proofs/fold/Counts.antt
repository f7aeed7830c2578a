-- How many corners the first axes have. Assumes nothing.
use Rattle.std.proofs.Common.{◌≡◌, ℕ, suc, ◌+◌, ◌^◌, ◌<◌, ◌≤◌, List, [], ◌∷◌, ◌++◌, length, take, drop, get_or, refl, sym, ap, ◌∙◌, subst, arith, length-take, length-drop}
use Rattle.std.proofs.lemmas.List.{take_more}
use Rattle.rust.specs.Scaffolding.{diffs}
use Rattle.blend.specs.Scaffolding.{more_corners}
use Rattle.rust.specs.declared.AxisLocation.{AxisLocation}
use Rattle.rust.specs.declared.AxisLocation.TheVariants.{Exact, Between}
use Rattle.blend.proofs.Counts.{more_power, few_corners}

-- one axis more at the end is one more in front
at_end : (p : AxisLocation) (ps : List AxisLocation) → length (diffs (ps ++ p ∷ [])) ≡ length (diffs (p ∷ ps))
at_end p [] = refl
at_end (Exact m) (Exact n ∷ ps) = at_end (Exact m) ps
at_end (Exact m) (Between l f ∷ ps) = ap suc (at_end (Exact m) ps)
at_end (Between k g) (Exact n ∷ ps) = at_end (Between k g) ps
at_end (Between k g) (Between l f ∷ ps) = ap suc (at_end (Between k g) ps)

pub count_step : (ls : List AxisLocation) (i count : ℕ) → length ls ≤ 4 → i < length ls → count ≡ 2 ^ length (diffs (take i ls))
    → more_corners (get_or ls i (Exact 0)) count ≡ 2 ^ length (diffs (take (i + 1) ls))
count_step ls i count four l e = more_power (get_or ls i (Exact 0)) (take i ls) count e few ∙ sym more
  where
    more : 2 ^ length (diffs (take (i + 1) ls)) ≡ 2 ^ length (diffs (get_or ls i (Exact 0) ∷ take i ls))
    more = ap (λ (r : List AxisLocation). 2 ^ length (diffs r)) (take_more ls i (Exact 0) l) ∙ ap (λ (k : ℕ). 2 ^ k) (at_end (get_or ls i (Exact 0)) (take i ls))

    few : 2 ^ length (diffs (get_or ls i (Exact 0) ∷ take i ls)) ≤ 16
    few = subst (λ (k : ℕ). k ≤ 16) more (few_corners (take (i + 1) ls) (omega (arith, length-take (i + 1) ls)))

pub count_few : (ls : List AxisLocation) (d count : ℕ) → length ls ≤ 4 → count ≡ 2 ^ length (diffs (drop d ls)) → count ≤ 16
count_few ls d count four e = omega (arith, e, few_corners (drop d ls) (omega (arith, length-drop d ls)))
