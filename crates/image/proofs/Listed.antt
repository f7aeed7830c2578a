-- The areas as the code has them, one after the other: what is asked of them is what is asked of the image. Assumes nothing.
use mathlib.Core.Path.{◌≡◌, ap, ap₂, ◌∙◌}
use mathlib.Core.List.{List}
use Prim.Native.Nat.{ℕ, zero, suc, ◌+◌, ◌-◌, ◌*◌, ◌≤◌, ◌<◌}
use native.Mathlib.Omega.{arith}
use lib.ListN.{length, take}
use lib.Seq.{length-take-le, get_or-take}
use Rattle.answer.specs.Faults.{Fault, no_fault, first_fault, ◌or◌}
use Rattle.answer.proofs.Orders as orders
use Rattle.checks.specs.Numbers.{area_fault, shared_fault}
use Rattle.image.specs.Fields.{axes_field, area_of}
use Rattle.image.specs.Load.{pair_row, areas_fault, pairs_fault}
use Rattle.image.specs.Scaffolding.{Areas, nth, alone_row, shared_row, later_row}
use Rattle.image.specs.declared.areas.Area.{Area}

-- what holds of each of five
pub five_each : (P : ℕ → Type 0) → P 0 → P 1 → P 2 → P 3 → P 4 → (k : ℕ) → k ≤ 4 → P k
five_each P p q r s t zero l = p
five_each P p q r s t (suc zero) l = q
five_each P p q r s t (suc (suc zero)) l = r
five_each P p q r s t (suc (suc (suc zero))) l = s
five_each P p q r s t (suc (suc (suc (suc zero)))) l = t
five_each P p q r s t (suc (suc (suc (suc (suc k))))) l = absurd (omega arith)

-- where the last of several places has no fault, it may be left out
last_none : (f : ℕ → Fault) (i k : ℕ) → f (i + k) ≡ no_fault → first_fault f i (suc k) ≡ first_fault f i k
unfolding first_fault
last_none f i zero h = ap (λ (x : Fault). x or no_fault) (ap f (omega arith) ∙ h) ∙ orders.or_no_fault no_fault
last_none f i (suc k) h = ap (λ (x : Fault). f i or x) (last_none f (suc i) k (ap f (omega arith) ∙ h))

-- those that an image uses, of all that are read
module _ (img : List ℕ) (all : List Area) (n : ℕ) (l : Areas img all) (e : n ≡ axes_field img) where
  abbrev areas : List Area
  areas = take (n + 1) all

  used_long : length areas ≡ axes_field img + 1
  used_long = length-take-le (n + 1) all (omega (arith, e, l.five, l.four)) ∙ ap (λ (k : ℕ). k + 1) e

  used_area : (k : ℕ) → k < axes_field img + 1 → nth areas k ≡ area_of img k
  used_area k h = get_or-take (n + 1) all k _ (omega (arith, e, h)) ∙ (l.each k (omega (arith, h, l.four))).is

  pub areas_asked : first_fault (alone_row (length img) areas) 0 (length areas) ≡ areas_fault img
  unfolding areas_fault
  areas_asked =
      ap (first_fault (alone_row (length img) areas) 0) used_long
      ∙ orders.first_same _ _ 0 (axes_field img + 1) (λ k p q. ap (λ (x : Area). area_fault (length img) k x.at x.floats) (used_area k (omega (arith, q))))

  later_asked : (i : ℕ) → i < axes_field img → later_row areas i ≡ first_fault (pair_row img i) (i + 1) (axes_field img - i)
  later_asked i h =
      ap (first_fault (shared_row areas i) (i + 1)) (omega (arith, used_long))
      ∙ orders.first_same _ _ (i + 1) (axes_field img - i)
      (λ j p q. ap₂ (λ (x y : Area). shared_fault i j x.at (8 * x.floats) y.at (8 * y.floats)) (used_area i (omega (arith, h))) (used_area j (omega (arith, p, q))))

  last_later : later_row areas (0 + axes_field img) ≡ no_fault
  unfolding first_fault
  last_later = let none : length areas - (0 + axes_field img + 1) ≡ 0 = omega (arith, used_long) in ap (first_fault (shared_row areas (0 + axes_field img)) (0 + axes_field img + 1)) none

  pub pairs_asked : first_fault (later_row areas) 0 (length areas) ≡ pairs_fault img
  unfolding pairs_fault
  pairs_asked =
      let more : length areas ≡ suc (axes_field img) = omega (arith, used_long) in
      ap (first_fault (later_row areas) 0) more
      ∙ last_none (later_row areas) 0 (axes_field img) last_later
      ∙ orders.first_same _ _ 0 (axes_field img) (λ i p q. later_asked i (omega (arith, q)))
