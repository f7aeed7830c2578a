-- Locations by the two linears lie on their axes, and what they compute reads the table's own values alone. Assumes nothing.
use mathlib.Core.Path.{◌≡◌, refl, ap₂, ◌∙◌}
use mathlib.Core.List.{List, [], ◌∷◌}
use Prim.Native.Nat.{ℕ, zero, suc, ◌+◌, ◌≤◌, ◌<◌}
use native.Mathlib.Omega.{arith}
use lib.ListN.{length, take, get_or}
use lib.Ieee.{Float, nan, fits}
use Rattle.layout.specs.Shape.{total}
use Rattle.layout.specs.Layout.{axes_of, tabulate, Inside}
use Rattle.layout.proofs.Walks.{length-axes}
use Rattle.layout.proofs.Layouts.{length-tabulate}
use Rattle.checks.proofs.table.Grids.{length-axis}
use Rattle.rust.specs.declared.AxisLocation.{AxisLocation}
use Rattle.rust.specs.declared.AxisLocation.TheVariants.{Exact, Between}
use Rattle.blend.specs.Blend.{blended, sliced, linear}
use Rattle.ninterp.specs.Linears.{locations}
use Rattle.axis.specs.Scaffolding.{upper_of}
use Rattle.ninterp.specs.Scaffolding.{AllWithin}

-- ---- on every axis
within_tabulate : (ns : List ℕ) (n : ℕ) (f : ℕ → AxisLocation) → n ≡ length ns → ((a : ℕ) → a < n → upper_of (f a) < get_or ns a 0) → AllWithin (tabulate n f) ns
within_tabulate [] zero f e h = tt
within_tabulate [] (suc n) f e h = absurd (omega arith)
within_tabulate (c ∷ ns) zero f e h = absurd (omega arith)
within_tabulate (c ∷ ns) (suc n) f e h = (h 0 (omega arith), within_tabulate ns n (λ a. f (suc a)) (omega arith) (λ a l. h (suc a) (omega arith)))

module _ (rule : List Float → Float → AxisLocation) (counts : List ℕ) (nodes readings : List Float) where
  pub length-locations : length (locations rule (axes_of counts nodes) readings) ≡ length counts
  unfolding locations
  length-locations = length-tabulate (length (axes_of counts nodes)) (λ a. rule (get_or (axes_of counts nodes) a []) (get_or readings a nan)) ∙ length-axes counts nodes

  pub locations_within : length nodes ≡ total counts
      → ((a : ℕ) → a < length counts → upper_of (rule (get_or (axes_of counts nodes) a []) (get_or readings a nan)) < length (get_or (axes_of counts nodes) a []))
      → AllWithin (locations rule (axes_of counts nodes) readings) counts
  unfolding locations
  locations_within flat fits =
      within_tabulate counts (length (axes_of counts nodes)) (λ a. rule (get_or (axes_of counts nodes) a []) (get_or readings a nan)) (length-axes counts nodes)
      (λ a l.
      let m : a < length counts = omega (arith, length-axes counts nodes) in
      omega (arith, fits a m, length-axis counts nodes flat a m))

-- ---- the rule looks at the table's own index lists alone
sliced_same : (p : AxisLocation) (c : ℕ) (cs : List ℕ) (g h : List ℕ → Float) → upper_of p < c → ((is : List ℕ) → Inside is (c ∷ cs) → g is ≡ h is) → (is : List ℕ) → Inside is cs → sliced p g is ≡ sliced p h is
sliced_same (Exact node) c cs g h l e is w = e (node ∷ is) (l, w)
sliced_same (Between lower frac) c cs g h l e is w = ap₂ (λ (x y : Float). blended x y frac) (e (lower ∷ is) (omega (arith, l), w)) (e ((lower + 1) ∷ is) (l, w))

pub linear_same : (ps : List AxisLocation) (cs : List ℕ) (g h : List ℕ → Float) → AllWithin ps cs → ((is : List ℕ) → Inside is cs → g is ≡ h is) → linear ps g ≡ linear ps h
linear_same [] [] g h w e = e [] tt
linear_same [] (c ∷ cs) g h w e = absurd w
linear_same (p ∷ ps) [] g h w e = absurd w
linear_same (p ∷ ps) (c ∷ cs) g h w e = linear_same ps cs (sliced p g) (sliced p h) w.1 (sliced_same p c cs g h w.0 e)

-- ---- a list filled from its front
pub take_filled : {A : Type 0} (xs : List A) (n : ℕ) (z : A) (h : ℕ → A) → n ≤ length xs → ((k : ℕ) → k < n → get_or xs k z ≡ h k) → take n xs ≡ tabulate n h
take_filled xs zero z h l p = refl
take_filled [] (suc n) z h l p = absurd (omega arith)
take_filled (x ∷ xs) (suc n) z h l p = ap₂ (λ y ys. y ∷ ys) (p 0 (omega arith)) (take_filled xs n z (λ k. h (suc k)) (omega arith) (λ k b. p (suc k) (omega arith)))
