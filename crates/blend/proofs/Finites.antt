-- A value that stops being finite never becomes finite again in a later blend. Assumes nothing.
use mathlib.Core.Path.{◌≡◌, refl, ap, ◌∙◌}
use mathlib.Core.Logic.{◌⊎◌, inl, inr, ⊎_elim}
use mathlib.Core.Bool.{Bool, true, false}
use mathlib.Core.List.{List, [], ◌∷◌}
use Prim.Native.Nat.{ℕ, suc, ◌+◌, ◌-◌, ◌^◌, ◌≤◌, ◌<◌}
use native.Mathlib.Omega.{arith}
use lib.Dec.{ltb}
use lib.IntN.{pos, negsuc}
use lib.ListN.{length}
use lib.Ieee.{Float, fin, binary64, add, sub, mul, neg, lt, sum, round, units, odd, size, span, climb}
use lib.Ieee.Scale.{finite}
use borrow.Author.Tests.{ltb-true, ltb-false}
use Rattle.binary64.proofs.Finite.{add_finite, mul_finite}
use Rattle.blend.specs.Blend.{one, blended, sliced, linear}
use Rattle.rust.specs.Scaffolding.{diffs}
use Rattle.blend.specs.Scaffolding.{corner_at}
use Rattle.rust.specs.declared.AxisLocation.{AxisLocation}
use Rattle.rust.specs.declared.AxisLocation.TheVariants.{Exact, Between}
use Rattle.rust.proofs.Passes.{power_suc}
use Rattle.blend.proofs.Bits.{low_corner, high_corner}

-- 3, and the number of the format nearest to 0.2
abbrev pub three : Float
three = fin false 3 (pos 0)

abbrev pub fifth : Float
fifth = fin false 3602879701896397 (negsuc 53)

-- whatever the fraction is: where one of the two values is not finite, neither is the blend
pub blend_finite : (a b f : Float) → finite (blended a b f) ≡ true → (finite a ≡ true) × (finite b ≡ true)
unfolding blended
blend_finite a b f h =
    let parts = add_finite (mul binary64 a (sub binary64 one f)) (mul binary64 b f) h in
    ((mul_finite a (sub binary64 one f) parts.0).0, (mul_finite b f parts.1).0)

split : (m k : ℕ) → (m < k) ⊎ (k ≤ m)
split m k = go (ltb m k) refl
  where
    go : (t : Bool) → ltb m k ≡ t → (m < k) ⊎ (k ≤ m)
    go true e = inl (ltb-true m k e)
    go false e = inr (ltb-false m k e)

-- one axis back: where the blended table is finite at every corner that is left, so is the table at every corner
back : (l : ℕ) (f : Float) (ps : List AxisLocation) (g : List ℕ → Float) → ((j : ℕ) → j < 2 ^ length (diffs ps) → finite (sliced (Between l f) g (corner_at ps j)) ≡ true)
    → (m : ℕ) → m < 2 ^ suc (length (diffs ps)) → finite (g (corner_at (Between l f ∷ ps) m)) ≡ true
back l f ps g h m b = ⊎_elim low high (split m (2 ^ length (diffs ps)))
  where
    both : (j : ℕ) → j < 2 ^ length (diffs ps) → (finite (g (l ∷ corner_at ps j)) ≡ true) × (finite (g ((l + 1) ∷ corner_at ps j)) ≡ true)
    both j u = blend_finite (g (l ∷ corner_at ps j)) (g ((l + 1) ∷ corner_at ps j)) f (h j u)

    low : m < 2 ^ length (diffs ps) → finite (g (corner_at (Between l f ∷ ps) m)) ≡ true
    low u = ap (λ (is : List ℕ). finite (g is)) (low_corner ps l f m u) ∙ (both m u).0

    high : 2 ^ length (diffs ps) ≤ m → finite (g (corner_at (Between l f ∷ ps) m)) ≡ true
    high u =
        let below : m - 2 ^ length (diffs ps) < 2 ^ length (diffs ps) = omega (arith, b, power_suc (length (diffs ps)), u) in
        let e : m ≡ m - 2 ^ length (diffs ps) + 2 ^ length (diffs ps) = omega (arith, u) in
        ap (λ (k : ℕ). finite (g (corner_at (Between l f ∷ ps) k))) e
        ∙ ap (λ (is : List ℕ). finite (g is)) (high_corner ps l f (m - 2 ^ length (diffs ps)) below)
        ∙ (both (m - 2 ^ length (diffs ps)) below).1

-- so a finite result had finite values at every corner
pub linear_finite : (ps : List AxisLocation) (g : List ℕ → Float) → finite (linear ps g) ≡ true → (m : ℕ) → m < 2 ^ length (diffs ps) → finite (g (corner_at ps m)) ≡ true
linear_finite [] g h m b = h
linear_finite (Exact node ∷ ps) g h m b = linear_finite ps (λ is. g (node ∷ is)) h m b
linear_finite (Between l f ∷ ps) g h m b = back l f ps g (linear_finite ps (sliced (Between l f) g) h) m b

-- (d): Linear can leave the span of its corners. Two corners at 3 and the fraction nearest to 0.2 give more than 3.
pub leaves_the_span : lt three (blended three three fifth) ≡ true
unfolding blended add sub mul neg lt sum round units odd size span climb
leaves_the_span = refl
