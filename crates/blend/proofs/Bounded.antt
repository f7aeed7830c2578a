-- A blend of finite numbers of the format stays finite where its fraction lies between 0 and 1, both included, as Linear's does at every reading in range.
-- Assumes nothing.
use Rattle.std.proofs.Common.{Option, Some, None}
use mathlib.Core.Path.{◌≡◌, subst}
use mathlib.Core.Bool.{true}
use mathlib.Core.List.{List, [], ◌∷◌}
use Prim.Native.Nat.{ℕ, zero, suc, ◌+◌, ◌-◌, ◌^◌, ◌<◌}
use native.Mathlib.Omega.{arith}
use lib.Dec.{T}
use lib.ListN.{length}
use lib.Ieee.{Float, binary64, mul, sub, le, fits}
use lib.Ieee.Fits.{add-fits, div-fits}
use lib.Ieee.Scale.{finite}
use Rattle.binary64.proofs.Quotient as quotient
use Rattle.binary64.proofs.Weights.{weighed_finite}
use Rattle.binary64.proofs.Held.{Held}
use Rattle.layout.specs.Layout.{tabulate}
use Rattle.checks.specs.Nodes.{node, gap}
use Rattle.checks.specs.Passed.{Axis}
use Rattle.rust.specs.declared.AxisLocation.{AxisLocation}
use Rattle.rust.specs.declared.AxisLocation.TheVariants.{Exact, Between}
use Rattle.axis.specs.Cells.{lower_index}
use Rattle.axis.specs.Exact.{exact_node}
use Rattle.axis.specs.Locations.{fraction, exact_or, axis_location}
use Rattle.axis.specs.Scaffolding.{upper_of}
use Rattle.axis.proofs.Laws.{fraction_unit}
use Rattle.blend.specs.Blend.{one, blended, sliced, linear}
use Rattle.rust.specs.Scaffolding.{diffs}
use Rattle.blend.specs.Scaffolding.{corner_at}
use Rattle.rust.proofs.Passes.{power_suc}
use Rattle.blend.proofs.Bits.{low_corner, high_corner}

-- a finite number that the format holds
pub record Number (x : Float) : Type 0 where
  pub finite_is : finite x ≡ true
  pub held : T (fits binary64 x)

-- ---- one blend
pub unit_blend : (a b f : Float) → finite a ≡ true → finite b ≡ true → T (fits binary64 a) → T (fits binary64 b) → quotient.Unit f → T (fits binary64 f) → finite (blended a b f) ≡ true
unfolding blended
unit_blend a b f fa fb ta tb u tf = weighed_finite a b f fa fb ta tb u tf

blend_fits : (a b f : Float) → T (fits binary64 (blended a b f))
unfolding blended
blend_fits a b f = add-fits binary64 (mul binary64 a (sub binary64 one f)) (mul binary64 b f)

-- ---- along one axis: an exact node, or a fraction of the format between 0 and 1
abbrev pub Fair : AxisLocation → Type 0
Fair (Exact node) = Unit
Fair (Between lower frac) = quotient.Unit frac × T (fits binary64 frac)

blend_bounded : (a b f : Float) → Number a → Number b → quotient.Unit f → T (fits binary64 f) → Number (blended a b f)
blend_bounded a b f p q u t = record { finite_is = unit_blend a b f p.finite_is q.finite_is p.held q.held u t; held = blend_fits a b f }

pub sliced_bounded : (p : AxisLocation) (g : List ℕ → Float) (is : List ℕ) → Fair p → ((i : ℕ) → i < upper_of p + 1 → Number (g (i ∷ is))) → Number (sliced p g is)
sliced_bounded (Exact node) g is f h = h node (omega arith)
sliced_bounded (Between lower frac) g is f h = blend_bounded (g (lower ∷ is)) (g ((lower + 1) ∷ is)) frac (h lower (omega arith)) (h (lower + 1) (omega arith)) f.0 f.1

-- ---- over all axes: from numbers at every corner, a number
abbrev pub Fairs : List AxisLocation → Type 0
Fairs [] = Unit
Fairs (p ∷ ps) = Fair p × Fairs ps

pub linear_bounded : (ps : List AxisLocation) (g : List ℕ → Float) → Fairs ps → ((m : ℕ) → m < 2 ^ length (diffs ps) → Number (g (corner_at ps m))) → Number (linear ps g)
linear_bounded [] g f h = h 0 (omega arith)
linear_bounded (Exact node ∷ ps) g f h = linear_bounded ps (λ is. g (node ∷ is)) f.1 h
linear_bounded (Between l frac ∷ ps) g f h =
    linear_bounded ps (sliced (Between l frac) g) f.1
    (λ m b.
    blend_bounded (g (l ∷ corner_at ps m)) (g ((l + 1) ∷ corner_at ps m)) frac
    (subst (λ (is : List ℕ). Number (g is)) (low_corner ps l frac m b) (h m (omega (arith, power_suc (length (diffs ps)), b))))
    (subst (λ (is : List ℕ). Number (g is)) (high_corner ps l frac m b) (h (m + 2 ^ length (diffs ps)) (omega (arith, power_suc (length (diffs ps)), b))))
    f.0.0 f.0.1)

pub fairs_tabulate : (n : ℕ) (f : ℕ → AxisLocation) → ((a : ℕ) → a < n → Fair (f a)) → Fairs (tabulate n f)
fairs_tabulate zero f h = tt
fairs_tabulate (suc n) f h = (h 0 (omega arith), fairs_tabulate n (λ a. f (suc a)) (λ a l. h (suc a) (omega arith)))

-- ---- Linear's location of a finite reading in range is such a one
pub location_fair : (xs : List Float) (p : Float) → Axis xs → finite p ≡ true → Held xs → le (node xs 0) p ≡ true → le p (node xs (length xs - 1)) ≡ true → Fair (axis_location xs p)
unfolding axis_location
location_fair xs p ax fp held u v = go (exact_node xs (lower_index xs p) p)
  where
    go : (e : Option ℕ) → Fair (exact_or e (Between (lower_index xs p) (fraction xs (lower_index xs p) p)))
    go (Some i) = tt
    go None = (fraction_unit xs p ax fp held u v, fraction_fits)
      where
        fraction_fits : T (fits binary64 (fraction xs (lower_index xs p) p))
        fraction_fits = unfold fraction in div-fits binary64 (sub binary64 p (node xs (lower_index xs p))) (gap xs (lower_index xs p))
