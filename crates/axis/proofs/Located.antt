-- The location of a reading, by either of the two linears, lies on its axis. Assumes nothing.
use Rattle.std.proofs.Common.{◌≡◌, ℕ, ◌+◌, ◌-◌, ◌<◌, ◌≤◌, min, Bool, true, false, cond, List, length, pos, ap, arith, le-ltb, Some, None}
use lib.Ieee.{Float, fin, lt, eq, to_unsigned}
use lib.Ieee.Scale.{finite}
use Rattle.answer.specs.Answer.{plus_zero}
use Rattle.checks.specs.Nodes.{node, gap}
use Rattle.checks.specs.Passed.{Axis}
use Rattle.axis.specs.Uniform.{uniform_cell, uniform_index}
use Rattle.rust.specs.declared.AxisLocation.{AxisLocation}
use Rattle.rust.specs.declared.AxisLocation.TheVariants.{Exact, Between}
use Rattle.axis.specs.Cells.{lower_index}
use Rattle.axis.proofs.cells.Cells.{cell_inside}
use Rattle.axis.specs.Locations.{exact_or, fraction, axis_location, uniform_location, location_index}
use Rattle.axis.specs.Scaffolding.{location_by, location_found, upper_of}
use Rattle.axis.specs.Exact.{exact_node}

-- ---- of any location
pub lower_upper : (p : AxisLocation) → location_index p ≤ upper_of p
lower_upper (Exact node) = omega arith
lower_upper (Between lower frac) = omega arith

-- ---- on one axis
pub cell_fits : (n : ℕ) (t : Float) → 2 ≤ n → uniform_cell n t + 1 < n
unfolding uniform_cell
cell_fits n t h = go (lt t plus_zero) (lt t (fin false 1 (pos 64)))
  where
    go : (b c : Bool) → cond b 0 (cond c (min (to_unsigned 64 t) (n - 2)) 0) + 1 < n
    go true c = omega arith
    go false true = omega arith
    go false false = omega arith

pub uniform_index_fits : (first step : Float) (n : ℕ) (p : Float) → 2 ≤ n → uniform_index first step n p + 1 < n
unfolding uniform_index
uniform_index_fits first step n p h = cell_fits n _ h

module _ (xs : List Float) (p : Float) (ax : Axis xs) (fp : finite p ≡ true) where
  uniform_fits : upper_of (uniform_location xs p) < length xs
  unfolding uniform_location
  uniform_fits = uniform_index_fits (node xs 0) (gap xs 0) (length xs) p ax.enough

  exact_fits : upper_of (axis_location xs p) < length xs
  unfolding axis_location exact_node
  exact_fits = go (eq (node xs (lower_index xs p)) p) (eq (node xs (lower_index xs p + 1)) p)
    where
      go : (b c : Bool) → upper_of (exact_or (cond b (Some (lower_index xs p)) (cond c (Some (lower_index xs p + 1)) None)) (Between (lower_index xs p) (fraction xs (lower_index xs p) p))) < length xs
      go true c = omega (arith, cell_inside xs p ax.enough)
      go false true = cell_inside xs p ax.enough
      go false false = cell_inside xs p ax.enough

  pub location_fits : (uniform : Bool) → upper_of (location_by uniform xs p) < length xs
  location_fits true = uniform_fits
  location_fits false = exact_fits

  -- what `location_by` gives, of any list at all, is the location on a good axis
  pub location_found_lem : (uniform : Bool) → location_found uniform xs p ≡ location_by uniform xs p
  unfolding location_found
  location_found_lem uniform = ap (λ (b : Bool). cond b (Between 0 plus_zero) (location_by uniform xs p)) (le-ltb (length xs) 2 ax.enough)
