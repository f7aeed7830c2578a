-- Linear always answers on an accepted table at finite readings in range: 12 is never given there. Assumes nothing.
use mathlib.Core.Path.{◌≡◌, ap, ◌∙◌}
use mathlib.Core.Bool.{true, false}
use mathlib.Core.List.{List, [], ◌∷◌}
use Prim.Native.Nat.{ℕ, zero, suc, ◌<◌}
use native.Mathlib.Omega.{arith}
use lib.ListN.{length, get_or, drop}
use lib.Ieee.{Float, nan}
use lib.Ieee.Scale.{finite}
use Rattle.answer.specs.Answer.{answered}
use Rattle.binary64.proofs.Held.{Held, held_none, held-take, held-drop}
use Rattle.checks.specs.Scaffolding.{Grid}
use Rattle.checks.proofs.table.Grids.{grid_of}
use Rattle.layout.specs.Shape.{counts_of}
use Rattle.layout.specs.Layout.{axes_of, axis_of, place, table, Inside}
use Rattle.layout.specs.declared.Shape.{Shape}
use Rattle.layout.proofs.Walks.{length-axes}
use Rattle.rust.proofs.Located.{rust_linear}
use Rattle.blend.specs.Scaffolding.{corner_at}
use Rattle.blend.proofs.Bits.{rust_linear_lem}
use Rattle.blend.proofs.Bounded.{Number, Fairs, location_fair, fairs_tabulate, linear_bounded}
use Rattle.rust.specs.declared.AxisLocation.{AxisLocation}
use Rattle.axis.specs.Locations.{axis_location}
use Rattle.axis.proofs.Located.{location_fits}
use Rattle.ninterp.specs.Linears.{locations, linear_answer}
use Rattle.ninterp.specs.Scaffolding.{AllWithin}
use Rattle.ninterp.proofs.Corners.{corner_inside}
use Rattle.ninterp.proofs.Demands as demands
use Rattle.ninterp.proofs.Demands.{Accepted, InRange}
use Rattle.ninterp.proofs.LinearDemands.{stored_finite, linear-answers}
use Rattle.ninterp.proofs.Located.{locations_within}

-- ---- an axis of nodes that the format holds
pub held-axis : (counts : List ℕ) (nodes : List Float) → Held nodes → (a : ℕ) → Held (get_or (axes_of counts nodes) a [])
unfolding axes_of
held-axis [] nodes h a = held_none
held-axis (n ∷ ns) nodes h zero = held-take n nodes h
held-axis (n ∷ ns) nodes h (suc a) = held-axis ns (drop n nodes) (held-drop n nodes h) a

-- ---- the values of an accepted table, at its own index lists
pub stored_number : (s : Shape) (nodes values : List Float) → Accepted s nodes values → Held values → (is : List ℕ) → Inside is (counts_of s) → Number (table (counts_of s) values is)
unfolding table
stored_number s nodes values t held is w = record { finite_is = stored_finite s nodes values t is w; held = held (place (counts_of s) is) }

module _ (s : Shape) (nodes values readings : List Float) (t : Accepted s nodes values) (r : InRange s nodes readings) (kept : Held nodes) (held : Held values) where
  abbrev located : List AxisLocation
  located = locations axis_location (axes_of (counts_of s) nodes) readings

  below_axes : (a : ℕ) → a < length (counts_of s) → a < s.axes
  below_axes a l = omega (arith, demands.counted s nodes values readings t r, l)

  fair : Fairs located
  unfolding locations
  fair =
      fairs_tabulate (length (axes_of (counts_of s) nodes)) (λ a. axis_location (axis_of s nodes a) (get_or readings a nan))
      (λ a l.
      let k : a < s.axes = below_axes a (omega (arith, length-axes (counts_of s) nodes, l)) in
      location_fair (axis_of s nodes a) (get_or readings a nan) (demands.axis-at s nodes values readings t r a k) (r.finites a k) (held-axis (counts_of s) nodes kept a) (r.low a k) (r.high a k))

  within : AllWithin located (counts_of s)
  within =
      let g : Grid (counts_of s) nodes = grid_of s nodes values t.frame t.axes in
      locations_within axis_location (counts_of s) nodes readings g.flat
      (λ a l. location_fits (axis_of s nodes a) (get_or readings a nan) (g.axes a l) (r.finites a (below_axes a l)) false)

  -- the Rust's value is finite
  pub linear_always : finite (rust_linear (locations axis_location (axes_of (counts_of s) nodes) readings) (table (counts_of s) values)) ≡ true
  linear_always =
      ap finite (rust_linear_lem located (table (counts_of s) values))
      ∙ (linear_bounded located (table (counts_of s) values) fair (λ m b. stored_number s nodes values t held (corner_at located m) (corner_inside located (counts_of s) m within))).finite_is

  -- so it is the answer
  pub linear-given : linear_answer s nodes values readings ≡ answered (rust_linear (locations axis_location (axes_of (counts_of s) nodes) readings) (table (counts_of s) values))
  linear-given = linear-answers s nodes values readings t r linear_always
