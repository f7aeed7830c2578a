-- A slice by Linear of an accepted table at a finite reading in range is always made, given room: 12 never refuses it. Assumes nothing.
use mathlib.Core.Path.{◌≡◌, ap, ◌∙◌}
use mathlib.Core.Bool.{true, false}
use mathlib.Core.List.{List, [], ◌∷◌}
use Prim.Native.Nat.{ℕ, ◌-◌, ◌≤◌, ◌<◌}
use native.Mathlib.Omega.{arith}
use lib.ListN.{length, get_or}
use lib.Ieee.{Float, nan}
use lib.Ieee.Scale.{finite}
use Rattle.answer.specs.Faults.{good}
use Rattle.answer.proofs.Orders as orders
use Rattle.binary64.proofs.Order as order
use Rattle.binary64.proofs.Held.{Held}
use Rattle.checks.specs.Nodes.{node}
use Rattle.checks.specs.Passed.{Axis}
use Rattle.checks.specs.Scaffolding.{Grid}
use Rattle.checks.specs.Numbers.{range_fault, result_fault, results_fault}
use Rattle.checks.proofs.numbers.Rows.{result_fine}
use Rattle.checks.proofs.ranges.Rows.{range_low, range_high}
use Rattle.checks.proofs.table.Grids.{frame_axes, grid_of, length-axis}
use Rattle.layout.specs.Shape.{counts_of, size}
use Rattle.layout.specs.Layout.{axis_of, table, indices_at, Inside, without}
use Rattle.layout.specs.declared.Shape.{Shape}
use Rattle.layout.proofs.Layouts.{get_d_tabulate, indices_inside}
use Rattle.blend.specs.Blend.{sliced}
use Rattle.blend.proofs.Bounded.{Number, Fair, location_fair, sliced_bounded}
use Rattle.axis.specs.Locations.{axis_location}
use Rattle.axis.proofs.Located.{location_fits}
use Rattle.ninterp.proofs.Demands.{Accepted}
use Rattle.ninterp.proofs.LinearFinite.{held-axis, stored_number}
use Rattle.slices.specs.LinearSlices.{along_first, linear_values, linear_slice_fault}
use Rattle.slices.proofs.Alongs.{length-along}
use Rattle.laws.proofs.Makes.{linear_slice_made}

-- an index list with a node of the first axis in front
first_inside : (cs is : List ℕ) (i : ℕ) → 0 < length cs → i < get_or cs 0 0 → Inside is (without 0 cs) → Inside (i ∷ is) cs
first_inside [] is i some l w = absurd (omega arith)
first_inside (c ∷ cs) is i some l w = (l, w)

-- 12 passes a list of finite results
pub results_good : (xs : List Float) → ((i : ℕ) → i < length xs → finite (get_or xs i nan) ≡ true) → good (results_fault xs) ≡ true
unfolding results_fault
results_good xs h =
    ap good (orders.none_good (λ i. result_fault i (get_or xs i nan)) 0 (length xs)
    (λ i l m. orders.passed-no_fault (result_fault i (get_or xs i nan)) (result_fine i (get_or xs i nan) (h i (omega arith)))))
    ∙ orders.good-no_fault

module _ (s : Shape) (nodes values : List Float) (t : Accepted s nodes values) (many : 1 < s.axes) (p : Float) (room : ℕ) (fp : finite p ≡ true) (kept : Held nodes) (held : Held values)
    (inside : good (range_fault 0 (axis_of s nodes 0) p) ≡ true) (w : size (without 0 (counts_of s)) ≤ room) where
  abbrev xs : List Float
  xs = axis_of s nodes 0

  some : 0 < length (counts_of s)
  some = omega (arith, frame_axes s nodes values t.frame, many)

  grid : Grid (counts_of s) nodes
  grid = grid_of s nodes values t.frame t.axes

  ax : Axis xs
  ax = grid.axes 0 some

  fair : Fair (axis_location xs p)
  fair =
      let n : 2 ≤ length xs = ax.enough in
      location_fair xs p ax fp (held-axis (counts_of s) nodes kept 0) (order.le_of_not_lt p (node xs 0) fp (ax.finites 0 (omega arith)) (range_low 0 xs p inside))
      (order.le_of_not_lt (node xs (length xs - 1)) p (ax.finites (length xs - 1) (omega arith)) fp (range_high 0 xs p inside))

  -- every value of the slice is a number
  value_number : (is : List ℕ) → Inside is (without 0 (counts_of s)) → Number (sliced (axis_location xs p) (table (counts_of s) values) is)
  value_number is v =
      sliced_bounded (axis_location xs p) (table (counts_of s) values) is fair
      (λ i l.
      stored_number s nodes values t held (i ∷ is)
      (first_inside (counts_of s) is i some (omega (arith, l, location_fits xs p ax fp false, length-axis (counts_of s) nodes grid.flat 0 some)) v))

  values_fine : good (results_fault (linear_values axis_location s nodes values p)) ≡ true
  unfolding linear_values
  values_fine = results_good (along_first (axis_location xs p) (counts_of s) values) each
    where
      each : (i : ℕ) → i < length (along_first (axis_location xs p) (counts_of s) values) → finite (get_or (along_first (axis_location xs p) (counts_of s) values) i nan) ≡ true
      each i l =
          let k : i < size (without 0 (counts_of s)) = omega (arith, l, length-along (axis_location xs p) (counts_of s) values) in
          ap finite (at i k) ∙ (value_number (indices_at (without 0 (counts_of s)) i) (indices_inside (without 0 (counts_of s)) i k)).finite_is
        where
          at : (i : ℕ) → i < size (without 0 (counts_of s)) → get_or (along_first (axis_location xs p) (counts_of s) values) i nan ≡ sliced (axis_location xs p) (table (counts_of s) values) (indices_at (without 0 (counts_of s)) i)
          at i k = unfold along_first in get_d_tabulate (size (without 0 (counts_of s))) i (λ j. sliced (axis_location xs p) (table (counts_of s) values) (indices_at (without 0 (counts_of s)) j)) nan k

  pub linear_slice_always : good (linear_slice_fault s nodes values 0 p room) ≡ true
  linear_slice_always = ap good (linear_slice_made s nodes values t many p room fp inside w) ∙ values_fine
