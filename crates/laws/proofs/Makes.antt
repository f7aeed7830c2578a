-- A slice of an accepted table at a reading in range is made, given room; a slice of the two linears is made or refused 12. Assumes nothing.
use mathlib.Core.Path.{◌≡◌, refl, ◌∙◌}
use mathlib.Core.Bool.{true}
use mathlib.Core.List.{List}
use Prim.Native.Nat.{ℕ, ◌≤◌, ◌<◌}
use native.Mathlib.Omega.{arith}
use lib.ListN.{length}
use lib.Ieee.{Float}
use lib.Ieee.Scale.{finite}
use Rattle.answer.specs.Faults.{good, ◌or◌}
use Rattle.answer.proofs.Orders as orders
use Rattle.checks.specs.Numbers.{length_fault, values_fault, directions_fault, range_fault, axes_fault, axes_uniform_fault, results_fault, no_axis_fault}
use Rattle.checks.proofs.numbers.Rows.{reading_fine}
use Rattle.checks.proofs.lent.Rows.{room_enough}
use Rattle.orders.proofs.before_slice.Rows.{axis_there, first_there}
use Rattle.layout.specs.Shape.{counts_of, size}
use Rattle.layout.specs.Layout.{without, axis_of}
use Rattle.layout.specs.declared.Shape.{Shape}
use Rattle.rust.specs.declared.AxisLocation.{AxisLocation}
use Rattle.axis.specs.Locations.{axis_location, uniform_location}
use Rattle.orders.specs.Orders.{nearest_front, step_front, linear_front, linear_uniform_front, point_fault, nearest_slice_fault, step_slice_fault}
use Rattle.ninterp.proofs.Demands.{Accepted}
use Rattle.slices.specs.LinearSlices.{linear_values, linear_rest, linear_slice_fault, linear_uniform_slice_fault}

module _ (s : Shape) (nodes values : List Float) (t : Accepted s nodes values) (many : 1 < s.axes) (p : Float) (room : ℕ) (fp : finite p ≡ true) where
  stored : good (axes_fault (counts_of s) nodes or values_fault values) ≡ true
  stored = orders.both_passed _ _ t.axes t.stored

  module _ (axis : ℕ) (there : axis < s.axes) (inside : good (range_fault axis (axis_of s nodes axis) p) ≡ true) (w : size (without axis (counts_of s)) ≤ room) where
    point_good : good (point_fault s nodes axis p room) ≡ true
    unfolding point_fault
    point_good =
        orders.both_passed _ _ (orders.passed-no_fault _ (reading_fine axis p fp))
        (orders.both_passed _ _ inside (orders.passed-no_fault _ (room_enough 1 (size (without axis (counts_of s))) room w)))

    has_axis : good (no_axis_fault s.axes axis) ≡ true
    has_axis = orders.passed-no_fault _ (axis_there s.axes axis many there)

    pub nearest_slice_made : good (nearest_slice_fault s nodes values axis p room) ≡ true
    unfolding nearest_slice_fault nearest_front
    nearest_slice_made = orders.both_passed _ _ (orders.both_passed _ _ t.frame (orders.both_passed _ _ has_axis stored)) point_good

    pub step_slice_made : (directions : List ℕ) → good (length_fault 3 s.axes (length directions)) ≡ true → good (directions_fault directions) ≡ true
        → good (step_slice_fault s nodes values directions axis p room) ≡ true
    unfolding step_slice_fault step_front
    step_slice_made directions l d =
        orders.both_passed _ _
        (orders.both_passed _ _ t.frame (orders.both_passed _ _ l (orders.both_passed _ _ has_axis (orders.both_passed _ _ t.axes (orders.both_passed _ _ t.stored d)))))
        point_good

  -- ---- the two linears, on their first axis
  module _ (inside : good (range_fault 0 (axis_of s nodes 0) p) ≡ true) (w : size (without 0 (counts_of s)) ≤ room) where
    front_good : good (linear_front s nodes values 0) ≡ true
    unfolding linear_front
    front_good = orders.both_passed _ _ t.frame (orders.both_passed _ _ (orders.passed-no_fault _ (first_there s.axes 0 many refl)) stored)

    rest_is : (rule : List Float → Float → AxisLocation) → linear_rest rule s nodes values 0 p room ≡ results_fault (linear_values rule s nodes values p)
    unfolding linear_rest
    rest_is rule = orders.or_good (point_fault s nodes 0 p room) (results_fault (linear_values rule s nodes values p)) (point_good 0 (omega (arith, many)) inside w)

    -- 12 is all that can still refuse it
    pub linear_slice_made : linear_slice_fault s nodes values 0 p room ≡ results_fault (linear_values axis_location s nodes values p)
    unfolding linear_slice_fault
    linear_slice_made = orders.or_good (linear_front s nodes values 0) (linear_rest axis_location s nodes values 0 p room) front_good ∙ rest_is axis_location

    pub linear_uniform_slice_made : good (axes_uniform_fault (counts_of s) nodes) ≡ true → linear_uniform_slice_fault s nodes values 0 p room ≡ results_fault (linear_values uniform_location s nodes values p)
    unfolding linear_uniform_slice_fault linear_uniform_front
    linear_uniform_slice_made u =
        orders.or_good (linear_front s nodes values 0 or axes_uniform_fault (counts_of s) nodes) (linear_rest uniform_location s nodes values 0 p room)
        (orders.both_passed (linear_front s nodes values 0) (axes_uniform_fault (counts_of s) nodes) front_good u)
        ∙ rest_is uniform_location
