-- "Numbers the technician sees": in which order a call asks the rows of the table of numbers.
use Rattle.std.specs.Prelude.{List, ℕ, length, Float}
use Rattle.answer.specs.Faults.{Fault, ◌or◌}
use Rattle.layout.specs.Shape.{counts_of, size}
use Rattle.layout.specs.Layout.{without, axis_of}
use Rattle.layout.specs.declared.Shape.{Shape}
use Rattle.checks.specs.Numbers.{length_fault, axes_fault, values_fault, axes_uniform_fault, directions_fault, reading_fault, readings_fault, range_fault, ranges_fault, room_fault, no_axis_fault, not_first_fault}
use Rattle.checks.specs.Shapes.{frame_fault}

-- ---- before a lookup
-- "Order for a lookup: 1, 2, 3; then each axis node by node (4, 5, 6 at each node); 7; .. 10 for all axes; 11 for all axes"
unfoldable pub lookup_fault : Shape → List Float → List Float → List Float → Fault
lookup_fault s nodes values readings =
    frame_fault s (length nodes) (length values)
    or length_fault 2 s.axes (length readings)
    or axes_fault (counts_of s) nodes
    or values_fault values
    or readings_fault readings
    or ranges_fault (counts_of s) nodes readings

-- ".. 3 directions", ".. 9 for Step, all axes; 10 for all axes; 11 for all axes"
unfoldable pub step_fault : Shape → List Float → List Float → List Float → List ℕ → Fault
step_fault s nodes values readings directions =
    frame_fault s (length nodes) (length values)
    or length_fault 2 s.axes (length readings)
    or length_fault 3 s.axes (length directions)
    or axes_fault (counts_of s) nodes
    or values_fault values
    or directions_fault directions
    or readings_fault readings
    or ranges_fault (counts_of s) nodes readings

-- ".. 8 for LinearUniform, all axes; .. 10 for all axes; 11 for all axes"
unfoldable pub linear_uniform_fault : Shape → List Float → List Float → List Float → Fault
linear_uniform_fault s nodes values readings =
    frame_fault s (length nodes) (length values)
    or length_fault 2 s.axes (length readings)
    or axes_fault (counts_of s) nodes
    or values_fault values
    or axes_uniform_fault (counts_of s) nodes
    or readings_fault readings
    or ranges_fault (counts_of s) nodes readings

-- ---- before a slice
-- "A slice inserts 16 after 3 .."
unfoldable pub nearest_front : Shape → List Float → List Float → ℕ → Fault
nearest_front s nodes values axis =
    frame_fault s (length nodes) (length values)
    or no_axis_fault s.axes axis
    or axes_fault (counts_of s) nodes
    or values_fault values

-- "Directions for all axes are lent to a Step slice"
unfoldable pub step_front : Shape → List Float → List Float → List ℕ → ℕ → Fault
step_front s nodes values directions axis =
    frame_fault s (length nodes) (length values)
    or length_fault 3 s.axes (length directions)
    or no_axis_fault s.axes axis
    or axes_fault (counts_of s) nodes
    or values_fault values
    or directions_fault directions

-- 16 of the two linears at its place
unfoldable pub linear_front : Shape → List Float → List Float → ℕ → Fault
linear_front s nodes values axis =
    frame_fault s (length nodes) (length values)
    or not_first_fault s.axes axis
    or axes_fault (counts_of s) nodes
    or values_fault values

-- "8 for LinearUniform, all axes", after 7
unfoldable pub linear_uniform_front : Shape → List Float → List Float → ℕ → Fault
linear_uniform_front s nodes values axis = linear_front s nodes values axis or axes_uniform_fault (counts_of s) nodes

-- "applies 10 and 11 only to its one reading", then 15
unfoldable pub point_fault : Shape → List Float → ℕ → Float → ℕ → Fault
point_fault s nodes axis p room =
    reading_fault axis p
    or range_fault axis (axis_of s nodes axis) p
    or room_fault 1 (size (without axis (counts_of s))) room

unfoldable pub nearest_slice_fault : Shape → List Float → List Float → ℕ → Float → ℕ → Fault
nearest_slice_fault s nodes values axis p room = nearest_front s nodes values axis or point_fault s nodes axis p room

unfoldable pub step_slice_fault : Shape → List Float → List Float → List ℕ → ℕ → Float → ℕ → Fault
step_slice_fault s nodes values directions axis p room = step_front s nodes values directions axis or point_fault s nodes axis p room
