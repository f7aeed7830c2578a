-- "A slice removes one axis: axis 0 for Linear and LinearUniform": what their slices answer and write for every input.
use Rattle.std.specs.Prelude.{List, ℕ, length, Float}
use Rattle.answer.specs.Faults.{Fault, ◌or◌, filled_into}
use Rattle.layout.specs.Shape.{counts_of, size}
use Rattle.layout.specs.Layout.{tabulate, table, indices_at, without, axis_of}
use Rattle.layout.specs.declared.Shape.{Shape}
use Rattle.orders.specs.Orders.{linear_front, linear_uniform_front, point_fault}
use Rattle.blend.specs.Blend.{sliced}
use Rattle.checks.specs.Numbers.{results_fault}
use Rattle.rust.specs.declared.AxisLocation.{AxisLocation}
use Rattle.axis.specs.Locations.{axis_location, uniform_location}
use Rattle.slices.specs.Slices.{slice_answer}
use Rattle.slices.specs.declared.SliceAnswer.{SliceAnswer}

-- "Each of its values is what the same rule gives along that axis alone.", at each index list of the other axes
unfoldable pub along_first : AxisLocation → List ℕ → List Float → List Float
along_first location counts values = tabulate (size (without 0 counts)) (λ t. sliced location (table counts values) (indices_at (without 0 counts) t))

-- at a reading on the first axis, by the rule that locates it there
unfoldable pub linear_values : (List Float → Float → AxisLocation) → Shape → List Float → List Float → Float → List Float
linear_values rule s nodes values p = along_first (rule (axis_of s nodes 0) p) (counts_of s) values

-- "15 (place 1) before 12": 12 with the first place of the slice that is not finite
unfoldable pub linear_rest : (List Float → Float → AxisLocation) → Shape → List Float → List Float → ℕ → Float → ℕ → Fault
linear_rest rule s nodes values axis p room = point_fault s nodes axis p room or results_fault (linear_values rule s nodes values p)

-- the whole order of checks of the slice by Linear, and by LinearUniform
unfoldable pub linear_slice_fault : Shape → List Float → List Float → ℕ → Float → ℕ → Fault
linear_slice_fault s nodes values axis p room = linear_front s nodes values axis or linear_rest axis_location s nodes values axis p room

unfoldable pub linear_uniform_slice_fault : Shape → List Float → List Float → ℕ → Float → ℕ → Fault
linear_uniform_slice_fault s nodes values axis p room = linear_uniform_front s nodes values axis or linear_rest uniform_location s nodes values axis p room

-- what the slice by Linear answers, given so much room, and what its output holds afterwards
unfoldable pub linear_slice : Shape → List Float → List Float → ℕ → Float → ℕ → SliceAnswer
linear_slice s nodes values axis p room = slice_answer (linear_slice_fault s nodes values axis p room) s axis

unfoldable pub linear_sliced : Shape → List Float → List Float → ℕ → Float → List Float → List Float
linear_sliced s nodes values axis p out = filled_into (linear_slice_fault s nodes values axis p (length out)) (linear_values axis_location s nodes values p) out

-- the same by LinearUniform
unfoldable pub linear_uniform_slice : Shape → List Float → List Float → ℕ → Float → ℕ → SliceAnswer
linear_uniform_slice s nodes values axis p room = slice_answer (linear_uniform_slice_fault s nodes values axis p room) s axis

unfoldable pub linear_uniform_sliced : Shape → List Float → List Float → ℕ → Float → List Float → List Float
linear_uniform_sliced s nodes values axis p out = filled_into (linear_uniform_slice_fault s nodes values axis p (length out)) (linear_values uniform_location s nodes values p) out
