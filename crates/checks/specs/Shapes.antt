-- The checks that every call on a table begins with, "1, 2, 3", and those of an axis that stands alone.
use Rattle.std.specs.Prelude.{List, ℕ, length, Float}
use Rattle.answer.specs.Faults.{Fault, ◌or◌}
use Rattle.layout.specs.Shape.{counts_of, size, total}
use Rattle.layout.specs.declared.Shape.{Shape}
use Rattle.checks.specs.Numbers.{axes_count_fault, count_fault, counts_fault, product_fault, length_fault, nodes_fault}

-- 1, then 2: "a count outside 2 to 64, else product above 4,096"
unfoldable pub shape_fault : Shape → Fault
shape_fault s = axes_count_fault s.axes or counts_fault s or product_fault s

-- "1, 2, 3", of the nodes and the values
unfoldable pub frame_fault : Shape → ℕ → ℕ → Fault
frame_fault s nodes values =
    shape_fault s
    or length_fault 0 (total (counts_of s)) nodes
    or length_fault 1 (size (counts_of s)) values

-- "Primitives on one axis use 2, 4, 5, 6 .. in that order .., axis 0"
unfoldable pub axis_fault : List Float → Fault
axis_fault nodes = count_fault 0 (length nodes) or nodes_fault 0 nodes
