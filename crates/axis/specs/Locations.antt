-- Where a reading lies on an axis, by Linear's rule (`locate_axis`) and by LinearUniform's: the exact node, or a cell with a fraction.
use Rattle.std.specs.Prelude.{ℕ, List, length, Float, Option, Some, None}
use Rattle.std.specs.Float.{binary64}
use Rattle.std.specs.Float.Ieee.{sub, div}
use Rattle.checks.specs.Nodes.{node, gap}
use Rattle.axis.specs.Cells.{lower_index}
use Rattle.axis.specs.Exact.{exact_node}
use Rattle.axis.specs.Uniform.{uniform_index}
use Rattle.rust.specs.declared.AxisLocation.{AxisLocation}
use Rattle.rust.specs.declared.AxisLocation.TheVariants.{Exact, Between}

-- ---- Linear
-- "(p - lower node) / (upper node - lower node), each operation rounded"
unfoldable pub fraction : List Float → ℕ → Float → Float
fraction nodes lower p = div binary64 (sub binary64 p (node nodes lower)) (gap nodes lower)

-- "either the exact node or a lower index with a fraction"
abbrev pub exact_or : Option ℕ → AxisLocation → AxisLocation
exact_or (Some i) between = Exact i
exact_or None between = between

abbrev pub location_at : List Float → ℕ → Float → AxisLocation
location_at nodes lower p = exact_or (exact_node nodes lower p) (Between lower (fraction nodes lower p))

unfoldable pub axis_location : List Float → Float → AxisLocation
axis_location nodes p = location_at nodes (lower_index nodes p) p

-- ---- LinearUniform
-- "LinearUniform: no exact shortcut. f = (p - lower node) / first gap."
abbrev pub uniform_between : List Float → ℕ → Float → AxisLocation
uniform_between nodes lower p = Between lower (div binary64 (sub binary64 p (node nodes lower)) (gap nodes 0))

unfoldable pub uniform_location : List Float → Float → AxisLocation
uniform_location nodes p = uniform_between nodes (uniform_index (node nodes 0) (gap nodes 0) (length nodes) p) p

-- "When an answer is an enum, a definition gives this paper's number and values for each of its cases."
abbrev pub location_index : AxisLocation → ℕ
location_index (Exact node) = node
location_index (Between lower frac) = lower
