-- "The table rules", of the two that compute: where a reading lies on each axis, and what a lookup by them answers for every input.
use Rattle.std.specs.Prelude.{List, [], ℕ, length, get_or, Float}
use Rattle.std.specs.Float.{nan}
use Rattle.answer.specs.Answer.{◌then◌}
use Rattle.answer.specs.declared.Answer.{Answer}
use Rattle.layout.specs.Shape.{counts_of}
use Rattle.layout.specs.Layout.{axes_of, table, tabulate}
use Rattle.layout.specs.declared.Shape.{Shape}
use Rattle.orders.specs.Orders.{lookup_fault, linear_uniform_fault}
use Rattle.blend.specs.Blend.{linear, computed}
use Rattle.rust.specs.declared.AxisLocation.{AxisLocation}
use Rattle.axis.specs.Locations.{axis_location, uniform_location}

-- a rule gives each axis a location, from its nodes and its reading: `axis_location` for Linear, `uniform_location` for LinearUniform
unfoldable pub locations : (List Float → Float → AxisLocation) → List (List Float) → List Float → List AxisLocation
locations rule axes readings = tabulate (length axes) (λ a. rule (get_or axes a []) (get_or readings a nan))

-- the value at the locations, blended axis by axis
unfoldable pub interpolated : (List Float → Float → AxisLocation) → List ℕ → List Float → List Float → List Float → Float
interpolated rule counts nodes values readings = linear (locations rule (axes_of counts nodes) readings) (table counts values)

-- "Order for a lookup: .. 10 for all axes; 11 for all axes; 12"
unfoldable pub linear_answer : Shape → List Float → List Float → List Float → Answer
linear_answer s nodes values readings = lookup_fault s nodes values readings then computed (interpolated axis_location (counts_of s) nodes values readings)

-- ".. 8 for LinearUniform, all axes; .."
unfoldable pub linear_uniform_answer : Shape → List Float → List Float → List Float → Answer
linear_uniform_answer s nodes values readings = linear_uniform_fault s nodes values readings then computed (interpolated uniform_location (counts_of s) nodes values readings)
