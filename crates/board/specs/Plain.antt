-- "When an answer is an enum, a definition gives this paper's number and values for each of its cases": what C gets in the place of one.
use Rattle.std.specs.Prelude.{cond, ℕ, eqb, Float, Option, Some, None}
use Rattle.axis.specs.Locations.{location_index}
use Rattle.rust.specs.declared.AxisLocation.{AxisLocation}
use Rattle.rust.specs.declared.AxisLocation.TheVariants.{Exact, Between}
use Rattle.utils.specs.Calls.{index_of, location_fraction}
use Rattle.utils.specs.declared.ExactAnswer.{ExactAnswer}
use Rattle.utils.specs.declared.AxisAnswer.{AxisAnswer}
use Rattle.board.specs.declared.plain.PlainExact.{PlainExact}
use Rattle.board.specs.declared.plain.PlainLocation.{PlainLocation}

-- "else none": 1 where there is such a node
abbrev pub found_of : Option ℕ → ℕ
found_of (Some i) = 1
found_of None = 0

unfoldable pub plain_exact : ExactAnswer → PlainExact
plain_exact a = record { answer = a.answer; found = found_of a.index; index = index_of a.index }

-- "either the exact node or a lower index with a fraction": 1 where it is the second
abbrev pub between_of : AxisLocation → ℕ
between_of (Exact node) = 0
between_of (Between lower frac) = 1

unfoldable pub plain_location : AxisAnswer → PlainLocation
plain_location a =
    record { answer = a.answer; between = between_of a.location; index = location_index a.location; fraction = location_fraction a.location }

-- a tolerance that is lent, or the default where lent is 0
unfoldable pub tolerance_by : ℕ → Float → Option Float
tolerance_by lent tolerance = cond (eqb lent 0) None (Some tolerance)
