-- Not for the reader of the promises: what the functions below the calls ask for and give one another.
-- The checker holds the code to it, and no promise cites it.
use Rattle.std.specs.Prelude.{ℕ, ◌+◌, Bool, true, false, cond, List, length, ◌==◌, nat_lt, slice_index, Float}
use Rattle.answer.specs.Answer.{plus_zero}
use Rattle.rust.specs.Utils.{lower_by, upper_by}
use Rattle.rust.specs.declared.AxisLocation.{AxisLocation}
use Rattle.rust.specs.declared.AxisLocation.TheVariants.{Between, Exact}
use Rattle.axis.specs.Locations.{axis_location, uniform_location}
use Rattle.axis.specs.Steps.{step_index}
use Rattle.axis.specs.Picks.{nearest_index}
use Rattle.axis.specs.Cells.{lower_index}
use Rattle.axis.specs.declared.picks.Pick.{Pick}
use Rattle.axis.specs.declared.picks.Pick.TheVariants.{Lower, Upper, Nearest}

-- ---- locations

-- LinearUniform's rule, or Linear's
abbrev pub location_by : Bool → List Float → Float → AxisLocation
location_by true = uniform_location
location_by false = axis_location

-- what the code gives, of any list at all: 0 and +0.0 where there is no cell. On a good axis it is `location_by` (`location_found_lem`)
unfoldable pub location_found : Bool → List Float → Float → AxisLocation
location_found uniform nodes p = cond (nat_lt (length nodes) 2) (Between 0 plus_zero) (location_by uniform nodes p)

-- the highest node that a location looks at
abbrev pub upper_of : AxisLocation → ℕ
upper_of (Exact node) = node
upper_of (Between lower frac) = lower + 1

-- ---- picks: Nearest and Step share their code. A pick of 0 is Lower, of 1 Upper, of anything else Nearest

-- a pick as a number
abbrev pub code_of : Pick → ℕ
code_of Lower = 0
code_of Upper = 1
code_of Nearest = 2

-- the node that a pick takes
unfoldable pub pick_index : ℕ → List Float → Float → ℕ
pick_index pick nodes p = cond (nat_lt pick 2) (step_index pick nodes p) (nearest_index nodes p)

-- the Rust's expressions in `locate_step_index`, over the lower index as the paper counts it: on a good axis its search gives that count (`lower_text`)
unfoldable pub rust_step : ℕ → List Float → Float → ℕ
rust_step direction nodes p = cond (direction == 0) (lower_by nodes (lower_index nodes p) p) (upper_by nodes (lower_index nodes p) p)

-- what the code gives, of any list at all: `rust_step` for Step, and 0 where there is no cell. On a good axis it is `pick_index` (`pick_found_lem`)
unfoldable pub pick_found : ℕ → List Float → Float → ℕ
pick_found pick nodes p = cond (nat_lt (length nodes) 2) 0 (cond (nat_lt pick 2) (rust_step pick nodes p) (nearest_index nodes p))

-- the rule of each axis, by its pick
abbrev pub pick_rule : List ℕ → ℕ → List Float → Float → ℕ
pick_rule picks a nodes p = pick_index (slice_index picks a) nodes p
