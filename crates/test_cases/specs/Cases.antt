-- "Bench cases": what each call answers beside what the paper says, as one list, and one claim over all of it.
use Rattle.std.specs.Prelude.{◌≡◌, refl, true, false, cond, List, [], ◌∷◌, map, ℕ, ◌+◌, ◌-◌, ◌^◌, eqb, pos, negsuc, Float, None}
use Rattle.std.specs.Float.{fin, binary64}
use Rattle.std.specs.Float.Ieee.{of_int, to_unsigned, lt, le, eq, add, sub, mul, div}
use Rattle.answer.specs.Faults.{refusal, no_fault, good, when, ◌or◌, first_fault, given, filled_into}
use Rattle.answer.specs.Answer.{refused, answered, fine, ◌then◌}
use Rattle.answer.specs.declared.Answer.{Answer}
use Rattle.utils.specs.declared.IndexAnswer.{IndexAnswer}
use Rattle.checks.specs.Nodes.{gap}
use Rattle.checks.specs.Numbers.{rise_fault, node_fault, nodes_fault, axes_count_fault, count_fault, direction_fault, room_fault, length_fault, finite_fault, reading_fault, result_fault, apart, gap_fault, uniform_fault, default_tolerance, lent_step_fault, product_fault, axes_fault, ranges_fault, value_fault, values_fault, readings_fault, range_fault, not_first_fault, results_fault}
use Rattle.checks.specs.Shapes.{axis_fault, shape_fault, frame_fault}
use Rattle.axis.specs.Uniform.{uniform_cell, uniform_index}
use Rattle.utils.specs.Calls.{index_answer, locate_fault, spacing_fault, tolerance_of, uniform_read_fault, locate_lower_index_uniform, validate_uniform_grid_epsilon, axis_answer, axis_reading_fault, directed_fault, locate_lower_index, locate_axis, locate_step_index}
use Rattle.axis.specs.Steps.{lower_step, upper_step, step_index}
use Rattle.axis.specs.Cells.{how_many, lower_index}
use Rattle.axis.specs.Locations.{fraction, axis_location}
use Rattle.axis.specs.Exact.{exact_node}
use Rattle.axis.specs.Picks.{nearest_index}
use Rattle.ninterp.specs.Tables.{indices, picked, nearest_answer}
use Rattle.ninterp.specs.Linears.{locations, interpolated, linear_answer}
use Rattle.slices.specs.Slices.{shape_without, slice_answer}
use Rattle.orders.specs.Orders.{point_fault, lookup_fault, linear_front}
use Rattle.slices.specs.LinearSlices.{along_first, linear_values, linear_rest, linear_slice_fault, linear_slice, linear_sliced}
use Rattle.layout.specs.Shape.{size, total}
use Rattle.layout.specs.Layout.{axes_of, strides, place_by, table, indices_at}
use Rattle.layout.specs.declared.Shape.{Shape}
use Rattle.blend.specs.Blend.{blended, computed}
use Rattle.rust.specs.declared.AxisLocation.{AxisLocation}
use Rattle.rust.specs.declared.AxisLocation.TheVariants.{Exact, Between}
use Rattle.utils.specs.declared.AxisAnswer.{AxisAnswer}

-- what a call tells
pub data Outcome : Type 0 where
  refuses : ℕ → ℕ → ℕ → Outcome
  index : ℕ → Outcome
  location : AxisLocation → Outcome
  value : Float → Outcome
  written : List Float → Outcome
  passed : Outcome

abbrev told : Answer → Outcome → Outcome
told a o = cond (eqb a.number 0) o (refuses a.number a.axis a.place)

abbrev told_index : IndexAnswer → Outcome
told_index r = told r.answer (index r.index)

abbrev told_location : AxisAnswer → Outcome
told_location r = told r.answer (location r.location)

abbrev told_value : Answer → Outcome
told_value a = told a (value a.value)

-- ---- numbers and axes
abbrev whole : ℕ → Float
whole n = of_int binary64 (pos n)

-- m times 2^-k
abbrev parts : ℕ → ℕ → Float
parts m k = fin false m (negsuc (k - 1))

abbrev A : List Float
A = whole 0 ∷ whole 1 ∷ whole 2 ∷ whole 4 ∷ []

-- [-1, 1]
abbrev span : List Float
span = fin true 1 (pos 0) ∷ whole 1 ∷ []

-- one axis of n nodes, two of two
abbrev line : ℕ → Shape
line n = record { axes = 1; counts = n ∷ 0 ∷ 0 ∷ 0 ∷ [] }

abbrev square : Shape
square = record { axes = 2; counts = 2 ∷ 2 ∷ 0 ∷ 0 ∷ [] }

-- the square's nodes, [0, 1] twice; values that are their own numbers
abbrev edges : List Float
edges = whole 0 ∷ whole 1 ∷ whole 0 ∷ whole 1 ∷ []

abbrev corners : List Float
corners = whole 0 ∷ whole 1 ∷ whole 2 ∷ whole 3 ∷ []

-- ---- the cases: on the left what a call tells, on the right what the paper says
pub record Case : Type 0 where
  pub tells : Outcome
  pub paper : Outcome

infix 90 ◌is◌
abbrev ◌is◌ : Outcome → Outcome → Case
a is b = record { tells = a; paper = b }

pub cases : List Case
cases =
    -- P1
    told_index (locate_lower_index A (whole 1)) is index 0
    ∷ told_index (locate_lower_index A (whole 4)) is index 2
    ∷ told_index (locate_lower_index A (fin true 1 (pos 0))) is index 0
    ∷ told_index (locate_lower_index A (whole 9)) is index 2
    -- P2
    ∷ told_location (locate_axis A (whole 1)) is location (Exact 1)
    ∷ told_location (locate_axis A (whole 3)) is location (Between 2 (parts 1 1))
    -- P3: 1 - 2^-53
    ∷ told_location (locate_axis span (parts (2 ^ 53 - 1) 53)) is location (Between 0 (whole 1))
    -- P4: [0, 2^1000] at 2^-1074
    ∷ told_location (locate_axis (whole 0 ∷ fin false 1 (pos 1000) ∷ []) (parts 1 1074)) is location (Between 0 (whole 0))
    -- P5: the value told is the node's number
    ∷ told_value (nearest_answer (line 4) A corners (whole 3 ∷ [])) is value (whole 3)
    -- P6: -2^-60, likewise
    ∷ told_value (nearest_answer (line 2) span (whole 0 ∷ whole 1 ∷ []) (fin true 1 (negsuc 59) ∷ [])) is value (whole 1)
    -- P7
    ∷ told_index (locate_step_index 0 A (whole 1)) is index 1
    ∷ told_index (locate_step_index 0 A (whole 3)) is index 2
    ∷ told_index (locate_step_index 0 A (whole 4)) is index 3
    ∷ told_index (locate_step_index 1 A (whole 0)) is index 0
    ∷ told_index (locate_step_index 1 A (whole 1)) is index 1
    ∷ told_index (locate_step_index 1 A (whole 3)) is index 3
    -- P8: the last reading is 2^70
    ∷ told_index (locate_lower_index_uniform (whole 0) (whole 1) 4 (whole 1)) is index 1
    ∷ told_index (locate_lower_index_uniform (whole 0) (whole 1) 4 (whole 9)) is index 2
    ∷ told_index (locate_lower_index_uniform (whole 0) (whole 1) 4 (fin false 1 (pos 70))) is index 0
    -- P9: 1.25; the slice at 0.5 is 1, 2, in an output of two zeros
    ∷ told_value (linear_answer square edges corners (parts 1 1 ∷ parts 1 2 ∷ [])) is value (parts 5 2)
    ∷ told (linear_slice square edges corners 0 (parts 1 1) 2).answer passed is passed
    ∷ written (linear_sliced square edges corners 0 (parts 1 1) (whole 0 ∷ whole 0 ∷ [])) is written (whole 1 ∷ whole 2 ∷ [])
    -- P10: 2 + 2^-42, 2 + 2^-41
    ∷ told (validate_uniform_grid_epsilon (whole 0 ∷ whole 1 ∷ parts (2 ^ 43 + 1) 42 ∷ []) None) passed is passed
    ∷ told (validate_uniform_grid_epsilon (whole 0 ∷ whole 1 ∷ parts (2 ^ 42 + 1) 41 ∷ []) None) passed is refuses 8 0 1
    -- P11
    ∷ told_index (locate_lower_index (whole 0 ∷ whole 0 ∷ []) (whole 0)) is refuses 5 0 1
    -- (d): between two corners at 3, at the number nearest to 0.2, Linear tells more than 3
    ∷ told_value (linear_answer (line 2) (whole 0 ∷ whole 1 ∷ []) (whole 3 ∷ whole 3 ∷ []) (parts 3602879701896397 54 ∷ [])) is value (parts 6755399441055745 51)
    ∷ []

-- the claim over all of it
pub cases_hold : map (λ c. c.tells) cases ≡ map (λ c. c.paper) cases
unfolding cases locate_lower_index locate_axis locate_step_index locate_lower_index_uniform validate_uniform_grid_epsilon index_answer axis_answer axis_reading_fault directed_fault uniform_read_fault nearest_index indices picked nearest_answer how_many lower_index exact_node fraction axis_location lower_step upper_step step_index uniform_cell uniform_index gap apart gap_fault uniform_fault default_tolerance tolerance_of spacing_fault locate_fault count_fault rise_fault node_fault nodes_fault axis_fault finite_fault lent_step_fault direction_fault reading_fault result_fault refusal refused ◌then◌ fine answered no_fault good when ◌or◌ first_fault given of_int to_unsigned lt le eq add sub mul div locations interpolated linear_answer shape_without point_fault slice_answer filled_into along_first linear_values linear_rest linear_slice_fault linear_slice linear_sliced size total axes_of strides place_by table indices_at shape_fault length_fault frame_fault axes_fault value_fault values_fault readings_fault range_fault ranges_fault lookup_fault not_first_fault room_fault linear_front blended computed results_fault axes_count_fault product_fault
cases_hold = refl
