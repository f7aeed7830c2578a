-- What each of the seven primitives answers, for every input: "The axis rules (utils.rs)", with the checks in front. "Primitives on one axis use 2, 4, 5, 6,
-- 9 (`locate_step_index`), 10 in that order (4, 5, 6 node by node as above), axis 0, and give clamped answers outside the range, never 11".
use Rattle.std.specs.Prelude.{not, List, ℕ, ◌-◌, ltb, length, Float, Option, Some, None}
use Rattle.answer.specs.Faults.{Fault, refusal, no_fault, when, ◌or◌, given}
use Rattle.answer.specs.Answer.{plus_zero, fine, ◌then◌}
use Rattle.answer.specs.declared.Answer.{Answer}
use Rattle.checks.specs.Numbers.{count_fault, finite_fault, uniform_fault, default_tolerance, lent_step_fault, tolerance_fault, direction_fault, reading_fault, result_fault}
use Rattle.checks.specs.Shapes.{axis_fault}
use Rattle.axis.specs.Cells.{lower_index}
use Rattle.axis.specs.Exact.{exact_node}
use Rattle.axis.specs.Locations.{axis_location}
use Rattle.axis.specs.Steps.{step_index}
use Rattle.axis.specs.Uniform.{uniform_index}
use Rattle.rust.specs.declared.AxisLocation.{AxisLocation}
use Rattle.rust.specs.declared.AxisLocation.TheVariants.{Exact, Between}
use Rattle.utils.specs.declared.IndexAnswer.{IndexAnswer}
use Rattle.utils.specs.declared.ExactAnswer.{ExactAnswer}
use Rattle.utils.specs.declared.AxisAnswer.{AxisAnswer}

-- ---- an answer with what it gives: "any index, fraction or shape it would give is zero" on a refusal
-- "When an answer is an enum, a definition gives this paper's number and values for each of its cases."
abbrev pub index_of : Option ℕ → ℕ
index_of (Some i) = i
index_of None = 0

abbrev pub location_fraction : AxisLocation → Float
location_fraction (Exact i) = plus_zero
location_fraction (Between lower frac) = frac

unfoldable pub index_answer : Fault → ℕ → IndexAnswer
index_answer f i = record { answer = f then fine; index = given f i 0 }

unfoldable pub exact_answer : Fault → Option ℕ → ExactAnswer
exact_answer f i = record { answer = f then fine; index = given f i None }

unfoldable pub axis_answer : Fault → AxisLocation → AxisAnswer
axis_answer f l = record { answer = f then fine; location = given f l (Exact 0) }

-- ---- `locate_lower_index`: 2, 4, 5, 6, 10
unfoldable pub axis_reading_fault : List Float → Float → Fault
axis_reading_fault nodes p = axis_fault nodes or reading_fault 0 p

unfoldable pub locate_lower_index : List Float → Float → IndexAnswer
locate_lower_index nodes p = index_answer (axis_reading_fault nodes p) (lower_index nodes p)

-- ---- `exact_index`: "also answers 2, place 1, after 6, when the lent lower index is not below the count less 1"
unfoldable pub lower_fault : List Float → ℕ → Fault
lower_fault nodes lower = when (not (ltb lower (length nodes - 1))) (refusal 2 0 1)

unfoldable pub exact_fault : List Float → ℕ → Float → Fault
exact_fault nodes lower p = axis_fault nodes or lower_fault nodes lower or reading_fault 0 p

unfoldable pub exact_index : List Float → ℕ → Float → ExactAnswer
exact_index nodes lower p = exact_answer (exact_fault nodes lower p) (exact_node nodes lower p)

-- ---- `locate_axis`: "leaves its fraction unclamped there and answers 12, 0, 0, as its last check, where the fraction is not finite"
unfoldable pub locate_fault : List Float → Float → Fault
locate_fault nodes p = axis_reading_fault nodes p or result_fault 0 (location_fraction (axis_location nodes p))

unfoldable pub locate_axis : List Float → Float → AxisAnswer
locate_axis nodes p = axis_answer (locate_fault nodes p) (axis_location nodes p)

-- ---- `locate_step_index`: 2, 4, 5, 6, 9, 10
unfoldable pub directed_fault : ℕ → List Float → Float → Fault
directed_fault direction nodes p = axis_fault nodes or direction_fault 0 direction or reading_fault 0 p

unfoldable pub locate_step_index : ℕ → List Float → Float → IndexAnswer
locate_step_index direction nodes p = index_answer (directed_fault direction nodes p) (step_index direction nodes p)

-- ---- `locate_lower_index_uniform`: "The uniform primitive uses 2, 4 (first node), 8 (step), 10."
unfoldable pub uniform_read_fault : Float → Float → ℕ → Float → Fault
uniform_read_fault first step n p = count_fault 0 n or finite_fault 0 0 first or lent_step_fault step or reading_fault 0 p

unfoldable pub locate_lower_index_uniform : Float → Float → ℕ → Float → IndexAnswer
locate_lower_index_uniform first step n p = index_answer (uniform_read_fault first step n p) (uniform_index first step n p)

-- ---- `validate_uniform_grid` and `validate_uniform_grid_epsilon`
-- "The default is step times 2^-42."
unfoldable pub tolerance_of : List Float → Option Float → Float
tolerance_of nodes (Some tolerance) = tolerance
tolerance_of nodes None = default_tolerance nodes

-- "The uniform check answers 8, after 6, for a lent tolerance that is not finite or is below 0, axis 0, place 0."
abbrev pub lent_fault : Option Float → Fault
lent_fault (Some tolerance) = tolerance_fault tolerance
lent_fault None = no_fault

-- 2, 4, 5, 6, then 8 of the tolerance, then 8 of the gaps
unfoldable pub spacing_fault : List Float → Option Float → Fault
spacing_fault nodes tolerance = axis_fault nodes or lent_fault tolerance or uniform_fault 0 nodes (tolerance_of nodes tolerance)

-- the check by a lent tolerance or the default (the Rust's Option<f64>), and by a lent one alone
unfoldable pub validate_uniform_grid_epsilon : List Float → Option Float → Answer
validate_uniform_grid_epsilon nodes tolerance = spacing_fault nodes tolerance then fine

unfoldable pub validate_uniform_grid : List Float → Float → Answer
validate_uniform_grid nodes tolerance = validate_uniform_grid_epsilon nodes (Some tolerance)
