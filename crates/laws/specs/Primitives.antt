-- THE PAGE OF PROMISES, of the seven primitives on one axis: which input each accepts, that it then gives what the Rust's text gives, and what a refusal
-- holds. Nothing but statements; `primitives` (laws/proofs/Primitives.antt) inhabits the record.
use Rattle.std.specs.Prelude.{◌≡◌, true, false, List, ℕ, ◌+◌, ◌≤◌, ◌<◌, length, Float, Option, Some, None}
use Rattle.std.specs.Float.Ieee.{lt}
use Rattle.std.specs.Float.Ieee.Scale.{finite}
use Rattle.answer.specs.Faults.{Fault, refusal, good}
use Rattle.answer.specs.Answer.{plus_zero, refused, fine}
use Rattle.answer.specs.declared.Answer.{Answer}
use Rattle.checks.specs.Passed.{Axis}
use Rattle.rust.specs.Utils as rust
use Rattle.rust.specs.Utils.{ok, non_uniform}
use Rattle.rust.specs.declared.AxisLocation.{AxisLocation}
use Rattle.rust.specs.declared.AxisLocation.TheVariants.{Exact, Between}
use Rattle.utils.specs.Calls.{axis_reading_fault, exact_fault, locate_fault, directed_fault, uniform_read_fault, spacing_fault}
use Rattle.utils.specs.Calls.{locate_lower_index, exact_index, locate_axis, locate_step_index, locate_lower_index_uniform, validate_uniform_grid, validate_uniform_grid_epsilon}
use Rattle.board.specs.Plain.{plain_exact, plain_location, tolerance_by}
use Rattle.board.specs.declared.plain.PlainExact.{PlainExact}
use Rattle.board.specs.declared.plain.PlainLocation.{PlainLocation}

-- "A refusal gives its number, axis and place, with value +0.0"; "Success is 0, 0, 0"
abbrev pub Tells : Answer → Type 0
Tells a = ((a.number ≡ 0 → ⊥) → a.value ≡ plus_zero) × (a.number ≡ 0 → (a.axis ≡ 0) × (a.place ≡ 0))

-- "The first fault found is answered": where an order of checks finds a fault, that is the answer. The orders and their rows (checks/specs/Numbers.antt) are
-- the paper's own sentences and are read with the page: of the primitives here, under their names in utils/specs/Calls.antt
abbrev pub Refuses : Fault → Answer → Type 0
Refuses f a = good f ≡ false → a ≡ refused f

-- a call that accepts exactly the inputs of which `Good` holds, and refuses the others by the order f
pub record Judges (Good : Type 0) (f : Fault) (answer : Answer) : Type 0 where
  pub accepts : Good → answer ≡ fine
  pub only : answer.number ≡ 0 → Good
  pub refuses : Refuses f answer
  pub tells : Tells answer

-- .. and gives x where it accepts; on a refusal "any index, fraction or shape it would give is zero"
pub record Gives {A : Type 0} (Good : Type 0) (f : Fault) (answer : Answer) (given x zeros : A) : Type 0 where
  pub judges : Judges Good f answer
  pub gives : Good → given ≡ x
  pub empty : (answer.number ≡ 0 → ⊥) → given ≡ zeros

-- what each asks of its axis and reading; of a lent step; of a lent tolerance
abbrev pub Readable : List Float → Float → Type 0
Readable nodes p = Axis nodes × (finite p ≡ true)

abbrev pub Stepped : Float → Type 0
Stepped step = (finite step ≡ true) × (lt plus_zero step ≡ true)

abbrev pub Tolerant : Float → Type 0
Tolerant tolerance = (finite tolerance ≡ true) × (lt tolerance plus_zero ≡ false)

-- "When an answer is an enum, a definition gives this paper's number and values for each of its cases": an index, or none; a node, or a lower index with a fraction
abbrev pub index_case : Option ℕ → ℕ × ℕ
index_case (Some i) = (1, i)
index_case None = (0, 0)

abbrev pub location_case : AxisLocation → ℕ × (ℕ × Float)
location_case (Exact i) = (0, (i, plus_zero))
location_case (Between lower frac) = (1, (lower, frac))

-- what the two calls of an enum give, as C has it
abbrev pub exact : List Float → ℕ → Float → PlainExact
exact nodes lower p = plain_exact (exact_index nodes lower p)

abbrev pub located : List Float → Float → PlainLocation
located nodes p = plain_location (locate_axis nodes p)

pub record Primitives : Type 0 where
  pub lower_index_lem : (nodes : List Float) (p : Float)
      → Gives (Readable nodes p) (axis_reading_fault nodes p) (locate_lower_index nodes p).answer (locate_lower_index nodes p).index (rust.locate_lower_index nodes p) 0
  -- (the text's index and the node above it lie on the axis: it reads none that is not there)
  pub lower_fits : (nodes : List Float) (p : Float) → Readable nodes p → rust.locate_lower_index nodes p + 1 < length nodes
  pub exact_index_lem : (nodes : List Float) (lower : ℕ) (p : Float)
      → Gives (Readable nodes p × (lower + 1 < length nodes)) (exact_fault nodes lower p) (exact nodes lower p).answer
      ((exact nodes lower p).found, (exact nodes lower p).index) (index_case (rust.exact_index nodes lower p)) (0, 0)
  pub axis_location_lem : (nodes : List Float) (p : Float)
      → Gives (Readable nodes p × (finite (location_case (rust.locate_axis nodes p)).1.1 ≡ true)) (locate_fault nodes p) (located nodes p).answer
      ((located nodes p).between, ((located nodes p).index, (located nodes p).fraction)) (location_case (rust.locate_axis nodes p)) (0, (0, plus_zero))
  pub axis_overflows : (nodes : List Float) (p : Float)
      → Readable nodes p → finite (location_case (rust.locate_axis nodes p)).1.1 ≡ false → (located nodes p).answer ≡ refused (refusal 12 0 0)
  pub step_index_lem : (direction : ℕ) (nodes : List Float) (p : Float)
      → Gives (Readable nodes p × (direction < 2)) (directed_fault direction nodes p) (locate_step_index direction nodes p).answer
      (locate_step_index direction nodes p).index (rust.locate_step_index direction nodes p) 0
  pub uniform_index_lem : (first step : Float) (n : ℕ) (p : Float)
      → Gives (((2 ≤ n) × (n ≤ 64)) × ((finite first ≡ true) × (Stepped step × (finite p ≡ true)))) (uniform_read_fault first step n p)
      (locate_lower_index_uniform first step n p).answer (locate_lower_index_uniform first step n p).index (rust.locate_lower_index_uniform first step n p) 0
  pub uniform_fits : (first step : Float) (n : ℕ) (p : Float) → 2 ≤ n → rust.locate_lower_index_uniform first step n p + 1 < n
  -- the two checks give a verdict alone: accepted where the Rust's says `Ok(())`, and 8 at the interval that it names
  pub lent_check : (nodes : List Float) (tolerance : Float)
      → Judges ((Axis nodes × Tolerant tolerance) × (rust.validate_uniform_grid nodes 0 tolerance ≡ ok)) (spacing_fault nodes (Some tolerance)) (validate_uniform_grid nodes tolerance)
  pub lent_check_names : (nodes : List Float) (tolerance : Float) (i : ℕ)
      → Axis nodes → Tolerant tolerance → rust.validate_uniform_grid nodes 0 tolerance ≡ non_uniform 0 i → validate_uniform_grid nodes tolerance ≡ refused (refusal 8 0 i)
  -- .. the second by a lent tolerance where its flag is not 0, and else by the default
  pub lent_epsilon : (nodes : List Float) (lent : ℕ) (tolerance : Float) → (lent ≡ 0 → ⊥)
      → validate_uniform_grid_epsilon nodes (tolerance_by lent tolerance) ≡ validate_uniform_grid nodes tolerance
  pub default_check : (nodes : List Float) (tolerance : Float)
      → Judges (Axis nodes × (rust.validate_uniform_grid_epsilon nodes 0 ≡ ok)) (spacing_fault nodes None) (validate_uniform_grid_epsilon nodes (tolerance_by 0 tolerance))
  pub default_check_names : (nodes : List Float) (tolerance : Float) (i : ℕ)
      → Axis nodes → rust.validate_uniform_grid_epsilon nodes 0 ≡ non_uniform 0 i → validate_uniform_grid_epsilon nodes (tolerance_by 0 tolerance) ≡ refused (refusal 8 0 i)
