-- The page of promises of the seven primitives (laws/specs/Primitives.antt), by the theorems there are. Assumes nothing.
use Rattle.std.proofs.Common.{Option, Some, None}
use mathlib.Core.Path.{◌≡◌, refl, sym, ap, ap₂, ◌∙◌, subst}
use mathlib.Core.Bool.{Bool, true, false, not, ◌||◌, cond}
use mathlib.Core.List.{List}
use Prim.Native.Nat.{ℕ, ◌+◌, ◌-◌, ◌≤◌, ◌<◌}
use native.Mathlib.Omega.{arith}
use borrow.Author.Tests.{lt-ltb, ltb-true, ne_eqb}
use lib.Dec.{ltb}
use lib.ListN.{length}
use lib.Ieee.{Float, lt}
use lib.Ieee.Scale.{finite}
use Rattle.answer.specs.Faults.{Fault, refusal, no_fault, good, when, given, ◌or◌}
use Rattle.answer.specs.Answer.{plus_zero, refused, answered, fine, ◌then◌}
use Rattle.answer.specs.declared.Answer.{Answer}
use Rattle.answer.proofs.Orders as orders
use Rattle.answer.proofs.Answers.{Quiet, quiet, then_good, then_bad, then_number}
use Rattle.answer.proofs.Tests.{not_false, neither_left, neither_right}
use Rattle.checks.specs.Passed.{Axis}
use Rattle.checks.specs.Shapes.{axis_fault}
use Rattle.checks.specs.Numbers.{count_fault, finite_fault, uniform_fault, default_fault, lent_step_fault, tolerance_fault, direction_fault, reading_fault, result_fault}
use Rattle.checks.proofs.nodes.Rows.{axis_of_lem, axis-fine}
use Rattle.checks.proofs.counts.Rows.{count-fine, count_enough, count_few}
use Rattle.checks.proofs.lent.Rows.{direction_fine, direction_passed}
use Rattle.checks.proofs.numbers.Rows.{reading_fine, reading_finite, finite_fine, finite_passed, wild_passed, result_fine, result_wild}
use Rattle.rust.specs.Utils as rust
use Rattle.rust.specs.Utils.{Validated, ok, non_uniform}
use Rattle.rust.specs.declared.AxisLocation.{AxisLocation}
use Rattle.rust.specs.declared.AxisLocation.TheVariants.{Exact, Between}
use Rattle.axis.specs.Cells.{lower_index}
use Rattle.axis.specs.Exact.{exact_node}
use Rattle.axis.specs.Locations.{axis_location, location_index}
use Rattle.axis.specs.Steps.{step_index}
use Rattle.axis.specs.Uniform.{uniform_index}
use Rattle.axis.proofs.Located.{uniform_index_fits}
use Rattle.axis.proofs.cells.Cells.{cell_inside}
use Rattle.axis.proofs.Texts.{uniform_row, lower_text, exact_text, axis_text, step_index_text, uniform_index_text, validate_text, epsilon_text, row_passed}
use Rattle.utils.specs.Calls.{index_of, location_fraction, index_answer, exact_answer, axis_answer, axis_reading_fault, lower_fault, exact_fault, locate_fault, directed_fault, uniform_read_fault, spacing_fault, tolerance_of, locate_lower_index, exact_index, locate_axis, locate_step_index, locate_lower_index_uniform, validate_uniform_grid, validate_uniform_grid_epsilon}
use Rattle.board.specs.Plain.{found_of, plain_exact, between_of, plain_location, tolerance_by}
use Rattle.laws.specs.Primitives.{Tells, Judges, Gives, Readable, Stepped, Tolerant, index_case, location_case, exact, located, Primitives}

pub quiet_told : {a : Answer} → Quiet a → Tells a
unfolding fine answered
quiet_told q = (λ h. q.empty, λ h. (ap (λ (x : Answer). x.axis) (q.clear h), ap (λ (x : Answer). x.place) (q.clear h)))

-- a refusal is its checks' own
pub refused_bad : (f : Fault) → ((f then fine).number ≡ 0 → ⊥) → good f ≡ false
refused_bad f h = go (good f) refl
  where
    nought : (f then fine) ≡ fine → (f then fine).number ≡ 0
    nought e = unfold fine answered in ap (λ (x : Answer). x.number) e

    go : (b : Bool) → good f ≡ b → b ≡ false
    go true e = absurd (h (nought (then_good f fine e)))
    go false e = refl

-- checks that pass exactly the good inputs, and what is given then
judges : (Good : Type 0) (f : Fault) → (Good → good f ≡ true) → (good f ≡ true → Good) → Judges Good f (f then fine)
judges Good f passes passed = record { accepts = λ g. then_good f fine (passes g); only = λ h. passed (then_number f fine h); refuses = λ h. then_bad f fine h; tells = quiet_told (quiet f) }

gives : {A : Type 0} (Good : Type 0) (f : Fault) (x y zeros : A) → (Good → good f ≡ true) → (good f ≡ true → Good) → (Good → x ≡ y) → Gives Good f (f then fine) (given f x zeros) y zeros
gives Good f x y zeros passes passed same = record {
  judges = judges Good f passes passed;
  gives = λ g. orders.given-good f x zeros (passes g) ∙ same g;
  empty = λ h. orders.given_bad f x zeros (refused_bad f h);
}

-- what is given, by its cases
gives_case : {A B : Type 0} {Good : Type 0} {f : Fault} {answer : Answer} {given x zeros : A} (by : A → B) → Gives Good f answer given x zeros → Gives Good f answer (by given) (by x) (by zeros)
gives_case by g = record { judges = g.judges; gives = λ h. ap by (g.gives h); empty = λ h. ap by (g.empty h) }

index_plain : (i : Option ℕ) → index_case i ≡ (found_of i, index_of i)
index_plain (Some i) = refl
index_plain None = refl

location_plain : (l : AxisLocation) → location_case l ≡ (between_of l, (location_index l, location_fraction l))
location_plain (Exact i) = refl
location_plain (Between lower frac) = refl

fraction-plain : (l : AxisLocation) → (location_case l).1.1 ≡ location_fraction l
fraction-plain (Exact i) = refl
fraction-plain (Between lower frac) = refl

-- ---- rows, both ways
axis-good : (nodes : List Float) → Axis nodes → good (axis_fault nodes) ≡ true
axis-good nodes a = ap good (axis-fine nodes a) ∙ orders.good-no_fault

reading_good : (p : Float) → finite p ≡ true → good (reading_fault 0 p) ≡ true
reading_good p h = orders.passed-no_fault _ (reading_fine 0 p h)

result_passed : (x : Float) → good (result_fault 0 x) ≡ true → finite x ≡ true
unfolding result_fault
result_passed x h = wild_passed 11 0 0 x h

lower_good : (nodes : List Float) (lower : ℕ) → lower + 1 < length nodes → good (lower_fault nodes lower) ≡ true
unfolding lower_fault
lower_good nodes lower h = orders.good-when (not (ltb lower (length nodes - 1))) (refusal 2 0 1) (ap not (lt-ltb lower (length nodes - 1) (omega arith)))

lower_passed : (nodes : List Float) (lower : ℕ) → good (lower_fault nodes lower) ≡ true → lower + 1 < length nodes
unfolding lower_fault
lower_passed nodes lower h =
    let l : lower < length nodes - 1 = ltb-true lower (length nodes - 1) (not_false (ltb lower (length nodes - 1)) (orders.row_good (not (ltb lower (length nodes - 1))) 1 0 1 h)) in
    omega (arith, l)

-- 8 of a lent number: finite, and a test that is not met
module _ (x : Float) (out : Bool) where
  lent_good : finite x ≡ true → out ≡ false → good (when (not (finite x) || out) (refusal 8 0 0)) ≡ true
  lent_good h k = orders.good-when (not (finite x) || out) (refusal 8 0 0) (ap₂ (λ (p q : Bool). not p || q) h k)

  lent_passed : good (when (not (finite x) || out) (refusal 8 0 0)) ≡ true → (finite x ≡ true) × (out ≡ false)
  lent_passed h =
      let e : (not (finite x) || out) ≡ false = orders.row_good (not (finite x) || out) 7 0 0 h in
      (not_false (finite x) (neither_left (not (finite x)) out e), neither_right (not (finite x)) out e)

step-good : (step : Float) → Stepped step → good (lent_step_fault step) ≡ true
unfolding lent_step_fault
step-good step h = lent_good step (not (lt plus_zero step)) h.0 (ap not h.1)

step-passed : (step : Float) → good (lent_step_fault step) ≡ true → Stepped step
unfolding lent_step_fault
step-passed step h = let q = lent_passed step (not (lt plus_zero step)) h in (q.0, not_false (lt plus_zero step) q.1)

tolerance_good : (tolerance : Float) → Tolerant tolerance → good (tolerance_fault tolerance) ≡ true
unfolding tolerance_fault
tolerance_good tolerance h = lent_good tolerance (lt tolerance plus_zero) h.0 h.1

tolerance_passed : (tolerance : Float) → good (tolerance_fault tolerance) ≡ true → Tolerant tolerance
unfolding tolerance_fault
tolerance_passed tolerance h = lent_passed tolerance (lt tolerance plus_zero) h

-- ---- the axis and its reading
module _ (nodes : List Float) (p : Float) where
  readable_good : Readable nodes p → good (axis_reading_fault nodes p) ≡ true
  unfolding axis_reading_fault
  readable_good r = orders.both_passed (axis_fault nodes) (reading_fault 0 p) (axis-good nodes r.0) (reading_good p r.1)

  readable : good (axis_reading_fault nodes p) ≡ true → Readable nodes p
  unfolding axis_reading_fault
  readable h = (axis_of_lem nodes (orders.first-passed _ _ h), reading_finite 0 p (orders.second_passed _ _ h))

  pub lower_index_lem : Gives (Readable nodes p) (axis_reading_fault nodes p) (locate_lower_index nodes p).answer (locate_lower_index nodes p).index (rust.locate_lower_index nodes p) 0
  unfolding locate_lower_index index_answer
  lower_index_lem = gives (Readable nodes p) (axis_reading_fault nodes p) (lower_index nodes p) (rust.locate_lower_index nodes p) 0 readable_good readable (λ r. sym (lower_text nodes p r.0 r.1))

  -- a row between the axis's and the reading's
  module _ (f : Fault) (Good : Type 0) (fine-is : Good → good f ≡ true) (is-fine : good f ≡ true → Good) where
    between_good : Readable nodes p × Good → good (axis_fault nodes or f or reading_fault 0 p) ≡ true
    between_good g = orders.both_passed (axis_fault nodes) (f or reading_fault 0 p) (axis-good nodes g.0.0) (orders.both_passed f (reading_fault 0 p) (fine-is g.1) (reading_good p g.0.1))

    between : good (axis_fault nodes or f or reading_fault 0 p) ≡ true → Readable nodes p × Good
    between h =
        let rest = orders.second_passed _ _ h in
        ((axis_of_lem nodes (orders.first-passed _ _ h), reading_finite 0 p (orders.second_passed _ _ rest)), is-fine (orders.first-passed _ _ rest))

  found : (lower : ℕ) → Gives (Readable nodes p × (lower + 1 < length nodes)) (exact_fault nodes lower p) (exact_index nodes lower p).answer (exact_index nodes lower p).index (rust.exact_index nodes lower p) None
  unfolding exact_index exact_answer exact_fault
  found lower =
      gives (Readable nodes p × (lower + 1 < length nodes)) _ (exact_node nodes lower p) (rust.exact_index nodes lower p) None
      (between_good (lower_fault nodes lower) (lower + 1 < length nodes) (lower_good nodes lower) (lower_passed nodes lower))
      (between (lower_fault nodes lower) (lower + 1 < length nodes) (lower_good nodes lower) (lower_passed nodes lower))
      (λ g. sym (exact_text nodes lower p))

  pub exact_index_lem : (lower : ℕ) → Gives (Readable nodes p × (lower + 1 < length nodes)) (exact_fault nodes lower p) (exact nodes lower p).answer
      ((exact nodes lower p).found, (exact nodes lower p).index) (index_case (rust.exact_index nodes lower p)) (0, 0)
  unfolding plain_exact
  exact_index_lem lower =
      subst (λ (x : ℕ × ℕ). Gives (Readable nodes p × (lower + 1 < length nodes)) (exact_fault nodes lower p) (exact_index nodes lower p).answer x (index_case (rust.exact_index nodes lower p)) (0, 0))
      (index_plain (exact_index nodes lower p).index) (gives_case index_case (found lower))

  pub step_index_lem : (direction : ℕ) → Gives (Readable nodes p × (direction < 2)) (directed_fault direction nodes p) (locate_step_index direction nodes p).answer (locate_step_index direction nodes p).index (rust.locate_step_index direction nodes p) 0
  unfolding locate_step_index index_answer directed_fault
  step_index_lem direction =
      gives (Readable nodes p × (direction < 2)) _ (step_index direction nodes p) (rust.locate_step_index direction nodes p) 0
      (between_good (direction_fault 0 direction) (direction < 2) direction_good (direction_passed 0 direction))
      (between (direction_fault 0 direction) (direction < 2) direction_good (direction_passed 0 direction))
      (λ g. sym (step_index_text nodes p g.0.0 g.0.1 direction))
    where
      direction_good : direction < 2 → good (direction_fault 0 direction) ≡ true
      direction_good h = orders.passed-no_fault _ (direction_fine 0 direction (omega (arith, h)))

  -- ---- locate_axis, whose fraction is judged last
  module _ (r : Readable nodes p) where
    text : rust.locate_axis nodes p ≡ axis_location nodes p
    text = axis_text nodes p r.0 r.1

    fraction_is : finite (location_fraction (rust.locate_axis nodes p)) ≡ finite (location_fraction (axis_location nodes p))
    fraction_is = ap (λ (l : AxisLocation). finite (location_fraction l)) text

    overflowing : finite (location_fraction (rust.locate_axis nodes p)) ≡ false → (locate_axis nodes p).answer ≡ refused (refusal 12 0 0)
    unfolding locate_axis axis_answer locate_fault
    overflowing h =
        let w : refusal 12 0 0 ≡ result_fault 0 (location_fraction (axis_location nodes p)) = result_wild 0 (location_fraction (axis_location nodes p)) (sym fraction_is ∙ h) in
        let f : (axis_reading_fault nodes p or result_fault 0 (location_fraction (axis_location nodes p))) ≡ refusal 12 0 0 = orders.or_good (axis_reading_fault nodes p) (result_fault 0 (location_fraction (axis_location nodes p))) (readable_good r) ∙ sym w in
        then_bad (axis_reading_fault nodes p or result_fault 0 (location_fraction (axis_location nodes p))) fine (ap good f ∙ orders.bad_refused 11 0 0) ∙ ap refused f

  location : Gives (Readable nodes p × (finite (location_fraction (rust.locate_axis nodes p)) ≡ true)) (locate_fault nodes p) (locate_axis nodes p).answer (locate_axis nodes p).location (rust.locate_axis nodes p) (Exact 0)
  unfolding locate_axis axis_answer locate_fault
  location =
      gives (Readable nodes p × (finite (location_fraction (rust.locate_axis nodes p)) ≡ true)) _ (axis_location nodes p) (rust.locate_axis nodes p) (Exact 0)
      (λ g. orders.both_passed (axis_reading_fault nodes p) (result_fault 0 (location_fraction (axis_location nodes p))) (readable_good g.0)
      (orders.passed-no_fault _ (result_fine 0 (location_fraction (axis_location nodes p)) (sym (fraction_is g.0) ∙ g.1))))
      (λ h. let r = readable (orders.first-passed _ _ h) in (r, fraction_is r ∙ result_passed (location_fraction (axis_location nodes p)) (orders.second_passed _ _ h)))
      (λ g. sym (text g.0))

  case_is : finite (location_case (rust.locate_axis nodes p)).1.1 ≡ finite (location_fraction (rust.locate_axis nodes p))
  case_is = ap finite (fraction-plain (rust.locate_axis nodes p))

  pub axis_overflows : Readable nodes p → finite (location_case (rust.locate_axis nodes p)).1.1 ≡ false → (located nodes p).answer ≡ refused (refusal 12 0 0)
  unfolding plain_location
  axis_overflows r h = overflowing r (sym case_is ∙ h)

  pub axis_location_lem : Gives (Readable nodes p × (finite (location_case (rust.locate_axis nodes p)).1.1 ≡ true)) (locate_fault nodes p) (located nodes p).answer
      ((located nodes p).between, ((located nodes p).index, (located nodes p).fraction)) (location_case (rust.locate_axis nodes p)) (0, (0, plus_zero))
  unfolding plain_location
  axis_location_lem =
      subst (λ (b : Bool). Gives (Readable nodes p × (b ≡ true)) (locate_fault nodes p) (locate_axis nodes p).answer (between_of (locate_axis nodes p).location, (location_index (locate_axis nodes p).location, location_fraction (locate_axis nodes p).location)) (location_case (rust.locate_axis nodes p)) (0, (0, plus_zero))) (sym case_is)
      (subst (λ (x : ℕ × (ℕ × Float)). Gives (Readable nodes p × (finite (location_fraction (rust.locate_axis nodes p)) ≡ true)) (locate_fault nodes p) (locate_axis nodes p).answer x (location_case (rust.locate_axis nodes p)) (0, (0, plus_zero)))
      (location_plain (locate_axis nodes p).location) (gives_case location_case location))

-- ---- the uniform index
pub uniform_index_lem : (first step : Float) (n : ℕ) (p : Float) → Gives (((2 ≤ n) × (n ≤ 64)) × ((finite first ≡ true) × (Stepped step × (finite p ≡ true)))) (uniform_read_fault first step n p) (locate_lower_index_uniform first step n p).answer
    (locate_lower_index_uniform first step n p).index (rust.locate_lower_index_uniform first step n p) 0
unfolding locate_lower_index_uniform index_answer uniform_read_fault
uniform_index_lem first step n p =
    gives (((2 ≤ n) × (n ≤ 64)) × ((finite first ≡ true) × (Stepped step × (finite p ≡ true)))) _ (uniform_index first step n p) (rust.locate_lower_index_uniform first step n p) 0
    (λ g.
    orders.both_passed (count_fault 0 n) _ (orders.passed-no_fault _ (count-fine 0 n g.0.0 g.0.1))
    (orders.both_passed (finite_fault 0 0 first) _ (orders.passed-no_fault _ (finite_fine 0 0 first g.1.0))
    (orders.both_passed (lent_step_fault step) (reading_fault 0 p) (step-good step g.1.1.0) (reading_good p g.1.1.1))))
    (λ h.
    let h1 = orders.second_passed _ _ h in
    let h2 = orders.second_passed _ _ h1 in (
      (count_enough 0 n (orders.first-passed _ _ h), count_few 0 n (orders.first-passed _ _ h)),
      (finite_passed 0 0 first (orders.first-passed _ _ h1), (step-passed step (orders.first-passed _ _ h2), reading_finite 0 p (orders.second_passed _ _ h2))),
    ))
    (λ g. sym (uniform_index_text first step n p))

-- ---- the two checks
-- rows 2, 4, 5, 6, what is lent, then row 8 as a verdict of the Rust's
module _ (nodes : List Float) (lent row : Fault) (v : Validated) (Lend : Type 0) (lend-good : Lend → good lent ≡ true) (Lent-is : good lent ≡ true → Lend) (text : Axis nodes → row ≡ uniform_row v) where
  spaced_good : (Axis nodes × Lend) × (v ≡ ok) → good (axis_fault nodes or lent or row) ≡ true
  spaced_good g =
      orders.both_passed (axis_fault nodes) (lent or row) (axis-good nodes g.0.0)
      (orders.both_passed lent row (lend-good g.0.1) (ap good (text g.0.0 ∙ ap uniform_row g.1) ∙ orders.good-no_fault))

  spaced : good (axis_fault nodes or lent or row) ≡ true → (Axis nodes × Lend) × (v ≡ ok)
  spaced h =
      let a : Axis nodes = axis_of_lem nodes (orders.first-passed _ _ h) in
      let rest = orders.second_passed _ _ h in
      ((a, Lent-is (orders.first-passed _ _ rest)), row_passed v (ap good (sym (text a)) ∙ orders.second_passed _ _ rest))

  names : (i : ℕ) → Axis nodes → Lend → v ≡ non_uniform 0 i → ((axis_fault nodes or lent or row) then fine) ≡ refused (refusal 8 0 i)
  names i a l e =
      let f : (axis_fault nodes or lent or row) ≡ refusal 8 0 i = orders.or_good (axis_fault nodes) (lent or row) (axis-good nodes a) ∙ orders.or_good lent row (lend-good l) ∙ text a ∙ ap uniform_row e in
      then_bad (axis_fault nodes or lent or row) fine (ap good f ∙ orders.bad_refused 7 0 i) ∙ ap refused f

module _ (nodes : List Float) (tolerance : Float) where
  pub lent_check : Judges ((Axis nodes × Tolerant tolerance) × (rust.validate_uniform_grid nodes 0 tolerance ≡ ok)) (spacing_fault nodes (Some tolerance)) (validate_uniform_grid nodes tolerance)
  unfolding validate_uniform_grid validate_uniform_grid_epsilon spacing_fault tolerance_of
  lent_check =
      judges ((Axis nodes × Tolerant tolerance) × (rust.validate_uniform_grid nodes 0 tolerance ≡ ok)) _
      (spaced_good nodes (tolerance_fault tolerance) (uniform_fault 0 nodes tolerance) (rust.validate_uniform_grid nodes 0 tolerance) (Tolerant tolerance) (tolerance_good tolerance) (tolerance_passed tolerance) (λ a. validate_text 0 nodes tolerance))
      (spaced nodes (tolerance_fault tolerance) (uniform_fault 0 nodes tolerance) (rust.validate_uniform_grid nodes 0 tolerance) (Tolerant tolerance) (tolerance_good tolerance) (tolerance_passed tolerance) (λ a. validate_text 0 nodes tolerance))

  pub lent_check_names : (i : ℕ) → Axis nodes → Tolerant tolerance → rust.validate_uniform_grid nodes 0 tolerance ≡ non_uniform 0 i → validate_uniform_grid nodes tolerance ≡ refused (refusal 8 0 i)
  unfolding validate_uniform_grid validate_uniform_grid_epsilon spacing_fault tolerance_of
  lent_check_names = names nodes (tolerance_fault tolerance) (uniform_fault 0 nodes tolerance) (rust.validate_uniform_grid nodes 0 tolerance) (Tolerant tolerance) (tolerance_good tolerance) (tolerance_passed tolerance) (λ a. validate_text 0 nodes tolerance)

module _ (nodes : List Float) (tolerance : Float) where
  pub default_check : Judges (Axis nodes × (rust.validate_uniform_grid_epsilon nodes 0 ≡ ok)) (spacing_fault nodes None) (validate_uniform_grid_epsilon nodes (tolerance_by 0 tolerance))
  unfolding validate_uniform_grid_epsilon spacing_fault tolerance_of tolerance_by
  default_check =
      judges (Axis nodes × (rust.validate_uniform_grid_epsilon nodes 0 ≡ ok)) _
      (λ g. spaced_good nodes no_fault (default_fault 0 nodes) (rust.validate_uniform_grid_epsilon nodes 0) Unit (λ u. orders.good-no_fault) (λ h. tt) (epsilon_text 0 nodes) ((g.0, tt), g.1))
      (λ h. let q = spaced nodes no_fault (default_fault 0 nodes) (rust.validate_uniform_grid_epsilon nodes 0) Unit (λ u. orders.good-no_fault) (λ h. tt) (epsilon_text 0 nodes) h in (q.0.0, q.1))

  pub default_check_names : (i : ℕ) → Axis nodes → rust.validate_uniform_grid_epsilon nodes 0 ≡ non_uniform 0 i → validate_uniform_grid_epsilon nodes (tolerance_by 0 tolerance) ≡ refused (refusal 8 0 i)
  unfolding validate_uniform_grid_epsilon spacing_fault tolerance_of tolerance_by
  default_check_names i a e = names nodes no_fault (default_fault 0 nodes) (rust.validate_uniform_grid_epsilon nodes 0) Unit (λ u. orders.good-no_fault) (λ h. tt) (epsilon_text 0 nodes) i a tt e

  lent_epsilon : (lent : ℕ) → (lent ≡ 0 → ⊥) → validate_uniform_grid_epsilon nodes (tolerance_by lent tolerance) ≡ validate_uniform_grid nodes tolerance
  unfolding validate_uniform_grid tolerance_by
  lent_epsilon lent h = ap (λ (b : Bool). validate_uniform_grid_epsilon nodes (cond b None (Some tolerance))) (ne_eqb lent 0 h)

pub primitives : Primitives
primitives = record {
  lower_index_lem = lower_index_lem;
  lower_fits = λ nodes p r. subst (λ (i : ℕ). i + 1 < length nodes) (sym (lower_text nodes p r.0 r.1)) (cell_inside nodes p r.0.enough);
  exact_index_lem = λ nodes lower p. exact_index_lem nodes p lower;
  axis_location_lem = axis_location_lem;
  axis_overflows = axis_overflows;
  step_index_lem = λ direction nodes p. step_index_lem nodes p direction;
  uniform_index_lem = uniform_index_lem;
  uniform_fits = λ first step n p h. subst (λ (i : ℕ). i + 1 < n) (sym (uniform_index_text first step n p)) (uniform_index_fits first step n p h);
  lent_check = lent_check;
  lent_check_names = lent_check_names;
  lent_epsilon = λ nodes lent tolerance. lent_epsilon nodes tolerance lent;
  default_check = default_check;
  default_check_names = default_check_names;
}
