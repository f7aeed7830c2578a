-- Demand 2 for Step and Nearest, and stored bits at nodes. Assumes nothing.
use mathlib.Core.Path.{◌≡◌, ap, ◌∙◌}
use mathlib.Core.Bool.{true}
use mathlib.Core.List.{List}
use Prim.Native.Nat.{ℕ, ◌+◌, ◌-◌, ◌≤◌, ◌<◌}
use native.Mathlib.Omega.{arith}
use lib.Dec.{T}
use lib.ListN.{length, get_or}
use lib.Ieee.{Float, nan, binary64, le, eq, fits}
use lib.Ieee.Scale.{finite}
use Rattle.answer.specs.Faults.{Fault, good, ◌or◌}
use Rattle.answer.specs.Answer.{answered}
use Rattle.answer.proofs.Orders as orders
use Rattle.answer.proofs.Answers.{then_good}
use Rattle.binary64.proofs.Order as order
use Rattle.checks.specs.Nodes.{node}
use Rattle.checks.specs.Passed.{Axis}
use Rattle.checks.specs.Numbers.{reading_fault, direction_fault, length_fault, axes_fault, ranges_fault, values_fault, directions_fault, readings_fault, range_fault}
use Rattle.checks.proofs.numbers.Rows.{reading_fine}
use Rattle.checks.proofs.lent.Rows.{direction_fine, length_same}
use Rattle.layout.specs.Shape.{counts_of}
use Rattle.layout.specs.Layout.{axes_of, table, axis_of}
use Rattle.checks.specs.Shapes.{frame_fault}
use Rattle.layout.specs.declared.Shape.{Shape}
use Rattle.layout.proofs.Walks.{length-axes}
use Rattle.layout.proofs.Layouts.{tabulate_same}
use Rattle.checks.proofs.ranges.Rows.{range_inside}
use Rattle.checks.proofs.table.Grids.{frame_axes, grid_of}
use Rattle.orders.specs.Orders.{lookup_fault, step_fault}
use Rattle.ninterp.specs.Tables.{indices, picked, nearest_answer, step_answer}
use Rattle.axis.specs.Picks.{nearest_rule, step_rule}
use Rattle.binary64.proofs.Held.{Held}
use Rattle.axis.proofs.picks.Nodes.{nearest_on_node, step_on_node}

-- ---- an accepted table, and finite readings in range
pub record Accepted (s : Shape) (nodes values : List Float) : Type 0 where
  pub frame : good (frame_fault s (length nodes) (length values)) ≡ true
  pub axes : good (axes_fault (counts_of s) nodes) ≡ true
  pub stored : good (values_fault values) ≡ true

pub record InRange (s : Shape) (nodes readings : List Float) : Type 0 where
  pub count : length readings ≡ s.axes
  pub finites : (a : ℕ) → a < s.axes → finite (get_or readings a nan) ≡ true
  pub low : (a : ℕ) → a < s.axes → le (node (axis_of s nodes a) 0) (get_or readings a nan) ≡ true
  pub high : (a : ℕ) → a < s.axes → le (get_or readings a nan) (node (axis_of s nodes a) (length (axis_of s nodes a) - 1)) ≡ true

module _ (s : Shape) (nodes values readings : List Float) (t : Accepted s nodes values) (r : InRange s nodes readings) where
  pub counted : length (counts_of s) ≡ s.axes
  counted = frame_axes s nodes values t.frame

  pub axis-at : (a : ℕ) → a < s.axes → Axis (axis_of s nodes a)
  axis-at a l = (grid_of s nodes values t.frame t.axes).axes a (omega (arith, counted))

  pub reading_length : good (length_fault 2 s.axes (length readings)) ≡ true
  reading_length = orders.passed-no_fault (length_fault 2 s.axes (length readings)) (length_same 2 s.axes (length readings) r.count)

  readings_good : good (readings_fault readings) ≡ true
  unfolding readings_fault
  readings_good =
      ap good (orders.none_good (λ a. reading_fault a (get_or readings a nan)) 0 (length readings)
      (λ a l m. orders.passed-no_fault (reading_fault a (get_or readings a nan)) (reading_fine a (get_or readings a nan) (r.finites a (omega (arith, r.count))))))
      ∙ orders.good-no_fault

  ranges_good : good (ranges_fault (counts_of s) nodes readings) ≡ true
  unfolding ranges_fault
  ranges_good = ap good (orders.none_good (λ a. range_fault a (axis_of s nodes a) (get_or readings a nan)) 0 (length (counts_of s)) each) ∙ orders.good-no_fault
    where
      each : (a : ℕ) → 0 ≤ a → a < 0 + length (counts_of s) → good (range_fault a (axis_of s nodes a) (get_or readings a nan)) ≡ true
      each a l m =
          let k : a < s.axes = omega (arith, counted) in
          let ax : Axis (axis_of s nodes a) = axis-at a k in
          let n : 2 ≤ length (axis_of s nodes a) = ax.enough in
          orders.passed-no_fault (range_fault a (axis_of s nodes a) (get_or readings a nan))
          (range_inside a (axis_of s nodes a) (get_or readings a nan)
          (order.not_lt_of_le (get_or readings a nan) (node (axis_of s nodes a) 0) (r.finites a k) (ax.finites 0 (omega arith)) (r.low a k))
          (order.not_lt_of_le (node (axis_of s nodes a) (length (axis_of s nodes a) - 1)) (get_or readings a nan) (ax.finites (length (axis_of s nodes a) - 1) (omega arith)) (r.finites a k) (r.high a k)))

  pub point_good : good (readings_fault readings or ranges_fault (counts_of s) nodes readings) ≡ true
  point_good = orders.both_passed (readings_fault readings) (ranges_fault (counts_of s) nodes readings) readings_good ranges_good

  pub lookup_passed : good (lookup_fault s nodes values readings) ≡ true
  unfolding lookup_fault
  lookup_passed =
      orders.both_passed (frame_fault s (length nodes) (length values)) (length_fault 2 s.axes (length readings) or axes_fault (counts_of s) nodes or values_fault values or readings_fault readings or ranges_fault (counts_of s) nodes readings) t.frame
      (orders.both_passed (length_fault 2 s.axes (length readings)) (axes_fault (counts_of s) nodes or values_fault values or readings_fault readings or ranges_fault (counts_of s) nodes readings) reading_length
      (orders.both_passed (axes_fault (counts_of s) nodes) (values_fault values or readings_fault readings or ranges_fault (counts_of s) nodes readings) t.axes
      (orders.both_passed (values_fault values) (readings_fault readings or ranges_fault (counts_of s) nodes readings) t.stored point_good)))

  -- ---- demand 2 for Nearest: the stored value at the nearest node of each axis, and never a refusal
  pub nearest_demand : nearest_answer s nodes values readings ≡ answered (picked nearest_rule (counts_of s) nodes values readings)
  unfolding nearest_answer
  nearest_demand = then_good (lookup_fault s nodes values readings) (answered (picked nearest_rule (counts_of s) nodes values readings)) lookup_passed

  same_indices : (rule other : ℕ → List Float → Float → ℕ) → ((a : ℕ) → a < s.axes → rule a (axis_of s nodes a) (get_or readings a nan) ≡ other a (axis_of s nodes a) (get_or readings a nan))
      → indices rule (axes_of (counts_of s) nodes) readings ≡ indices other (axes_of (counts_of s) nodes) readings
  unfolding indices
  same_indices rule other e =
      tabulate_same (length (axes_of (counts_of s) nodes)) (λ a. rule a (axis_of s nodes a) (get_or readings a nan)) (λ a. other a (axis_of s nodes a) (get_or readings a nan))
      (λ a l. e a (omega (arith, counted, length-axes (counts_of s) nodes)))

  module _ (directions : List ℕ) (lent : length directions ≡ s.axes) (two : (a : ℕ) → a < s.axes → get_or directions a 0 < 2) where
    abbrev lengths : Fault
    lengths = length_fault 3 s.axes (length directions)

    directions_good : good (directions_fault directions) ≡ true
    unfolding directions_fault
    directions_good =
        ap good (orders.none_good (λ a. direction_fault a (get_or directions a 0)) 0 (length directions)
        (λ a l m. orders.passed-no_fault (direction_fault a (get_or directions a 0)) (direction_fine a (get_or directions a 0) (let k : get_or directions a 0 < 2 = two a (omega (arith, lent)) in omega arith))))
        ∙ orders.good-no_fault

    step-passed : good (step_fault s nodes values readings directions) ≡ true
    unfolding step_fault
    step-passed =
        orders.both_passed (frame_fault s (length nodes) (length values)) (length_fault 2 s.axes (length readings) or lengths or axes_fault (counts_of s) nodes or values_fault values or directions_fault directions or readings_fault readings or ranges_fault (counts_of s) nodes readings) t.frame
        (orders.both_passed (length_fault 2 s.axes (length readings)) (lengths or axes_fault (counts_of s) nodes or values_fault values or directions_fault directions or readings_fault readings or ranges_fault (counts_of s) nodes readings) reading_length
        (orders.both_passed lengths (axes_fault (counts_of s) nodes or values_fault values or directions_fault directions or readings_fault readings or ranges_fault (counts_of s) nodes readings) (orders.passed-no_fault lengths (length_same 3 s.axes (length directions) lent))
        (orders.both_passed (axes_fault (counts_of s) nodes) (values_fault values or directions_fault directions or readings_fault readings or ranges_fault (counts_of s) nodes readings) t.axes
        (orders.both_passed (values_fault values) (directions_fault directions or readings_fault readings or ranges_fault (counts_of s) nodes readings) t.stored
        (orders.both_passed (directions_fault directions) (readings_fault readings or ranges_fault (counts_of s) nodes readings) directions_good point_good)))))

    -- ---- demand 2 for Step: the stored value at the step index of each axis, and never a refusal
    pub step_demand : step_answer s nodes values readings directions ≡ answered (picked (step_rule directions) (counts_of s) nodes values readings)
    unfolding step_answer
    step_demand = then_good (step_fault s nodes values readings directions) (answered (picked (step_rule directions) (counts_of s) nodes values readings)) step-passed

  -- ---- where every reading is a node, the stored bits of that node
  module _ (held : (a : ℕ) → Held (axis_of s nodes a)) (read : (a : ℕ) → T (fits binary64 (get_or readings a nan))) (at : ℕ → ℕ)
      (within : (a : ℕ) → a < s.axes → at a < length (axis_of s nodes a)) (on : (a : ℕ) → a < s.axes → eq (node (axis_of s nodes a) (at a)) (get_or readings a nan) ≡ true) where
    pub nearest-stored : nearest_answer s nodes values readings ≡ answered (table (counts_of s) values (indices (λ a xs p. at a) (axes_of (counts_of s) nodes) readings))
    unfolding picked
    nearest-stored =
        nearest_demand
        ∙ ap (λ is. answered (table (counts_of s) values is))
        (same_indices nearest_rule (λ a xs p. at a) (λ a l. nearest_on_node (axis_of s nodes a) (get_or readings a nan) (axis-at a l) (r.finites a l) (held a) (read a) (at a) (within a l) (on a l)))

    pub step-stored : (directions : List ℕ) → length directions ≡ s.axes → ((a : ℕ) → a < s.axes → get_or directions a 0 < 2)
        → step_answer s nodes values readings directions ≡ answered (table (counts_of s) values (indices (λ a xs p. at a) (axes_of (counts_of s) nodes) readings))
    unfolding picked
    step-stored directions lent two =
        step_demand directions lent two
        ∙ ap (λ is. answered (table (counts_of s) values is))
        (same_indices (step_rule directions) (λ a xs p. at a) (λ a l. step_on_node (axis_of s nodes a) (get_or readings a nan) (axis-at a l) (r.finites a l) (held a) (read a) (at a) (within a l) (on a l) (get_or directions a 0)))
