-- Demand 2 for Linear and LinearUniform, and stored bits at nodes. Assumes nothing.
use mathlib.Core.Path.{◌≡◌, refl, sym, ap, ◌∙◌}
use mathlib.Core.Bool.{true, false}
use mathlib.Core.List.{List, ◌∷◌}
use Prim.Native.Nat.{ℕ, zero, suc, ◌<◌}
use native.Mathlib.Omega.{arith}
use lib.ListN.{length, get_or}
use lib.Ieee.{Float, nan, eq}
use lib.Ieee.Scale.{finite}
use Rattle.answer.specs.Faults.{good, refusal, ◌or◌}
use Rattle.answer.specs.Answer.{refused, answered}
use Rattle.answer.proofs.Orders as orders
use Rattle.answer.proofs.Answers.{then_good, then_bad}
use Rattle.checks.specs.Nodes.{node}
use Rattle.checks.specs.Numbers.{result_fault, length_fault, axes_fault, ranges_fault, values_fault, readings_fault, axes_uniform_fault}
use Rattle.checks.proofs.numbers.Rows.{result_wild, result_fine}
use Rattle.layout.specs.Shape.{counts_of, size}
use Rattle.layout.specs.Layout.{axes_of, place, table, tabulate, axis_of, Inside}
use Rattle.checks.specs.Shapes.{frame_fault}
use Rattle.layout.specs.declared.Shape.{Shape}
use Rattle.layout.proofs.Walks.{length-axes}
use Rattle.layout.proofs.Layouts.{tabulate_same, place_below}
use Rattle.checks.proofs.values.Rows.{values_finite}
use Rattle.checks.proofs.table.Grids.{frame_values, grid_of}
use Rattle.orders.specs.Orders.{lookup_fault, linear_uniform_fault}
use Rattle.blend.specs.Blend.{linear, computed}
use Rattle.rust.proofs.Located.{rust_linear}
use Rattle.rust.specs.declared.AxisLocation.{AxisLocation}
use Rattle.rust.specs.declared.AxisLocation.TheVariants.{Exact}
use Rattle.blend.proofs.Bits.{rust_linear_lem}
use Rattle.axis.specs.Locations.{axis_location, uniform_location}
use Rattle.ninterp.specs.Tables.{indices}
use Rattle.ninterp.specs.Linears.{locations, interpolated, linear_answer, linear_uniform_answer}
use Rattle.axis.proofs.Laws.{node-located}
use Rattle.ninterp.proofs.Picks.{list_inside}
use Rattle.ninterp.proofs.Demands as demands
use Rattle.ninterp.proofs.Demands.{Accepted, InRange}

-- ---- a computed result: the value where it is finite, 12 exactly where it is not
pub computed_finite : (x : Float) → finite x ≡ true → computed x ≡ answered x
unfolding computed
computed_finite x h = then_good (result_fault 0 x) (answered x) (orders.passed-no_fault (result_fault 0 x) (result_fine 0 x h))

pub computed_wild : (x : Float) → finite x ≡ false → computed x ≡ refused (refusal 12 0 0)
unfolding computed
computed_wild x h = then_bad (result_fault 0 x) (answered x) (ap good (sym (result_wild 0 x h)) ∙ orders.bad_refused 11 0 0) ∙ ap refused (sym (result_wild 0 x h))

-- ---- locations that are all exact give the stored value
linear-exact : (n : ℕ) (f : ℕ → ℕ) (g : List ℕ → Float) → linear (tabulate n (λ a. Exact (f a))) g ≡ g (tabulate n f)
linear-exact zero f g = refl
linear-exact (suc n) f g = linear-exact n (λ a. f (suc a)) (λ is. g (f 0 ∷ is))

-- ---- what an accepted table stores at its own index lists is finite
pub stored_finite : (s : Shape) (nodes values : List Float) → Accepted s nodes values → (is : List ℕ) → Inside is (counts_of s) → finite (table (counts_of s) values is) ≡ true
unfolding table
stored_finite s nodes values t is w =
    let below : place (counts_of s) is < size (counts_of s) = place_below is (counts_of s) w in
    values_finite values t.stored (place (counts_of s) is) (omega (arith, below, frame_values s nodes values t.frame))

module _ (s : Shape) (nodes values readings : List Float) (t : Accepted s nodes values) (r : InRange s nodes readings) where
  -- the Rust's value over the locations of a rule
  abbrev rust : (List Float → Float → AxisLocation) → Float
  rust rule = rust_linear (locations rule (axes_of (counts_of s) nodes) readings) (table (counts_of s) values)

  -- ---- demand 2 for Linear
  pub linear_demand : linear_answer s nodes values readings ≡ computed (rust_linear (locations axis_location (axes_of (counts_of s) nodes) readings) (table (counts_of s) values))
  unfolding linear_answer interpolated
  linear_demand =
      then_good (lookup_fault s nodes values readings) (computed (linear (locations axis_location (axes_of (counts_of s) nodes) readings) (table (counts_of s) values))) (demands.lookup_passed s nodes values readings t r)
      ∙ ap computed (sym (rust_linear_lem (locations axis_location (axes_of (counts_of s) nodes) readings) (table (counts_of s) values)))

  pub linear-answers : finite (rust_linear (locations axis_location (axes_of (counts_of s) nodes) readings) (table (counts_of s) values)) ≡ true
      → linear_answer s nodes values readings ≡ answered (rust_linear (locations axis_location (axes_of (counts_of s) nodes) readings) (table (counts_of s) values))
  linear-answers h = linear_demand ∙ computed_finite (rust axis_location) h

  pub linear_refuses : finite (rust_linear (locations axis_location (axes_of (counts_of s) nodes) readings) (table (counts_of s) values)) ≡ false → linear_answer s nodes values readings ≡ refused (refusal 12 0 0)
  linear_refuses h = linear_demand ∙ computed_wild (rust axis_location) h

  -- ---- demand 2 for LinearUniform, on a table that passes 8 too
  module _ (u : good (axes_uniform_fault (counts_of s) nodes) ≡ true) where
    uniform_passed : good (linear_uniform_fault s nodes values readings) ≡ true
    unfolding linear_uniform_fault
    uniform_passed =
        orders.both_passed (frame_fault s (length nodes) (length values)) _ t.frame
        (orders.both_passed (length_fault 2 s.axes (length readings)) _ (demands.reading_length s nodes values readings t r)
        (orders.both_passed (axes_fault (counts_of s) nodes) _ t.axes
        (orders.both_passed (values_fault values) _ t.stored
        (orders.both_passed (axes_uniform_fault (counts_of s) nodes) (readings_fault readings or ranges_fault (counts_of s) nodes readings) u (demands.point_good s nodes values readings t r)))))

    pub linear_uniform_demand : linear_uniform_answer s nodes values readings ≡ computed (rust_linear (locations uniform_location (axes_of (counts_of s) nodes) readings) (table (counts_of s) values))
    unfolding linear_uniform_answer interpolated
    linear_uniform_demand =
        then_good (linear_uniform_fault s nodes values readings) (computed (linear (locations uniform_location (axes_of (counts_of s) nodes) readings) (table (counts_of s) values))) uniform_passed
        ∙ ap computed (sym (rust_linear_lem (locations uniform_location (axes_of (counts_of s) nodes) readings) (table (counts_of s) values)))

    pub linear_uniform-answers : finite (rust_linear (locations uniform_location (axes_of (counts_of s) nodes) readings) (table (counts_of s) values)) ≡ true
        → linear_uniform_answer s nodes values readings ≡ answered (rust_linear (locations uniform_location (axes_of (counts_of s) nodes) readings) (table (counts_of s) values))
    linear_uniform-answers h = linear_uniform_demand ∙ computed_finite (rust uniform_location) h

    pub linear_uniform_refuses : finite (rust_linear (locations uniform_location (axes_of (counts_of s) nodes) readings) (table (counts_of s) values)) ≡ false → linear_uniform_answer s nodes values readings ≡ refused (refusal 12 0 0)
    linear_uniform_refuses h = linear_uniform_demand ∙ computed_wild (rust uniform_location) h

  -- ---- where every reading is a node, the stored bits of that node
  module _ (at : ℕ → ℕ) (within : (a : ℕ) → a < s.axes → at a < length (axis_of s nodes a)) (on : (a : ℕ) → a < s.axes → eq (node (axis_of s nodes a) (at a)) (get_or readings a nan) ≡ true) where
    abbrev is : List ℕ
    is = indices (λ a xs p. at a) (axes_of (counts_of s) nodes) readings

    counted : length (counts_of s) ≡ s.axes
    counted = demands.counted s nodes values readings t r

    all_exact : locations axis_location (axes_of (counts_of s) nodes) readings ≡ tabulate (length (axes_of (counts_of s) nodes)) (λ a. Exact (at a))
    unfolding locations
    all_exact =
        tabulate_same (length (axes_of (counts_of s) nodes)) (λ a. axis_location (axis_of s nodes a) (get_or readings a nan)) (λ a. Exact (at a))
        (λ a l.
        let k : a < s.axes = omega (arith, counted, length-axes (counts_of s) nodes, l) in
        node-located (axis_of s nodes a) (get_or readings a nan) (demands.axis-at s nodes values readings t r a k) (r.finites a k) (at a) (within a k) (on a k))

    stored_value : finite (table (counts_of s) values is) ≡ true
    stored_value =
        let g = grid_of s nodes values t.frame t.axes in
        stored_finite s nodes values t is (list_inside (λ a xs p. at a) (counts_of s) nodes readings g.flat (λ a l. within a (omega (arith, counted, l))))

    pub linear-stored : linear_answer s nodes values readings ≡ answered (table (counts_of s) values (indices (λ a xs p. at a) (axes_of (counts_of s) nodes) readings))
    unfolding linear_answer interpolated indices
    linear-stored =
        then_good (lookup_fault s nodes values readings) (computed (linear (locations axis_location (axes_of (counts_of s) nodes) readings) (table (counts_of s) values))) (demands.lookup_passed s nodes values readings t r)
        ∙ ap (λ (ls : List AxisLocation). computed (linear ls (table (counts_of s) values))) all_exact
        ∙ ap computed (linear-exact (length (axes_of (counts_of s) nodes)) at (table (counts_of s) values))
        ∙ computed_finite (table (counts_of s) values is) stored_value
