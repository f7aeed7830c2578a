-- The Rust's text of the four strategies, from the readings on, is the paper's rules, on an accepted table and readings in range, whatever its values have
-- outside the table: none of them is read there. Assumes nothing.
use mathlib.Core.Path.{◌≡◌, sym, ap, ◌∙◌}
use mathlib.Core.Bool.{Bool, false, true}
use mathlib.Core.List.{List}
use Prim.Native.Nat.{ℕ, ◌≤◌, ◌<◌}
use native.Mathlib.Omega.{arith}
use lib.ListN.{length, get_or}
use lib.Ieee.{Float, nan}
use Rattle.layout.specs.Shape.{counts_of}
use Rattle.layout.specs.Layout.{axes_of, table, tabulate, axis_of, Inside}
use Rattle.layout.specs.declared.Shape.{Shape}
use Rattle.layout.proofs.Walks.{length-axes}
use Rattle.layout.proofs.Layouts.{tabulate_same}
use Rattle.rust.specs.Utils.{locate_axis, locate_step_index}
use Rattle.rust.specs.Strategies.{zipped, linear_text, linear_uniform_text, nearest_at, nearest_text, step_text}
use Rattle.rust.proofs.Located.{rust_linear}
use Rattle.rust.specs.declared.AxisLocation.{AxisLocation}
use Rattle.rust.proofs.Linears.{Fitting, uniform_at, linear-located, linear_uniform-located, zipped-tabulate, fitting}
use Rattle.checks.specs.Passed.{Axis}
use Rattle.checks.specs.Scaffolding.{Grid}
use Rattle.checks.proofs.table.Grids.{length-axis, grid_of}
use Rattle.axis.specs.Locations.{axis_location, uniform_location}
use Rattle.axis.specs.Scaffolding.{location_by}
use Rattle.axis.specs.Picks.{nearest_rule, step_rule}
use Rattle.axis.proofs.Texts.{axis_text, step_index_text, nearest_index_text, uniform_axis_text}
use Rattle.axis.proofs.Located.{location_fits}
use Rattle.axis.proofs.picks.Picks.{nearest_fits, step_fits}
use Rattle.blend.proofs.Bits.{rust_linear_lem}
use Rattle.ninterp.specs.Tables.{indices, picked}
use Rattle.ninterp.specs.Linears.{locations, interpolated}
use Rattle.ninterp.specs.Scaffolding.{AllWithin}
use Rattle.ninterp.proofs.Located.{locations_within, linear_same}
use Rattle.ninterp.proofs.Picks.{list_inside}
use Rattle.ninterp.proofs.Demands as demands
use Rattle.ninterp.proofs.Demands.{Accepted, InRange}

module _ (s : Shape) (nodes values readings : List Float) (t : Accepted s nodes values) (r : InRange s nodes readings)
    (g : List ℕ → Float) (same : (is : List ℕ) → Inside is (counts_of s) → g is ≡ table (counts_of s) values is) where
  counted : length (counts_of s) ≡ s.axes
  counted = demands.counted s nodes values readings t r

  good-axis : (a : ℕ) → a < s.axes → Axis (axis_of s nodes a)
  good-axis a l = demands.axis-at s nodes values readings t r a l

  grid : Grid (counts_of s) nodes
  grid = grid_of s nodes values t.frame t.axes

  as_many : length readings ≡ length (axes_of (counts_of s) nodes)
  as_many = r.count ∙ sym counted ∙ sym (length-axes (counts_of s) nodes)

  fits : Fitting (axes_of (counts_of s) nodes) readings (counts_of s)
  fits =
      fitting (axes_of (counts_of s) nodes) readings (counts_of s) (length-axes (counts_of s) nodes) (r.count ∙ sym counted)
      (λ a l. let n : 2 ≤ length (axis_of s nodes a) = (good-axis a (omega (arith, counted, l))).enough in omega arith)
      (λ a l.
      let n : 2 ≤ length (axis_of s nodes a) = (good-axis a (omega (arith, counted, l))).enough in
      omega (arith, n, length-axis (counts_of s) nodes grid.flat a l))

  -- one rule for another, where both give the same on each axis
  same_rule : {A : Type 0} (rule other : ℕ → List Float → Float → A) → ((a : ℕ) → a < s.axes → rule a (axis_of s nodes a) (get_or readings a nan) ≡ other a (axis_of s nodes a) (get_or readings a nan))
      → (n : ℕ) → n ≡ s.axes → tabulate n (λ a. rule a (axis_of s nodes a) (get_or readings a nan)) ≡ tabulate n (λ a. other a (axis_of s nodes a) (get_or readings a nan))
  same_rule rule other e n q = tabulate_same n (λ a. rule a (axis_of s nodes a) (get_or readings a nan)) (λ a. other a (axis_of s nodes a) (get_or readings a nan)) (λ a l. e a (omega (arith, q, l)))

  axes-count : length (axes_of (counts_of s) nodes) ≡ s.axes
  axes-count = length-axes (counts_of s) nodes ∙ counted

  -- ---- Linear
  linear-locations : zipped locate_axis (axes_of (counts_of s) nodes) readings ≡ locations axis_location (axes_of (counts_of s) nodes) readings
  unfolding locations
  linear-locations =
      zipped-tabulate locate_axis (axes_of (counts_of s) nodes) readings as_many
      ∙ same_rule (λ a. locate_axis) (λ a. axis_location) (λ a l. axis_text (axis_of s nodes a) (get_or readings a nan) (good-axis a l) (r.finites a l)) (length (axes_of (counts_of s) nodes)) axes-count

  -- a rule that finds a location on each axis reads the table alone
  read_within : (rule : List Float → Float → AxisLocation) → AllWithin (locations rule (axes_of (counts_of s) nodes) readings) (counts_of s)
      → rust_linear (locations rule (axes_of (counts_of s) nodes) readings) g ≡ interpolated rule (counts_of s) nodes values readings
  unfolding interpolated
  read_within rule w =
      rust_linear_lem (locations rule (axes_of (counts_of s) nodes) readings) g
      ∙ linear_same (locations rule (axes_of (counts_of s) nodes) readings) (counts_of s) g (table (counts_of s) values) w same

  within : (uniform : Bool) → AllWithin (locations (location_by uniform) (axes_of (counts_of s) nodes) readings) (counts_of s)
  within uniform =
      locations_within (location_by uniform) (counts_of s) nodes readings grid.flat
      (λ a l. location_fits (axis_of s nodes a) (get_or readings a nan) (grid.axes a l) (r.finites a (omega (arith, counted, l))) uniform)

  pub linear_text_lem : linear_text (counts_of s) g (axes_of (counts_of s) nodes) readings ≡ interpolated axis_location (counts_of s) nodes values readings
  linear_text_lem =
      linear-located (axes_of (counts_of s) nodes) readings (counts_of s) g fits
      ∙ ap (λ (ls : List AxisLocation). rust_linear ls g) linear-locations
      ∙ read_within axis_location (within false)

  -- ---- LinearUniform
  uniform_locations : zipped uniform_at (axes_of (counts_of s) nodes) readings ≡ locations uniform_location (axes_of (counts_of s) nodes) readings
  unfolding locations
  uniform_locations =
      zipped-tabulate uniform_at (axes_of (counts_of s) nodes) readings as_many
      ∙ same_rule (λ a. uniform_at) (λ a. uniform_location) (λ a l. uniform_axis_text (axis_of s nodes a) (get_or readings a nan)) (length (axes_of (counts_of s) nodes)) axes-count

  pub linear_uniform_text_lem : linear_uniform_text (counts_of s) g (axes_of (counts_of s) nodes) readings ≡ interpolated uniform_location (counts_of s) nodes values readings
  linear_uniform_text_lem =
      linear_uniform-located (axes_of (counts_of s) nodes) readings (counts_of s) g as_many (sym (length-axes (counts_of s) nodes))
      ∙ ap (λ (ls : List AxisLocation). rust_linear ls g) uniform_locations
      ∙ read_within uniform_location (within true)

  -- ---- Nearest and Step
  picked_same : (rule : ℕ → List Float → Float → ℕ) → ((a : ℕ) → a < length (counts_of s) → rule a (axis_of s nodes a) (get_or readings a nan) < length (axis_of s nodes a))
      → g (indices rule (axes_of (counts_of s) nodes) readings) ≡ picked rule (counts_of s) nodes values readings
  unfolding picked
  picked_same rule on = same (indices rule (axes_of (counts_of s) nodes) readings) (list_inside rule (counts_of s) nodes readings grid.flat on)

  pub nearest_text_lem : nearest_text (counts_of s) g (axes_of (counts_of s) nodes) readings ≡ picked nearest_rule (counts_of s) nodes values readings
  unfolding nearest_text indices
  nearest_text_lem =
      ap g
      (same_rule (λ a. nearest_at) nearest_rule (λ a l. nearest_index_text (axis_of s nodes a) (get_or readings a nan) (good-axis a l) (r.finites a l)) (length (counts_of s)) counted
      ∙ ap (λ (n : ℕ). tabulate n (λ a. nearest_rule a (axis_of s nodes a) (get_or readings a nan))) (sym (length-axes (counts_of s) nodes)))
      ∙ picked_same nearest_rule (λ a l. nearest_fits (axis_of s nodes a) (get_or readings a nan) (grid.axes a l) (r.finites a (omega (arith, counted, l))))

  pub step_text_lem : (directions : List ℕ) → step_text directions (counts_of s) g (axes_of (counts_of s) nodes) readings ≡ picked (step_rule directions) (counts_of s) nodes values readings
  unfolding step_text indices
  step_text_lem directions =
      ap g
      (same_rule (λ a. locate_step_index (get_or directions a 0)) (step_rule directions) (λ a l. step_index_text (axis_of s nodes a) (get_or readings a nan) (good-axis a l) (r.finites a l) (get_or directions a 0)) (length (counts_of s)) counted
      ∙ ap (λ (n : ℕ). tabulate n (λ a. step_rule directions a (axis_of s nodes a) (get_or readings a nan))) (sym (length-axes (counts_of s) nodes)))
      ∙ picked_same (step_rule directions) (λ a l. step_fits (axis_of s nodes a) (get_or readings a nan) (grid.axes a l) (r.finites a (omega (arith, counted, l))) (get_or directions a 0))
