-- Demand 3 for Linear and LinearUniform: a slice on the first axis that is made answers every remaining reading as the whole table does. Assumes nothing.
use mathlib.Core.Path.{◌≡◌, sym, ap, ap₂, ◌∙◌, subst}
use mathlib.Core.Bool.{true, false, not}
use mathlib.Core.List.{List, [], ◌∷◌}
use Prim.Native.Nat.{ℕ, suc, ◌+◌, ◌-◌, ◌≤◌, ◌<◌}
use native.Mathlib.Omega.{arith}
use lib.ListN.{length, get_or}
use lib.Ieee.{Float, nan, lt}
use lib.Ieee.Scale.{finite}
use Rattle.answer.specs.Faults.{Fault, refusal, good}
use Rattle.answer.specs.Answer.{answered, ◌then◌}
use Rattle.answer.proofs.Orders as orders
use Rattle.checks.specs.Passed.{Axis}
use Rattle.checks.specs.Nodes.{gap}
use Rattle.checks.specs.Numbers.{result_fault, value_fault, values_fault, apart, gap_fault, uniform_fault, default_tolerance, default_fault, axes_uniform_fault, results_fault}
use Rattle.answer.proofs.Tests.{not_false}
use Rattle.layout.specs.Shape.{counts_of, size}
use Rattle.layout.specs.Layout.{axes_of, place, table, tabulate, indices_at, Inside, insert, without, nodes_without, axis_of}
use Rattle.layout.specs.declared.Shape.{Shape}
use Rattle.layout.proofs.Walks.{length-axes}
use Rattle.checks.proofs.values.Rows.{value_good}
use Rattle.layout.proofs.Layouts.{get_d_tabulate, place_below}
use Rattle.layout.proofs.Removals.{indices_back, tabulate-insert, length_without, get_d_insert_above}
use Rattle.orders.specs.Orders.{linear_front, linear_uniform_front, point_fault}
use Rattle.blend.specs.Blend.{sliced, linear, computed}
use Rattle.rust.specs.declared.AxisLocation.{AxisLocation}
use Rattle.axis.specs.Locations.{axis_location, uniform_location}
use Rattle.axis.specs.Scaffolding.{upper_of}
use Rattle.ninterp.specs.Linears.{locations, interpolated, linear_answer, linear_uniform_answer}
use Rattle.ninterp.specs.Scaffolding.{AllWithin}
use Rattle.slices.specs.Slices.{shape_without}
use Rattle.laws.specs.Lowered.{lowered}
use Rattle.slices.specs.LinearSlices.{along_first, linear_values, linear_rest, linear_slice_fault, linear_uniform_slice_fault}
use Rattle.slices.proofs.Alongs.{length-along}
use Rattle.axis.proofs.Located.{location_fits}
use Rattle.ninterp.proofs.Located.{locations_within, linear_same}
use Rattle.slices.proofs.Sliced.{linear_fronted, linear-first, linear_ready, uniform_linear, point_taken, point_range}
use Rattle.laws.proofs.Lowered as low
use Rattle.ninterp.proofs.Demands.{Accepted}
use Rattle.laws.proofs.Left as over
use Rattle.laws.proofs.Left.{Cut, core, front_accepted, lookup_asked, uniform_asked}

-- ---- a slice's values, as a table, are the table along its first axis
pub along_law : (l : AxisLocation) (cs is : List ℕ) (values : List Float) → Inside is (without 0 cs) → table (without 0 cs) (along_first l cs values) is ≡ sliced l (table cs values) is
unfolding table along_first
along_law l cs is values w =
    get_d_tabulate (size (without 0 cs)) (place (without 0 cs) is) (λ t. sliced l (table cs values) (indices_at (without 0 cs) t)) nan (place_below is (without 0 cs) w)
    ∙ ap (sliced l (table cs values)) (indices_back (without 0 cs) is w)

-- ---- 12 of a slice is 7 of the table that is left
pub results_stored : (values : List Float) → good (results_fault values) ≡ true → good (values_fault values) ≡ true
unfolding results_fault result_fault values_fault
results_stored values h =
    ap good (orders.none_good (value_fault values) 0 (length values)
    (λ j l m.
    value_good values j
    (not_false (finite (get_or values j nan))
    (orders.row_good (not (finite (get_or values j nan))) 11 0 j (orders.all_passed (λ i. result_fault i (get_or values i nan)) 0 (length values) h j l m)))))
    ∙ orders.good-no_fault

computed-lowered : (k : ℕ) (x : Float) → lowered k (computed x) ≡ computed x
unfolding computed result_fault
computed-lowered k x =
    low.lowered_then k (result_fault 0 x) (result_fault 0 x) (answered x) (answered x) (low.lowered-when k (not (finite x)) (refusal 12 0 0) (refusal 12 0 0) (low.lowered_low k 12 0 0 (omega arith)))
    (λ g. low.lowered-answered k x)

-- ---- for any rule whose locations lie on their axes
module _ (rule : List Float → Float → AxisLocation) (fits : (xs : List Float) (q : Float) → Axis xs → finite q ≡ true → upper_of (rule xs q) < length xs)
    {s : Shape} {nodes values : List Float} {p : Float} (cut : Cut s nodes values 0 p (linear_values rule s nodes values p)) where
  abbrev cs : List ℕ
  cs = counts_of s

  abbrev left : List ℕ
  left = without 0 (counts_of s)

  abbrev nodes' : List Float
  nodes' = nodes_without 0 (counts_of s) nodes

  abbrev values' : List Float
  values' = linear_values rule s nodes values p

  abbrev grid : List (List Float)
  grid = axes_of (counts_of s) nodes

  module _ (ps : List Float) (n : length ps ≡ length left) (g : (a : ℕ) → a < length ps → finite (get_or ps a nan) ≡ true) where
    -- the first location, then the slice's
    locations_all : locations rule grid (insert 0 p ps) ≡ rule (axis_of s nodes 0) p ∷ locations rule (axes_of left nodes') ps
    unfolding locations
    locations_all =
        ap (λ (m : ℕ). tabulate m (λ a. rule (get_or grid a []) (get_or (insert 0 p ps) a nan))) (length-axes cs nodes ∙ length_without 0 cs (over.in_cs cut))
        ∙ tabulate-insert (length left) 0 (λ a. rule (get_or grid a []) (get_or (insert 0 p ps) a nan)) (λ a. rule (get_or (axes_of left nodes') a []) (get_or ps a nan)) (omega arith)
        (λ a l. absurd (omega arith))
        (λ a l m. ap₂ rule (sym (over.axis_above cut a l)) (get_d_insert_above 0 a p ps nan l (omega arith)))
        ∙ ap (λ (m : ℕ). rule (axis_of s nodes 0) p ∷ tabulate m (λ a. rule (get_or (axes_of left nodes') a []) (get_or ps a nan))) (sym (length-axes left nodes'))

    within_left : AllWithin (locations rule (axes_of left nodes') ps) left
    within_left =
        locations_within rule left nodes' ps (over.flat_left cut)
        (λ a l. fits (get_or (axes_of left nodes') a []) (get_or ps a nan) (over.axis_left cut a l) (g a (omega (arith, n, l))))

    same_value : interpolated rule cs nodes values (insert 0 p ps) ≡ interpolated rule left nodes' values' ps
    unfolding interpolated linear_values
    same_value =
        ap (λ (ls : List AxisLocation). linear ls (table cs values)) locations_all
        ∙ linear_same (locations rule (axes_of left nodes') ps) left (sliced (rule (axis_of s nodes 0) p) (table cs values)) (table left (along_first (rule (axis_of s nodes 0) p) cs values)) within_left
        (λ is w. sym (along_law (rule (axis_of s nodes 0) p) cs is values w))

  pub core_left : (ps : List Float) → lowered 0 (core s nodes (insert 0 p ps) (computed (interpolated rule (counts_of s) nodes values (insert 0 p ps))))
      ≡ core (shape_without s 0) (nodes_without 0 (counts_of s) nodes) ps (computed (interpolated rule (counts_of (shape_without s 0)) (nodes_without 0 (counts_of s) nodes) (linear_values rule s nodes values p) ps))
  core_left ps =
      over.core_left cut ps (computed (interpolated rule cs nodes values (insert 0 p ps))) (computed (interpolated rule left nodes' values' ps))
      (λ n g. computed-lowered 0 (interpolated rule cs nodes values (insert 0 p ps)) ∙ ap computed (same_value ps n g))
      ∙ ap (λ (ms : List ℕ). core (shape_without s 0) nodes' ps (computed (interpolated rule ms nodes' values' ps))) (sym (over.counts_left cut))

-- ---- what a lookup comes to on an accepted table
module _ {s : Shape} {nodes values : List Float} (t : Accepted s nodes values) (readings : List Float) where
  linear_core : linear_answer s nodes values readings ≡ core s nodes readings (computed (interpolated axis_location (counts_of s) nodes values readings))
  unfolding linear_answer
  linear_core = ap (λ (f : Fault). f then computed (interpolated axis_location (counts_of s) nodes values readings)) (lookup_asked t readings)

  uniform_core : good (axes_uniform_fault (counts_of s) nodes) ≡ true → linear_uniform_answer s nodes values readings ≡ core s nodes readings (computed (interpolated uniform_location (counts_of s) nodes values readings))
  unfolding linear_uniform_answer
  uniform_core u = ap (λ (f : Fault). f then computed (interpolated uniform_location (counts_of s) nodes values readings)) (uniform_asked t readings u)

-- ---- a slice that was made
cut_of : (rule : List Float → Float → AxisLocation) (s : Shape) (nodes values : List Float) (p : Float) (room : ℕ)
    → good (linear_front s nodes values 0) ≡ true → good (linear_rest rule s nodes values 0 p room) ≡ true → Cut s nodes values 0 p (linear_values rule s nodes values p)
unfolding linear_rest linear_values
cut_of rule s nodes values p room h r =
    let point : good (point_fault s nodes 0 p room) ≡ true = orders.first-passed _ _ r in
    record {
      ready = linear_ready s nodes values 0 h;
      whole = front_accepted (linear_fronted s nodes values 0 h);
      finite_point = (point_taken s nodes 0 p room point).finite_point;
      in_range = point_range s nodes 0 p room point;
      long = length-along (rule (axis_of s nodes 0) p) (counts_of s) values;
      stored = results_stored (linear_values rule s nodes values p) (orders.second_passed (point_fault s nodes 0 p room) (results_fault (linear_values rule s nodes values p)) r);
    }

-- ---- demand 3 for Linear, on the first axis
module _ (s : Shape) (nodes values : List Float) (p : Float) (room : ℕ) (h : good (linear_slice_fault s nodes values 0 p room) ≡ true) where
  pub linear_cut : Cut s nodes values 0 p (linear_values axis_location s nodes values p)
  unfolding linear_slice_fault
  linear_cut = cut_of axis_location s nodes values p room (orders.first-passed _ _ h) (orders.second_passed _ _ h)

  pub linear_slice_accepted : Accepted (shape_without s 0) (nodes_without 0 (counts_of s) nodes) (linear_values axis_location s nodes values p)
  linear_slice_accepted = over.slice_accepted linear_cut

  pub linear_slice_law : (ps : List Float) → linear_answer (shape_without s 0) (nodes_without 0 (counts_of s) nodes) (linear_values axis_location s nodes values p) ps ≡ lowered 0 (linear_answer s nodes values (insert 0 p ps))
  linear_slice_law ps =
      linear_core linear_slice_accepted ps
      ∙ sym (ap (lowered 0) (linear_core linear_cut.whole (insert 0 p ps)) ∙ core_left axis_location (λ xs q ax f. location_fits xs q ax f false) linear_cut ps)

-- ---- 8 asks the same of an axis, whatever its number
uniform_any : (a b : ℕ) (xs : List Float) → good (default_fault a xs) ≡ true → good (default_fault b xs) ≡ true
unfolding uniform_fault gap_fault
uniform_any a b xs h =
    ap good (orders.none_good (gap_fault b xs (default_tolerance xs)) 1 (length xs - 2)
    (λ i l m.
    orders.passed-no_fault _
    (orders.row_passed (lt (default_tolerance xs) (apart (gap xs i) (gap xs 0))) 7 b i
    (orders.row_good (lt (default_tolerance xs) (apart (gap xs i) (gap xs 0))) 7 a i (orders.all_passed (gap_fault a xs (default_tolerance xs)) 1 (length xs - 2) h i l m)))))
    ∙ orders.good-no_fault

-- ---- demand 3 for LinearUniform, on the first axis
module _ (s : Shape) (nodes values : List Float) (p : Float) (room : ℕ) (h : good (linear_uniform_slice_fault s nodes values 0 p room) ≡ true) where
  front : good (linear_uniform_front s nodes values 0) ≡ true
  unfolding linear_uniform_slice_fault
  front = orders.first-passed _ _ h

  pub linear_uniform_cut : Cut s nodes values 0 p (linear_values uniform_location s nodes values p)
  unfolding linear_uniform_slice_fault
  linear_uniform_cut = cut_of uniform_location s nodes values p room (uniform_linear s nodes values 0 front) (orders.second_passed _ _ h)

  pub linear_uniform_slice_accepted : Accepted (shape_without s 0) (nodes_without 0 (counts_of s) nodes) (linear_values uniform_location s nodes values p)
  linear_uniform_slice_accepted = over.slice_accepted linear_uniform_cut

  whole_uniform : good (axes_uniform_fault (counts_of s) nodes) ≡ true
  unfolding linear_uniform_front
  whole_uniform = orders.second_passed _ _ front

  -- and the slice is uniform too
  pub left_uniform : good (axes_uniform_fault (counts_of (shape_without s 0)) (nodes_without 0 (counts_of s) nodes)) ≡ true
  left_uniform = subst (λ (ms : List ℕ). good (axes_uniform_fault ms nodes') ≡ true) (sym (over.counts_left linear_uniform_cut)) by
    where
      nodes' : List Float
      nodes' = nodes_without 0 (counts_of s) nodes

      axis : (a : ℕ) → a < length (counts_of s) → good (default_fault a (get_or (axes_of (counts_of s) nodes) a [])) ≡ true
      axis a l = unfold axes_uniform_fault in orders.all_passed (λ b. default_fault b (get_or (axes_of (counts_of s) nodes) b [])) 0 (length (counts_of s)) whole_uniform a (omega arith) (omega arith)

      each : (a : ℕ) → 0 ≤ a → a < 0 + length (without 0 (counts_of s)) → good (default_fault a (get_or (axes_of (without 0 (counts_of s)) nodes') a [])) ≡ true
      each a l m =
          subst (λ (xs : List Float). good (default_fault a xs) ≡ true) (sym (over.axis_above linear_uniform_cut a l))
          (uniform_any (suc a) a (get_or (axes_of (counts_of s) nodes) (suc a) []) (axis (suc a) (omega (arith, m, length_without 0 (counts_of s) (over.in_cs linear_uniform_cut)))))

      by : good (axes_uniform_fault (without 0 (counts_of s)) nodes') ≡ true
      by = unfold axes_uniform_fault in (ap good (orders.none_good (λ a. default_fault a (get_or (axes_of (without 0 (counts_of s)) nodes') a [])) 0 (length (without 0 (counts_of s))) each) ∙ orders.good-no_fault)

  pub linear_uniform_slice_law : (ps : List Float) → linear_uniform_answer (shape_without s 0) (nodes_without 0 (counts_of s) nodes) (linear_values uniform_location s nodes values p) ps ≡ lowered 0 (linear_uniform_answer s nodes values (insert 0 p ps))
  linear_uniform_slice_law ps =
      uniform_core linear_uniform_slice_accepted ps left_uniform
      ∙ sym (ap (lowered 0) (uniform_core linear_uniform_cut.whole (insert 0 p ps) whole_uniform) ∙ core_left uniform_location (λ xs q ax f. location_fits xs q ax f true) linear_uniform_cut ps)

-- ---- no other axis is ever made
pub linear_first_only : (s : Shape) (nodes values : List Float) (axis : ℕ) (p : Float) (room : ℕ) → good (linear_slice_fault s nodes values axis p room) ≡ true → axis ≡ 0
unfolding linear_slice_fault
linear_first_only s nodes values axis p room h = linear-first s nodes values axis (orders.first-passed _ _ h)

pub linear_uniform_first_only : (s : Shape) (nodes values : List Float) (axis : ℕ) (p : Float) (room : ℕ) → good (linear_uniform_slice_fault s nodes values axis p room) ≡ true → axis ≡ 0
unfolding linear_uniform_slice_fault
linear_uniform_first_only s nodes values axis p room h = linear-first s nodes values axis (uniform_linear s nodes values axis (orders.first-passed _ _ h))
