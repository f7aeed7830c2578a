-- What is known of a table and a reading that were judged for a lookup by Nearest or Step, and the value that is then answered. Assumes nothing.
use mathlib.Core.Path.{◌≡◌, ap, ◌∙◌}
use mathlib.Core.Bool.{true}
use mathlib.Core.List.{List, []}
use Prim.Native.Nat.{ℕ, ◌≤◌, ◌<◌, min}
use native.Mathlib.Omega.{arith}
use lib.ListN.{length, get_or, length-take}
use lib.Ieee.{Float, nan}
use Rattle.answer.specs.Faults.{Fault, good, ◌or◌}
use Rattle.answer.proofs.Orders as orders
use Rattle.checks.specs.Numbers.{direction_fault, length_fault, axes_fault, ranges_fault, values_fault, directions_fault, readings_fault, axes_uniform_fault}
use Rattle.checks.proofs.lent.Rows.{direction_passed, length-passed}
use Rattle.layout.specs.Shape.{counts_of}
use Rattle.layout.specs.Layout.{axes_of, place, table}
use Rattle.checks.specs.Shapes.{frame_fault}
use Rattle.layout.specs.declared.Shape.{Shape}
use Rattle.layout.proofs.Walks.{length-axes}
use Rattle.checks.proofs.shapes.Frames.{shape_some, shape_four, shape_long}
use Rattle.layout.proofs.Layouts.{tabulate_same}
use Rattle.checks.proofs.table.Grids.{frame_shape, frame_values, grid_of}
use Rattle.checks.proofs.lists.Rows.{readings_finite}
use Rattle.axis.specs.Steps.{step_index}
use Rattle.orders.specs.Orders.{lookup_fault, step_fault, linear_uniform_fault}
use Rattle.axis.specs.Picks.{nearest_rule, step_rule}
use Rattle.axis.specs.declared.picks.Pick.{Pick}
use Rattle.axis.specs.declared.picks.Pick.TheVariants.{Nearest}
use Rattle.axis.specs.Scaffolding.{code_of, pick_index}
use Rattle.axis.proofs.picks.Picks.{is_step, is_nearest}
use Rattle.ninterp.specs.Tables.{indices, picked}
use Rattle.ninterp.specs.Scaffolding.{LookupJudged, pick_by}

-- ---- a judged table and reading
module _ (s : Shape) (nodes values readings : List Float) where
  abbrev frame : Fault
  frame = frame_fault s (length nodes) (length values)

  abbrev reading : Fault
  reading = length_fault 2 s.axes (length readings)

  abbrev nodes_part : Fault
  nodes_part = axes_fault (counts_of s) nodes

  abbrev point_part : Fault
  point_part = readings_fault readings or ranges_fault (counts_of s) nodes readings

  pub judged : good frame ≡ true → good reading ≡ true → good nodes_part ≡ true → good point_part ≡ true → LookupJudged s nodes values readings
  judged f r x p =
      let n : length readings ≡ s.axes = length-passed 2 s.axes (length readings) r in
      record {
        readable = record {
          grid = grid_of s nodes values f x;
          four = shape_four s (frame_shape s nodes values f);
          long = shape_long s (frame_shape s nodes values f);
          read = n;
          finites = λ a l. readings_finite readings (orders.first-passed (readings_fault readings) (ranges_fault (counts_of s) nodes readings) p) a (omega arith);
        };
        some = shape_some s (frame_shape s nodes values f);
        stored = frame_values s nodes values f;
      }

  pub lookup_judged_lem : good (lookup_fault s nodes values readings) ≡ true → LookupJudged s nodes values readings
  unfolding lookup_fault
  lookup_judged_lem h = judged (orders.first-passed frame (reading or after_reading) h) (orders.first-passed reading after_reading h1) (orders.first-passed nodes_part (values_fault values or point_part) h2) (orders.second_passed (values_fault values) point_part (orders.second_passed nodes_part (values_fault values or point_part) h2))
    where
      after_reading : Fault
      after_reading = nodes_part or values_fault values or point_part

      h1 : good (reading or after_reading) ≡ true
      h1 = orders.second_passed frame (reading or after_reading) h

      h2 : good (nodes_part or values_fault values or point_part) ≡ true
      h2 = orders.second_passed reading after_reading h1

  module _ (h : good (linear_uniform_fault s nodes values readings) ≡ true) where
    abbrev after_values : Fault
    after_values = axes_uniform_fault (counts_of s) nodes or point_part

    u1 : good (reading or nodes_part or values_fault values or after_values) ≡ true
    unfolding linear_uniform_fault
    u1 = orders.second_passed frame (reading or nodes_part or values_fault values or after_values) h

    u2 : good (nodes_part or values_fault values or after_values) ≡ true
    u2 = orders.second_passed reading (nodes_part or values_fault values or after_values) u1

    u3 : good after_values ≡ true
    u3 = orders.second_passed (values_fault values) after_values (orders.second_passed nodes_part (values_fault values or after_values) u2)

    pub linear_uniform_judged : LookupJudged s nodes values readings
    unfolding linear_uniform_fault
    linear_uniform_judged =
        judged (orders.first-passed frame (reading or nodes_part or values_fault values or after_values) h) (orders.first-passed reading (nodes_part or values_fault values or after_values) u1)
        (orders.first-passed nodes_part (values_fault values or after_values) u2)
        (orders.second_passed (axes_uniform_fault (counts_of s) nodes) point_part u3)

  module _ (directions : List ℕ) (h : good (step_fault s nodes values readings directions) ≡ true) where
    abbrev lent : Fault
    lent = length_fault 3 s.axes (length directions)

    abbrev tail : Fault
    tail = directions_fault directions or point_part

    abbrev after_lent : Fault
    after_lent = nodes_part or values_fault values or tail

    h1 : good (reading or lent or after_lent) ≡ true
    unfolding step_fault
    h1 = orders.second_passed frame (reading or lent or after_lent) h

    h2 : good (lent or after_lent) ≡ true
    h2 = orders.second_passed reading (lent or after_lent) h1

    h3 : good after_lent ≡ true
    h3 = orders.second_passed lent after_lent h2

    h4 : good tail ≡ true
    h4 = orders.second_passed (values_fault values) tail (orders.second_passed nodes_part (values_fault values or tail) h3)

    pub step_judged : LookupJudged s nodes values readings
    unfolding step_fault
    step_judged =
        judged (orders.first-passed frame (reading or lent or after_lent) h) (orders.first-passed reading (lent or after_lent) h1) (orders.first-passed nodes_part (values_fault values or tail) h3)
        (orders.second_passed (directions_fault directions) point_part h4)

    pub step_lent : length directions ≡ s.axes
    step_lent = length-passed 3 s.axes (length directions) (orders.first-passed lent after_lent h2)

    pub step_directions : (a : ℕ) → a < s.axes → get_or directions a 0 < 2
    unfolding directions_fault
    step_directions a l =
        direction_passed a (get_or directions a 0)
        (orders.all_passed (λ b. direction_fault b (get_or directions b 0)) 0 (length directions) (orders.first-passed (directions_fault directions) point_part h4) a (omega arith) (omega (arith, step_lent)))

-- ---- the value there
pub stored_at : (rule : ℕ → List Float → Float → ℕ) (counts : List ℕ) (nodes values readings : List Float) (at : ℕ)
    → at ≡ place counts (indices rule (axes_of counts nodes) readings) → get_or values at nan ≡ picked rule counts nodes values readings
unfolding picked table
stored_at rule counts nodes values readings at e = ap (λ (k : ℕ). get_or values k nan) e

module _ (counts : List ℕ) (nodes values readings : List Float) where
  picked_same : (f g : ℕ → List Float → Float → ℕ) → ((a : ℕ) → a < length counts → f a (get_or (axes_of counts nodes) a []) (get_or readings a nan) ≡ g a (get_or (axes_of counts nodes) a []) (get_or readings a nan))
      → picked f counts nodes values readings ≡ picked g counts nodes values readings
  unfolding picked indices
  picked_same f g h =
      ap (table counts values)
      (tabulate_same (length (axes_of counts nodes)) (λ a. f a (get_or (axes_of counts nodes) a []) (get_or readings a nan)) (λ a. g a (get_or (axes_of counts nodes) a []) (get_or readings a nan))
      (λ a l. h a (omega (arith, length-axes counts nodes))))

  pub picks_nearest : (code : ℕ → ℕ) → ((a : ℕ) → a < length counts → 2 ≤ code a) → picked (λ a. pick_index (code a)) counts nodes values readings ≡ picked nearest_rule counts nodes values readings
  picks_nearest code h = picked_same (λ a. pick_index (code a)) nearest_rule (λ a l. is_nearest (code a) (get_or (axes_of counts nodes) a []) (get_or readings a nan) (h a l))

  pub picks_step : (code : ℕ → ℕ) (directions : List ℕ) → ((a : ℕ) → a < length counts → (code a ≡ get_or directions a 0) × (code a < 2))
      → picked (λ a. pick_index (code a)) counts nodes values readings ≡ picked (step_rule directions) counts nodes values readings
  picks_step code directions h =
      picked_same (λ a. pick_index (code a)) (step_rule directions)
      (λ a l.
      is_step (code a) (get_or (axes_of counts nodes) a []) (get_or readings a nan) (h a l).1
      ∙ ap (λ (d : ℕ). step_index d (get_or (axes_of counts nodes) a []) (get_or readings a nan)) (h a l).0)

-- ---- by the picks that a closure gave
module _ (s : Shape) (nodes values readings : List Float) (picks : ℕ → Pick) where
  few : length (counts_of s) ≤ s.axes
  few = omega (arith, length-take s.axes s.counts)

  pub stored_same : (pick : Pick) → ((a : ℕ) → a < s.axes → picks a ≡ pick) → picked (pick_by picks) (counts_of s) nodes values readings ≡ picked (λ a. pick_index (code_of pick)) (counts_of s) nodes values readings
  stored_same pick h =
      picked_same (counts_of s) nodes values readings (pick_by picks) (λ a. pick_index (code_of pick))
      (λ a l. ap (λ (q : Pick). pick_index (code_of q) (get_or (axes_of (counts_of s) nodes) a []) (get_or readings a nan)) (h a (omega (arith, few))))

  pub stored_nearest : ((a : ℕ) → a < s.axes → picks a ≡ Nearest) → picked (pick_by picks) (counts_of s) nodes values readings ≡ picked nearest_rule (counts_of s) nodes values readings
  stored_nearest h = stored_same Nearest h ∙ picks_nearest (counts_of s) nodes values readings (λ _. 2) (λ a l. omega arith)

  pub stored_step : (directions : List ℕ) → good (step_fault s nodes values readings directions) ≡ true → ((a : ℕ) → a < s.axes → code_of (picks a) ≡ min (get_or directions a 0) 1)
      → picked (pick_by picks) (counts_of s) nodes values readings ≡ picked (step_rule directions) (counts_of s) nodes values readings
  stored_step directions h e =
      picks_step (counts_of s) nodes values readings (λ a. code_of (picks a)) directions
      (λ a l.
      let k : a < s.axes = omega (arith, few) in
      let two : get_or directions a 0 < 2 = step_directions s nodes values readings directions h a k in
      (omega (arith, e a k, two), omega (arith, e a k)))
