-- Demand 3, last part, for Nearest and Step: two slices on different axes commute. Assumes nothing.
use mathlib.Core.Path.{◌≡◌, refl, sym, ap, ap₂, ◌∙◌}
use mathlib.Core.Bool.{true}
use mathlib.Core.List.{List, []}
use Prim.Native.Nat.{ℕ, suc, ◌-◌, ◌≤◌, ◌<◌}
use native.Mathlib.Omega.{arith}
use lib.ListN.{length, get_or}
use lib.Ieee.{Float}
use lib.Ieee.Scale.{finite}
use Rattle.answer.specs.Faults.{good}
use Rattle.layout.specs.Shape.{counts_of, size}
use Rattle.layout.specs.Layout.{axes_of, tabulate, without, slice_values, nodes_without, axis_of}
use Rattle.checks.specs.Numbers.{length_fault, directions_fault, range_fault}
use Rattle.layout.specs.declared.Shape.{Shape}
use Rattle.layout.proofs.Removals.{without_comm, get_d_without, get_d_without_below, slices_comm, nodes_comm}
use Rattle.axis.specs.Picks.{nearest_rule, step_rule}
use Rattle.slices.specs.Slices.{shape_without, rule_slice}
use Rattle.orders.specs.Orders.{nearest_slice_fault, step_slice_fault}
use Rattle.ninterp.proofs.Demands.{Accepted}
use Rattle.laws.proofs.Lowered as low
use Rattle.laws.proofs.SliceLaw as law
use Rattle.laws.proofs.Left as over
use Rattle.laws.proofs.SliceLaw.{Made}
use Rattle.laws.proofs.Makes.{nearest_slice_made, step_slice_made}

-- ---- the second slice, after one on axis k
module _ {s : Shape} {nodes values : List Float} {k : ℕ} {p : Float} {rule : ℕ → List Float → Float → ℕ} (made : Made s nodes values k p rule) where
  abbrev s' : Shape
  s' = shape_without s k

  abbrev nodes' : List Float
  nodes' = nodes_without k (counts_of s) nodes

  abbrev values' : List Float
  values' = rule_slice rule s nodes values k p

  counts_left : counts_of s' ≡ without k (counts_of s)
  counts_left = over.counts_left (law.cut made)

  same_axes : axes_of (counts_of s') nodes' ≡ axes_of (without k (counts_of s)) nodes'
  same_axes = ap (λ (ms : List ℕ). axes_of ms nodes') counts_left

  axis_above : (m : ℕ) → k ≤ m → axis_of s' nodes' m ≡ axis_of s nodes (suc m)
  axis_above m h = ap (λ (xss : List (List Float)). get_or xss m []) same_axes ∙ over.axis_above (law.cut made) m h

  axis_below : (m : ℕ) → m < k → axis_of s' nodes' m ≡ axis_of s nodes m
  axis_below m h = ap (λ (xss : List (List Float)). get_or xss m []) same_axes ∙ over.axis_below (law.cut made) m h

  -- over the whole table's counts
  second : (rule' : ℕ → List Float → Float → ℕ) (m : ℕ) (q : Float) (r : List Float → Float → ℕ) (xs : List Float) → rule' m ≡ r → axis_of s' nodes' m ≡ xs
      → rule_slice rule' s' nodes' values' m q ≡ slice_values m (r xs q) (without k (counts_of s)) (slice_values k (rule k (axis_of s nodes k) p) (counts_of s) values)
  unfolding rule_slice
  second rule' m q r xs f e =
      ap₂ (λ (i : ℕ) (ms : List ℕ). slice_values m i ms (slice_values k (rule k (axis_of s nodes k) p) (counts_of s) values)) (ap₂ (λ (g : List Float → Float → ℕ) (ys : List Float). g ys q) f e) counts_left

  -- it is made: its table is accepted, its reading in range, and there is room
  module _ (m : ℕ) (q : Float) (room : ℕ) (three : 3 ≤ s.axes) (there : m < s.axes - 1) (fq : finite q ≡ true) (r : good (range_fault m (axis_of s' nodes' m) q) ≡ true) (w : size (without m (counts_of s')) ≤ room) where
    left_over : Accepted s' nodes' values'
    unfolding rule_slice
    left_over = law.slice_accepted made

    many : 1 < s'.axes
    unfolding shape_without
    many = omega (arith, three)

    within : m < s'.axes
    unfolding shape_without
    within = there

    nearest_again : good (nearest_slice_fault s' nodes' values' m q room) ≡ true
    nearest_again = nearest_slice_made s' nodes' values' left_over many q room fq m within r w

    step_again : (ds : List ℕ) → good (length_fault 3 s'.axes (length ds)) ≡ true → good (directions_fault ds) ≡ true → good (step_slice_fault s' nodes' values' ds m q room) ≡ true
    step_again ds l d = step_slice_made s' nodes' values' left_over many q room fq m within r w ds l d

-- ---- axis k first, then the axis that was suc m; or suc m first, then k
module _ {s : Shape} {nodes values : List Float} {k m : ℕ} (km : k ≤ m) {p q : Float} {rule : ℕ → List Float → Float → ℕ} (one : Made s nodes values k p rule) (other : Made s nodes values (suc m) q rule) where
  pub commute : (rule_k rule_m : ℕ → List Float → Float → ℕ) → rule_k m ≡ rule (suc m) → rule_m k ≡ rule k
      → rule_slice rule_k (shape_without s k) (nodes_without k (counts_of s) nodes) (rule_slice rule s nodes values k p) m q
      ≡ rule_slice rule_m (shape_without s (suc m)) (nodes_without (suc m) (counts_of s) nodes) (rule_slice rule s nodes values (suc m) q) k p
  commute rule_k rule_m above below =
      second one rule_k m q (rule (suc m)) (axis_of s nodes (suc m)) above (axis_above one m km)
      ∙ slices_comm k m (rule k (axis_of s nodes k) p) (rule (suc m) (axis_of s nodes (suc m)) q) (counts_of s) values km (omega (arith, other.ready.count, other.ready.within)) one.index_in other.index_in
      ∙ sym (second other rule_m k p (rule k) (axis_of s nodes k) below (axis_below other k (omega arith)))

  -- the shape and the nodes that are left are the same too
  pub counts_commute : without m (counts_of (shape_without s k)) ≡ without k (counts_of (shape_without s (suc m)))
  counts_commute = ap (without m) (counts_left one) ∙ without_comm k m (counts_of s) km ∙ sym (ap (without k) (counts_left other))

  pub shapes_commute : shape_without (shape_without s k) m ≡ shape_without (shape_without s (suc m)) k
  unfolding shape_without
  shapes_commute = ap (λ (ns : List ℕ). record { axes = s.axes - 1 - 1; counts = tabulate 4 (λ a. get_or ns a 0) }) counts_commute

  pub nodes_commute : nodes_without m (counts_of (shape_without s k)) (nodes_without k (counts_of s) nodes) ≡ nodes_without k (counts_of (shape_without s (suc m))) (nodes_without (suc m) (counts_of s) nodes)
  nodes_commute =
      ap (λ (ns : List ℕ). nodes_without m ns (nodes_without k (counts_of s) nodes)) (counts_left one)
      ∙ nodes_comm k m (counts_of s) nodes km one.ready.grid.flat
      ∙ sym (ap (λ (ns : List ℕ). nodes_without k ns (nodes_without (suc m) (counts_of s) nodes)) (counts_left other))

  pub range_after : good (range_fault m (axis_of (shape_without s k) (nodes_without k (counts_of s) nodes) m) q) ≡ true
  range_after =
      ap (λ (xs : List Float). good (range_fault m xs q)) (axis_above one m km)
      ∙ ap good (sym (over.range_moves k m (axis_of s nodes (suc m)) q km)) ∙ low.lowered-good k (range_fault (suc m) (axis_of s nodes (suc m)) q) ∙ other.in_range

  pub range_before : good (range_fault k (axis_of (shape_without s (suc m)) (nodes_without (suc m) (counts_of s) nodes) k) p) ≡ true
  range_before = ap (λ (xs : List Float). good (range_fault k xs p)) (axis_below other k (omega arith)) ∙ one.in_range

  pub there_m : m < s.axes - 1
  there_m = omega (arith, other.ready.within)

  pub there_k : k < s.axes - 1
  there_k = omega (arith, other.ready.within)

-- ---- for Nearest
module _ (s : Shape) (nodes values : List Float) (k m : ℕ) (km : k ≤ m) (p q : Float) (room room' : ℕ)
    (h : good (nearest_slice_fault s nodes values k p room) ≡ true) (h' : good (nearest_slice_fault s nodes values (suc m) q room') ≡ true) where
  one : Made s nodes values k p nearest_rule
  one = law.nearest_made s nodes values k p room h

  other : Made s nodes values (suc m) q nearest_rule
  other = law.nearest_made s nodes values (suc m) q room' h'

  pub nearest_slices_commute : rule_slice nearest_rule (shape_without s k) (nodes_without k (counts_of s) nodes) (rule_slice nearest_rule s nodes values k p) m q
      ≡ rule_slice nearest_rule (shape_without s (suc m)) (nodes_without (suc m) (counts_of s) nodes) (rule_slice nearest_rule s nodes values (suc m) q) k p
  nearest_slices_commute = commute km one other nearest_rule nearest_rule refl refl

  -- with three or four axes, after either slice the other is made, given room
  pub nearest_second_made : 3 ≤ s.axes → (again : ℕ)
      → (size (without m (counts_of (shape_without s k))) ≤ again → good (nearest_slice_fault (shape_without s k) (nodes_without k (counts_of s) nodes) (rule_slice nearest_rule s nodes values k p) m q again) ≡ true)
      × (size (without k (counts_of (shape_without s (suc m)))) ≤ again → good (nearest_slice_fault (shape_without s (suc m)) (nodes_without (suc m) (counts_of s) nodes) (rule_slice nearest_rule s nodes values (suc m) q) k p again) ≡ true)
  nearest_second_made three again = (
    nearest_again one m q again three (there_m km one other) other.finite_point (range_after km one other),
    nearest_again other k p again three (there_k km one other) one.finite_point (range_before km one other),
  )

-- ---- for Step, each second slice with the directions of the axes that are left
module _ (s : Shape) (nodes values : List Float) (directions : List ℕ) (k m : ℕ) (km : k ≤ m) (p q : Float) (room room' : ℕ)
    (h : good (step_slice_fault s nodes values directions k p room) ≡ true) (h' : good (step_slice_fault s nodes values directions (suc m) q room') ≡ true) where
  step-one : Made s nodes values k p (step_rule directions)
  step-one = law.step_made s nodes values directions k p room h

  step_other : Made s nodes values (suc m) q (step_rule directions)
  step_other = law.step_made s nodes values directions (suc m) q room' h'

  pub step_slices_commute : rule_slice (step_rule (without k directions)) (shape_without s k) (nodes_without k (counts_of s) nodes) (rule_slice (step_rule directions) s nodes values k p) m q
      ≡ rule_slice (step_rule (without (suc m) directions)) (shape_without s (suc m)) (nodes_without (suc m) (counts_of s) nodes) (rule_slice (step_rule directions) s nodes values (suc m) q) k p
  step_slices_commute =
      commute km step-one step_other (step_rule (without k directions)) (step_rule (without (suc m) directions))
      (law.step_same (get_d_without k m directions 0 km)) (law.step_same (get_d_without_below k (suc m) directions 0 (omega arith)))

  pub step_second_made : 3 ≤ s.axes → (again : ℕ)
      → (size (without m (counts_of (shape_without s k))) ≤ again → good (step_slice_fault (shape_without s k) (nodes_without k (counts_of s) nodes) (rule_slice (step_rule directions) s nodes values k p) (without k directions) m q again) ≡ true)
      × (size (without k (counts_of (shape_without s (suc m)))) ≤ again → good (step_slice_fault (shape_without s (suc m)) (nodes_without (suc m) (counts_of s) nodes) (rule_slice (step_rule directions) s nodes values (suc m) q) (without (suc m) directions) k p again) ≡ true)
  step_second_made three again = (
    λ w. step_again step-one m q again three (there_m km step-one step_other) step_other.finite_point (range_after km step-one step_other) w
        (without k directions) (law.left_lent s nodes values directions k p room h) (law.left_good s nodes values directions k p room h),
    λ w. step_again step_other k p again three (there_k km step-one step_other) step-one.finite_point (range_before km step-one step_other) w
        (without (suc m) directions) (law.left_lent s nodes values directions (suc m) q room' h') (law.left_good s nodes values directions (suc m) q room' h'),
  )
