-- The rows that judge one axis, on plain values: where a row is passed, and what is known then. Assumes nothing.
use mathlib.Core.Path.{◌≡◌, sym, ap, ◌∙◌, subst}
use mathlib.Core.Bool.{true, not}
use mathlib.Core.List.{List}
use Prim.Native.Nat.{ℕ, ◌+◌, ◌-◌, ◌≤◌, ◌<◌}
use native.Mathlib.Omega.{arith}
use borrow.Author.Tests.{lt-ltb, ltb-true}
use lib.Dec.{ltb}
use lib.ListN.{length}
use lib.Ieee.{Float, binary64, lt, sub}
use lib.Ieee.Scale.{finite}
use Rattle.answer.specs.Faults.{Fault, refusal, no_fault, good, when}
use Rattle.answer.proofs.Orders as orders
use Rattle.answer.proofs.Tests.{not_false}
use Rattle.checks.specs.Numbers.{count_fault, finite_fault, rise_fault, node_fault, nodes_fault}
use Rattle.checks.proofs.counts.Rows.{count-fine, count_enough, count_few}
use Rattle.checks.proofs.numbers.Rows.{wild_passed, finite_fine, finite_passed}
use Rattle.checks.specs.Nodes.{node, gap}
use Rattle.checks.specs.Shapes.{axis_fault}
use Rattle.checks.specs.Passed.{Axis}

-- ---- 5, 6
module _ (axis i : ℕ) (before x : Float) where
  abbrev level : Fault
  level = when (not (lt before x)) (refusal 5 axis i)

  abbrev far : Fault
  far = when (not (finite (sub binary64 x before))) (refusal 6 axis i)

  rise_good : lt before x ≡ true → finite (sub binary64 x before) ≡ true → good (rise_fault axis i before x) ≡ true
  unfolding rise_fault
  rise_good h k =
      orders.both_passed level far
      (orders.good-when (not (lt before x)) (refusal 5 axis i) (ap not h))
      (orders.good-when (not (finite (sub binary64 x before))) (refusal 6 axis i) (ap not k))

  module _ (h : good (rise_fault axis i before x) ≡ true) where
    rise_above : lt before x ≡ true
    unfolding rise_fault
    rise_above = not_false (lt before x) (orders.row_good (not (lt before x)) 4 axis i (orders.first-passed level far h))

    rise_near : finite (sub binary64 x before) ≡ true
    unfolding rise_fault
    rise_near = wild_passed 5 axis i (sub binary64 x before) (orders.second_passed level far h)

-- ---- 4, 5, 6
module _ (axis : ℕ) (nodes : List Float) (i : ℕ) where
  abbrev wild : Fault
  wild = finite_fault axis i (node nodes i)

  abbrev rises : Fault
  rises = rise_fault axis i (node nodes (i - 1)) (node nodes i)

  node-good : finite (node nodes i) ≡ true → (0 < i → good rises ≡ true) → good (node_fault axis nodes i) ≡ true
  unfolding node_fault
  node-good f h =
      orders.both_passed wild (when (ltb 0 i) rises) (orders.passed-no_fault wild (finite_fine axis i (node nodes i) f))
      (orders.good_if (ltb 0 i) rises (λ e. h (ltb-true 0 i e)))

  module _ (h : good (node_fault axis nodes i) ≡ true) where
    node_finite : finite (node nodes i) ≡ true
    unfolding node_fault
    node_finite = finite_passed axis i (node nodes i) (orders.first-passed wild (when (ltb 0 i) rises) h)

    node_above : 0 < i → good rises ≡ true
    unfolding node_fault
    node_above k =
        sym (ap good (orders.when_true (ltb 0 i) rises (lt-ltb 0 i k))) ∙ orders.second_passed wild (when (ltb 0 i) rises) h

-- ---- a good axis
module _ (axis : ℕ) (nodes : List Float) (low : 2 ≤ length nodes) (high : length nodes ≤ 64) (h : good (nodes_fault axis nodes) ≡ true) where
  each : (i : ℕ) → i < length nodes → good (node_fault axis nodes i) ≡ true
  unfolding nodes_fault
  each i l = orders.all_passed (node_fault axis nodes) 0 (length nodes) h i (omega arith) (omega arith)

  over : (i : ℕ) → i + 1 < length nodes → good (rise_fault axis (i + 1) (node nodes (i + 1 - 1)) (node nodes (i + 1))) ≡ true
  over i l = node_above axis nodes (i + 1) (each (i + 1) l) (omega arith)

  back : (i : ℕ) → i + 1 - 1 ≡ i
  back i = omega arith

  pub nodes_axis : Axis nodes
  unfolding gap
  nodes_axis = record {
    enough = low;
    few = high;
    finites = λ i l. node_finite axis nodes i (each i l);
    rises = λ i l. subst (λ (j : ℕ). lt (node nodes j) (node nodes (i + 1)) ≡ true) (back i) (rise_above axis (i + 1) (node nodes (i + 1 - 1)) (node nodes (i + 1)) (over i l));
    gaps = λ i l. subst (λ (j : ℕ). finite (sub binary64 (node nodes (i + 1)) (node nodes j)) ≡ true) (back i) (rise_near axis (i + 1) (node nodes (i + 1 - 1)) (node nodes (i + 1)) (over i l));
  }

pub axis_of_lem : (nodes : List Float) → good (axis_fault nodes) ≡ true → Axis nodes
unfolding axis_fault
axis_of_lem nodes h =
    let c : good (count_fault 0 (length nodes)) ≡ true = orders.first-passed (count_fault 0 (length nodes)) (nodes_fault 0 nodes) h in
    nodes_axis 0 nodes (count_enough 0 (length nodes) c) (count_few 0 (length nodes) c) (orders.second_passed (count_fault 0 (length nodes)) (nodes_fault 0 nodes) h)

-- such an axis has no fault: the rows 2, 4, 5, 6 are passed exactly on good axes
module _ (axis : ℕ) (nodes : List Float) (ax : Axis nodes) where
  node-passed : (i : ℕ) → i < length nodes → good (node_fault axis nodes i) ≡ true
  unfolding gap
  node-passed i l = node-good axis nodes i (ax.finites i l) above
    where
      above : 0 < i → good (rise_fault axis i (node nodes (i - 1)) (node nodes i)) ≡ true
      above k =
          let m : i - 1 + 1 < length nodes = omega arith in
          let e : i - 1 + 1 ≡ i = omega arith in
          rise_good axis i (node nodes (i - 1)) (node nodes i)
          (subst (λ (j : ℕ). lt (node nodes (i - 1)) (node nodes j) ≡ true) e (ax.rises (i - 1) m))
          (subst (λ (j : ℕ). finite (sub binary64 (node nodes j) (node nodes (i - 1))) ≡ true) e (ax.gaps (i - 1) m))

  pub nodes_fine : nodes_fault axis nodes ≡ no_fault
  unfolding nodes_fault
  nodes_fine = orders.none_good (node_fault axis nodes) 0 (length nodes) (λ j l m. node-passed j (omega arith))

pub axis-fine : (nodes : List Float) → Axis nodes → axis_fault nodes ≡ no_fault
unfolding axis_fault
axis-fine nodes ax =
    orders.or_good (count_fault 0 (length nodes)) (nodes_fault 0 nodes) (orders.passed-no_fault (count_fault 0 (length nodes)) (count-fine 0 (length nodes) ax.enough ax.few))
    ∙ nodes_fine 0 nodes ax
