-- A table of the right sizes, with good axes and finite values, passes 1 to 7. Assumes nothing.
use mathlib.Core.Path.{◌≡◌, refl, sym, ap, ◌∙◌, subst}
use mathlib.Core.Bool.{true}
use mathlib.Core.List.{List, []}
use Prim.Native.Nat.{ℕ, ◌+◌, ◌≤◌, ◌<◌}
use native.Mathlib.Omega.{arith}
use lib.ListN.{length, get_or}
use lib.Seq.{get_or-take}
use lib.Ieee.{Float}
use Rattle.answer.specs.Faults.{no_fault, good}
use Rattle.answer.proofs.Orders as orders
use Rattle.checks.specs.Passed.{Axis}
use Rattle.checks.specs.Numbers.{nodes_fault, count_fault, counts_fault, axes_fault, values_fault}
use Rattle.checks.specs.Shapes.{shape_fault, frame_fault}
use Rattle.checks.proofs.counts.Rows.{axes_right, count-fine}
use Rattle.checks.proofs.lent.Rows.{length_same}
use Rattle.checks.proofs.nodes.Rows.{nodes_fine}
use Rattle.checks.proofs.shapes.Frames.{product_fine}
use Rattle.checks.proofs.table.Grids.{length-axis}
use Rattle.layout.specs.Shape.{counts_of, size, total}
use Rattle.layout.specs.Layout.{axes_of, axis_of}
use Rattle.layout.specs.declared.Shape.{Shape}
use Rattle.ninterp.proofs.Demands.{Accepted}

module _ (s : Shape) (nodes values : List Float) (counted : length (counts_of s) ≡ s.axes) (low : 1 ≤ s.axes) (high : s.axes ≤ 4)
    (flat : length nodes ≡ total (counts_of s)) (small : size (counts_of s) ≤ 4096) (stored : length values ≡ size (counts_of s))
    (rises : (a : ℕ) → a < s.axes → Axis (axis_of s nodes a)) (finites : good (values_fault values) ≡ true) where
  -- each count is that of its axis
  count_is : (a : ℕ) → a < s.axes → get_or s.counts a 0 ≡ length (axis_of s nodes a)
  count_is a l = sym (get_or-take s.axes s.counts a 0 l) ∙ sym (length-axis (counts_of s) nodes flat a (omega (arith, counted)))

  shape_good : good (shape_fault s) ≡ true
  shape_good = orders.passed-no_fault _ (product_fine s (axes_right s.axes low high) counts-good small)
    where
      each : (a : ℕ) → 0 ≤ a → a < 0 + s.axes → good (count_fault a (get_or s.counts a 0)) ≡ true
      each a l m =
          let h : a < s.axes = omega (arith, m) in
          let ax : Axis (axis_of s nodes a) = rises a h in
          subst (λ (x : ℕ). good (count_fault a x) ≡ true) (sym (count_is a h)) (orders.passed-no_fault (count_fault a (length (axis_of s nodes a))) (count-fine a (length (axis_of s nodes a)) ax.enough ax.few))

      counts-good : no_fault ≡ counts_fault s
      counts-good = sym (orders.none_good (λ a. count_fault a (get_or s.counts a 0)) 0 s.axes each)

  frame_good : good (frame_fault s (length nodes) (length values)) ≡ true
  unfolding frame_fault
  frame_good =
      orders.both_passed _ _ shape_good
      (orders.both_passed _ _ (orders.passed-no_fault _ (length_same 0 (total (counts_of s)) (length nodes) flat))
      (orders.passed-no_fault _ (length_same 1 (size (counts_of s)) (length values) stored)))

  axes-good : good (axes_fault (counts_of s) nodes) ≡ true
  unfolding axes_fault
  axes-good = ap good (orders.none_good (λ a. nodes_fault a (get_or (axes_of (counts_of s) nodes) a [])) 0 (length (counts_of s)) each) ∙ orders.good-no_fault
    where
      each : (a : ℕ) → 0 ≤ a → a < 0 + length (counts_of s) → good (nodes_fault a (get_or (axes_of (counts_of s) nodes) a [])) ≡ true
      each a l m = orders.passed-no_fault _ (sym (nodes_fine a (get_or (axes_of (counts_of s) nodes) a []) (rises a (omega (arith, m, counted)))))

  pub accepts : Accepted s nodes values
  accepts = record { frame = frame_good; axes = axes-good; stored = finites }
