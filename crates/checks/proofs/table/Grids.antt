-- What is known of a table that was judged. Assumes nothing.
use mathlib.Core.Path.{◌≡◌, ◌∙◌}
use mathlib.Core.Bool.{true}
use mathlib.Core.List.{List, [], ◌∷◌}
use Prim.Native.Nat.{ℕ, zero, suc, ◌<◌}
use native.Mathlib.Omega.{arith}
use lib.ListN.{length, drop, get_or, length-drop}
use lib.Seq.{length-take-le, get_or-take}
use lib.Ieee.{Float}
use Rattle.answer.specs.Faults.{Fault, good, ◌or◌}
use Rattle.answer.proofs.Orders as orders
use Rattle.checks.specs.Numbers.{nodes_fault, length_fault, axes_fault}
use Rattle.checks.proofs.nodes.Rows.{nodes_axis}
use Rattle.layout.specs.Shape.{counts_of, size, total}
use Rattle.layout.specs.Layout.{axes_of}
use Rattle.checks.specs.Shapes.{shape_fault, frame_fault}
use Rattle.checks.specs.Scaffolding.{Grid}
use Rattle.layout.specs.declared.Shape.{Shape}
use Rattle.checks.proofs.shapes.Frames.{shape_four, shape_long, shape_enough, shape_few, shape_size}
use Rattle.checks.proofs.lent.Rows.{length-passed}

pub length-axis : {A : Type 0} (counts : List ℕ) (nodes : List A) → length nodes ≡ total counts → (a : ℕ) → a < length counts → length (get_or (axes_of counts nodes) a []) ≡ get_or counts a 0
unfolding axes_of total
length-axis [] nodes e a l = absurd (omega arith)
length-axis (n ∷ ns) nodes e zero l = length-take-le n nodes (omega arith)
length-axis (n ∷ ns) nodes e (suc a) l = length-axis ns (drop n nodes) (length-drop n nodes ∙ omega arith) a (omega arith)

module _ (s : Shape) (nodes values : List Float) where
  module _ (h : good (frame_fault s (length nodes) (length values)) ≡ true) where
    abbrev rest : Fault
    rest = length_fault 0 (total (counts_of s)) (length nodes) or length_fault 1 (size (counts_of s)) (length values)

    pub frame_shape : good (shape_fault s) ≡ true
    unfolding frame_fault
    frame_shape = orders.first-passed (shape_fault s) rest h

    lengths : good rest ≡ true
    unfolding frame_fault
    lengths = orders.second_passed (shape_fault s) rest h

    pub frame_nodes : length nodes ≡ total (counts_of s)
    frame_nodes = length-passed 0 (total (counts_of s)) (length nodes) (orders.first-passed (length_fault 0 (total (counts_of s)) (length nodes)) (length_fault 1 (size (counts_of s)) (length values)) lengths)

    pub frame_values : length values ≡ size (counts_of s)
    frame_values = length-passed 1 (size (counts_of s)) (length values) (orders.second_passed (length_fault 0 (total (counts_of s)) (length nodes)) (length_fault 1 (size (counts_of s)) (length values)) lengths)

    pub frame_axes : length (counts_of s) ≡ s.axes
    frame_axes = length-take-le s.axes s.counts (shape_long s frame_shape)

    count_at : (a : ℕ) → a < s.axes → get_or (counts_of s) a 0 ≡ get_or s.counts a 0
    count_at a l = get_or-take s.axes s.counts a 0 l

    pub grid_of : good (axes_fault (counts_of s) nodes) ≡ true → Grid (counts_of s) nodes
    unfolding axes_fault
    grid_of k = record {
      few = omega (arith, frame_axes, shape_four s frame_shape);
      flat = frame_nodes;
      small = shape_size s frame_shape;
      axes = λ a l.
          let m : a < s.axes = omega (arith, frame_axes) in
          let n : length (get_or (axes_of (counts_of s) nodes) a []) ≡ get_or s.counts a 0 = length-axis (counts_of s) nodes frame_nodes a l ∙ count_at a m in
          nodes_axis a (get_or (axes_of (counts_of s) nodes) a []) (omega (arith, shape_enough s frame_shape a m)) (omega (arith, shape_few s frame_shape a m))
          (orders.all_passed (λ b. nodes_fault b (get_or (axes_of (counts_of s) nodes) b [])) 0 (length (counts_of s)) k a (omega arith) (omega arith));
    }
