-- An accepted table of two axes: the square of the bench cases, nodes 0 and 1 twice, values 0, 1, 2, 3. Assumes nothing.
use mathlib.Core.Path.{◌≡◌, refl}
use mathlib.Core.Bool.{false, true}
use mathlib.Core.List.{List, [], ◌∷◌}
use Prim.Native.Nat.{zero, suc}
use lib.Dec.{T}
use lib.IntN.{pos}
use lib.Ieee.{Float, fin, binary64, fits, sub, lt}
use Rattle.answer.specs.Faults.{refusal, no_fault, good, when, ◌or◌, first_fault}
use Rattle.binary64.proofs.Held.{Held}
use Rattle.checks.specs.Numbers.{axes_count_fault, count_fault, product_fault, length_fault, finite_fault, rise_fault, node_fault, nodes_fault, axes_fault, value_fault, values_fault, uniform_fault, axes_uniform_fault}
use Rattle.checks.specs.Shapes.{shape_fault, frame_fault}
use Rattle.layout.specs.Shape.{counts_of, size, total}
use Rattle.layout.specs.Layout.{axes_of}
use Rattle.layout.specs.declared.Shape.{Shape}
use Rattle.ninterp.proofs.Demands.{Accepted}
use Rattle.laws.specs.Calls.{Table}
use Rattle.laws.specs.Promises.{TwoAxes}
use Rattle.laws.proofs.Premises.{accepted, uniform}

abbrev shape : Shape
shape = record { axes = 2; counts = 2 ∷ 2 ∷ 0 ∷ 0 ∷ [] }

abbrev nodes : List Float
nodes = fin false 0 (pos 0) ∷ fin false 1 (pos 0) ∷ fin false 0 (pos 0) ∷ fin false 1 (pos 0) ∷ []

abbrev values : List Float
values = fin false 0 (pos 0) ∷ fin false 1 (pos 0) ∷ fin false 1 (pos 1) ∷ fin false 3 (pos 0) ∷ []

held : Held nodes × Held values
unfolding fits
held = (four (fin false 0 (pos 0)) (fin false 1 (pos 0)) (fin false 0 (pos 0)) (fin false 1 (pos 0)) tt tt tt tt, four (fin false 0 (pos 0)) (fin false 1 (pos 0)) (fin false 1 (pos 1)) (fin false 3 (pos 0)) tt tt tt tt)
  where
    four : (x y z w : Float) → T (fits binary64 x) → T (fits binary64 y) → T (fits binary64 z) → T (fits binary64 w) → Held (x ∷ y ∷ z ∷ w ∷ [])
    four x y z w p q r s zero = p
    four x y z w p q r s (suc zero) = q
    four x y z w p q r s (suc (suc zero)) = r
    four x y z w p q r s (suc (suc (suc zero))) = s
    four x y z w p q r s (suc (suc (suc (suc i)))) = tt

passed : Accepted shape nodes values
unfolding frame_fault shape_fault axes_count_fault count_fault product_fault length_fault finite_fault rise_fault node_fault nodes_fault axes_fault value_fault values_fault axes_of total size good refusal when ◌or◌ first_fault no_fault sub lt
passed = record { frame = refl; axes = refl; stored = refl }

abbrev square : Table
square = record { shape = shape; four = refl; nodes = record { list = nodes; held = held.0 }; values = record { list = values; held = held.1 } }

uniform_rows : good (axes_uniform_fault (counts_of shape) nodes) ≡ true
unfolding axes_uniform_fault uniform_fault axes_of good refusal when ◌or◌ first_fault no_fault
uniform_rows = refl

pub two_axes : TwoAxes
two_axes = record { t = square; two = refl; accepted = accepted square passed; uniform = uniform square (accepted square passed) uniform_rows }
