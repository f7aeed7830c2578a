-- LinearUniform can refuse 12 on a uniform table at a reading in range, since its fraction can lie above 1: the last gap may be wider than the first, by the
-- tolerance. Nodes 0, 1 and 2 + 2 ^ -42, and the reading on the last node, whose value is the largest number. Assumes nothing.
use mathlib.Core.Path.{◌≡◌, refl}
use mathlib.Core.Bool.{true, false}
use mathlib.Core.List.{List, [], ◌∷◌}
use Prim.Native.Nat.{ℕ, zero, suc, ◌+◌, ◌-◌, ◌^◌, ◌<◌}
use native.Mathlib.Omega.{arith}
use lib.IntN.{pos, negsuc}
use lib.ListN.{length, get_or}
use lib.Ieee.{Float, nan, fin, binary64, fits, lt, eq, le, sub, add, mul, div, to_unsigned}
use lib.Dec.{T}
use lib.Ieee.Scale.{finite}
use Rattle.answer.specs.Faults.{good, refusal, when, ◌or◌, first_fault, no_fault}
use Rattle.answer.specs.Answer.{refused}
use Rattle.binary64.proofs.Held.{Held}
use Rattle.checks.specs.Nodes.{node, gap}
use Rattle.checks.specs.Numbers.{axes_count_fault, count_fault, product_fault, length_fault, finite_fault, rise_fault, node_fault, nodes_fault, axes_fault, value_fault, values_fault, apart, gap_fault, uniform_fault, default_tolerance, axes_uniform_fault}
use Rattle.checks.specs.Shapes.{shape_fault, frame_fault}
use Rattle.layout.specs.Shape.{counts_of, size, total}
use Rattle.layout.specs.Layout.{axes_of, axis_of, strides, place_by, table}
use Rattle.layout.specs.declared.Shape.{Shape}
use Rattle.axis.specs.Uniform.{uniform_index, uniform_cell}
use Rattle.axis.specs.Locations.{uniform_location}
use Rattle.blend.specs.Blend.{blended}
use Rattle.rust.proofs.Located.{rust_linear, corners}
use Rattle.rust.specs.Scaffolding.{passed, butterfly}
use Rattle.ninterp.specs.Linears.{locations, linear_uniform_answer}
use Rattle.ninterp.proofs.Demands.{Accepted, InRange}
use Rattle.ninterp.proofs.LinearDemands.{linear_uniform_refuses}

abbrev pub wide : Shape
wide = record { axes = 1; counts = 3 ∷ 0 ∷ 0 ∷ 0 ∷ [] }

abbrev pub last : Float
last = fin false (2 ^ 43 + 1) (negsuc 41)

abbrev pub nodes : List Float
nodes = fin false 0 (pos 0) ∷ fin false 1 (pos 0) ∷ last ∷ []

abbrev pub values : List Float
values = fin false 0 (pos 0) ∷ fin false 0 (pos 0) ∷ fin false (2 ^ 53 - 1) (pos 971) ∷ []

-- all of them numbers of the format
pub wide_held : Held nodes × Held values × Held (last ∷ [])
unfolding fits
wide_held = (three (fin false 0 (pos 0)) (fin false 1 (pos 0)) last tt tt tt, three (fin false 0 (pos 0)) (fin false 0 (pos 0)) (fin false (2 ^ 53 - 1) (pos 971)) tt tt tt, single)
  where
    three : (x y z : Float) → T (fits binary64 x) → T (fits binary64 y) → T (fits binary64 z) → Held (x ∷ y ∷ z ∷ [])
    three x y z p q r zero = p
    three x y z p q r (suc zero) = q
    three x y z p q r (suc (suc zero)) = r
    three x y z p q r (suc (suc (suc i))) = tt

    single : Held (last ∷ [])
    single zero = tt
    single (suc i) = tt

pub wide_accepted : Accepted wide nodes values
unfolding frame_fault shape_fault axes_count_fault count_fault product_fault length_fault finite_fault rise_fault node_fault nodes_fault axes_fault value_fault values_fault axes_of total size good refusal when ◌or◌ first_fault no_fault sub lt
wide_accepted = record { frame = refl; axes = refl; stored = refl }

pub wide_in_range : InRange wide nodes (last ∷ [])
unfolding axes_of le lt eq
wide_in_range = record { count = refl; finites = finites; low = low; high = high }
  where
    finites : (a : ℕ) → a < 1 → finite (get_or (last ∷ []) a nan) ≡ true
    finites zero l = refl
    finites (suc a) l = absurd (omega arith)

    low : (a : ℕ) → a < 1 → le (node (axis_of wide nodes a) 0) (get_or (last ∷ []) a nan) ≡ true
    low zero l = refl
    low (suc a) l = absurd (omega arith)

    high : (a : ℕ) → a < 1 → le (get_or (last ∷ []) a nan) (node (axis_of wide nodes a) (length (axis_of wide nodes a) - 1)) ≡ true
    high zero l = refl
    high (suc a) l = absurd (omega arith)

pub wide_uniform : good (axes_uniform_fault (counts_of wide) nodes) ≡ true
unfolding axes_uniform_fault uniform_fault gap_fault apart gap default_tolerance axes_of good refusal when ◌or◌ first_fault no_fault sub mul lt
wide_uniform = refl

pub uniform_overflows : linear_uniform_answer wide nodes values (last ∷ []) ≡ refused (refusal 12 0 0)
unfolding rust_linear corners passed butterfly blended locations uniform_location uniform_index uniform_cell gap axes_of table strides place_by size sub mul div add lt to_unsigned
uniform_overflows = linear_uniform_refuses wide nodes values (last ∷ []) wide_accepted wide_in_range wide_uniform refl
