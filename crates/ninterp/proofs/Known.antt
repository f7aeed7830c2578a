-- What a record is answered is 0 or the number of a row of the order for a lookup, which is at most 12. Assumes nothing.
use mathlib.Core.List.{List}
use Prim.Native.Nat.{ℕ, ◌≤◌, ◌<◌}
use native.Mathlib.Omega.{arith}
use lib.Dec.{eqb, lit≤}
use lib.Ieee.{Float}
use Rattle.answer.specs.Faults.{refusal}
use Rattle.answer.specs.Answer.{refused, answered}
use Rattle.answer.specs.declared.Answer.{Answer}
use Rattle.answer.proofs.Numbers.{when_upto, or_upto, first_upto, then_upto}
use Rattle.answer.proofs.Tests.{either}
use Rattle.layout.specs.declared.Shape.{Shape}
use Rattle.checks.specs.Numbers.{axes_count_fault, count_fault, product_fault, length_fault, finite_fault, rise_fault, node_fault, nodes_fault, axes_fault, value_fault, values_fault, gap_fault, uniform_fault, axes_uniform_fault, direction_fault, directions_fault, reading_fault, readings_fault, range_fault, ranges_fault, result_fault}
use Rattle.checks.specs.Shapes.{shape_fault, frame_fault}
use Rattle.orders.specs.Orders.{lookup_fault, step_fault, linear_uniform_fault}
use Rattle.blend.specs.Blend.{computed}
use Rattle.ninterp.specs.Tables.{nearest_answer, step_answer}
use Rattle.ninterp.specs.Linears.{linear_answer, linear_uniform_answer}
use Rattle.ninterp.specs.Records.{all_of, kind_answer, record_fault, record_answer}

ruleset upto = (or_upto, when_upto, first_upto, lit≤)

-- ---- the rows
frame_known : (s : Shape) (nodes values : ℕ) → (frame_fault s nodes values).number ≤ 12
unfolding frame_fault shape_fault axes_count_fault count_fault product_fault length_fault refusal
frame_known s nodes values = search upto depth 9

lent_known : (place wanted lent : ℕ) → (length_fault place wanted lent).number ≤ 12
unfolding length_fault refusal
lent_known place wanted lent = search upto

axes_known : (counts : List ℕ) (nodes : List Float) → (axes_fault counts nodes).number ≤ 12
unfolding axes_fault nodes_fault node_fault finite_fault rise_fault refusal
axes_known counts nodes = search upto depth 9

values_known : (values : List Float) → (values_fault values).number ≤ 12
unfolding values_fault value_fault refusal
values_known values = search upto

uniform_known : (counts : List ℕ) (nodes : List Float) → (axes_uniform_fault counts nodes).number ≤ 12
unfolding axes_uniform_fault uniform_fault gap_fault refusal
uniform_known counts nodes = search upto

directions_known : (directions : List ℕ) → (directions_fault directions).number ≤ 12
unfolding directions_fault direction_fault refusal
directions_known directions = search upto

readings_known : (readings : List Float) → (readings_fault readings).number ≤ 12
unfolding readings_fault reading_fault refusal
readings_known readings = search upto

ranges_known : (counts : List ℕ) (nodes readings : List Float) → (ranges_fault counts nodes readings).number ≤ 12
unfolding ranges_fault range_fault refusal
ranges_known counts nodes readings = search upto

ruleset rows = (or_upto, frame_known, lent_known, axes_known, values_known, uniform_known, directions_known, readings_known, ranges_known)

-- ---- the lookups
computed_known : (x : Float) → (computed x).number ≤ 12
unfolding computed result_fault answered refusal
computed_known x = search (upto, then_upto)

module _ (s : Shape) (nodes values readings : List Float) where
  linear_known : (linear_answer s nodes values readings).number ≤ 12
  unfolding linear_answer lookup_fault
  linear_known = search (rows, then_upto, computed_known) depth 9

  linear_uniform_known : (linear_uniform_answer s nodes values readings).number ≤ 12
  unfolding linear_uniform_answer linear_uniform_fault
  linear_uniform_known = search (rows, then_upto, computed_known) depth 9

  nearest_known : (nearest_answer s nodes values readings).number ≤ 12
  unfolding nearest_answer lookup_fault answered
  nearest_known = search (rows, then_upto, lit≤) depth 9

  step_known : (directions : List ℕ) → (step_answer s nodes values readings directions).number ≤ 12
  unfolding step_answer step_fault answered
  step_known directions = search (rows, then_upto, lit≤) depth 10

  kind_known : (kind : ℕ) → (kind_answer kind s nodes values readings).number ≤ 12
  unfolding kind_answer refused refusal
  kind_known kind =
      either Known (eqb kind 0) _ _ linear_known
      (either Known (eqb kind 1) _ _ linear_uniform_known
      (either Known (eqb kind 2) _ _ nearest_known
      (either Known (eqb kind 3) _ _ (step_known (all_of s 0))
      (either Known (eqb kind 4) _ _ (step_known (all_of s 1)) (omega arith)))))
    where
      Known : Answer → Type 0
      Known a = a.number ≤ 12

-- ---- a record
pub number_known : (s : Shape) (nodes values : List Float) (rec : List ℕ) → (record_answer s nodes values rec).number < 21
unfolding record_answer record_fault
number_known s nodes values rec = omega (arith, most)
  where
    most : (record_answer s nodes values rec).number ≤ 12
    most = search (rows, then_upto, kind_known) depth 9
