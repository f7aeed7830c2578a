-- "A slice removes one axis": the slices of Nearest and Step on any axis, and what they answer and write for every input.
use Rattle.std.specs.Prelude.{List, ℕ, ◌-◌, length, get_or, Float}
use Rattle.answer.specs.Faults.{Fault, given, filled_into}
use Rattle.answer.specs.Answer.{fine, ◌then◌}
use Rattle.layout.specs.Shape.{counts_of, no_shape}
use Rattle.layout.specs.Layout.{tabulate, without, slice_values, axis_of}
use Rattle.layout.specs.declared.Shape.{Shape}
use Rattle.orders.specs.Orders.{nearest_slice_fault, step_slice_fault}
use Rattle.axis.specs.Picks.{nearest_rule, step_rule}
use Rattle.slices.specs.declared.SliceAnswer.{SliceAnswer}

-- "the other axes .. stay, in their order": the shape of what is left, its unused counts zero
unfoldable pub shape_without : Shape → ℕ → Shape
shape_without s axis = record { axes = s.axes - 1; counts = tabulate 4 (λ a. get_or (without axis (counts_of s)) a 0) }

-- what a slice answers: its fault, or success and the new shape; "any .. shape it would give is zero" on a refusal
unfoldable pub slice_answer : Fault → Shape → ℕ → SliceAnswer
slice_answer f s axis = record { answer = f then fine; shape = given f (shape_without s axis) no_shape }

-- "Each of its values is what the same rule gives along that axis alone."
unfoldable pub rule_slice : (ℕ → List Float → Float → ℕ) → Shape → List Float → List Float → ℕ → Float → List Float
rule_slice rule s nodes values axis p = slice_values axis (rule axis (axis_of s nodes axis) p) (counts_of s) values

-- what the slice by Nearest answers, given so much room, and what its output holds afterwards
unfoldable pub nearest_slice : Shape → List Float → List Float → ℕ → Float → ℕ → SliceAnswer
nearest_slice s nodes values axis p room = slice_answer (nearest_slice_fault s nodes values axis p room) s axis

unfoldable pub nearest_sliced : Shape → List Float → List Float → ℕ → Float → List Float → List Float
nearest_sliced s nodes values axis p out = filled_into (nearest_slice_fault s nodes values axis p (length out)) (rule_slice nearest_rule s nodes values axis p) out

-- the same by Step
unfoldable pub step_slice : Shape → List Float → List Float → List ℕ → ℕ → Float → ℕ → SliceAnswer
step_slice s nodes values directions axis p room = slice_answer (step_slice_fault s nodes values directions axis p room) s axis

unfoldable pub step_sliced : Shape → List Float → List Float → List ℕ → ℕ → Float → List Float → List Float
step_sliced s nodes values directions axis p out =
    filled_into (step_slice_fault s nodes values directions axis p (length out)) (rule_slice (step_rule directions) s nodes values axis p) out
