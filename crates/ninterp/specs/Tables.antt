-- "The table rules", of the two that never compute a value, and what a lookup by them answers for every input.
use Rattle.std.specs.Prelude.{List, [], ℕ, length, get_or, Float}
use Rattle.std.specs.Float.{nan}
use Rattle.answer.specs.Answer.{answered, ◌then◌}
use Rattle.answer.specs.declared.Answer.{Answer}
use Rattle.layout.specs.Shape.{counts_of}
use Rattle.layout.specs.Layout.{axes_of, table, tabulate}
use Rattle.layout.specs.declared.Shape.{Shape}
use Rattle.orders.specs.Orders.{lookup_fault, step_fault}
use Rattle.axis.specs.Picks.{nearest_rule, step_rule}

-- a rule gives each axis an index, from the axis's number, its nodes and its reading: the stored value there
unfoldable pub indices : (ℕ → List Float → Float → ℕ) → List (List Float) → List Float → List ℕ
indices rule axes readings = tabulate (length axes) (λ a. rule a (get_or axes a []) (get_or readings a nan))

-- "the stored value" at those indices
unfoldable pub picked : (ℕ → List Float → Float → ℕ) → List ℕ → List Float → List Float → List Float → Float
picked rule counts nodes values readings = table counts values (indices rule (axes_of counts nodes) readings)

-- the lookup by Nearest: its checks, then the stored value at the nearest node of each axis
unfoldable pub nearest_answer : Shape → List Float → List Float → List Float → Answer
nearest_answer s nodes values readings = lookup_fault s nodes values readings then answered (picked nearest_rule (counts_of s) nodes values readings)

-- the lookup by Step: its checks, then the stored value at the step index of each axis
unfoldable pub step_answer : Shape → List Float → List Float → List Float → List ℕ → Answer
step_answer s nodes values readings directions = step_fault s nodes values readings directions then answered (picked (step_rule directions) (counts_of s) nodes values readings)
