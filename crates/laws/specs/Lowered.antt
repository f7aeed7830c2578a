-- How a slice's answer is numbered beside the whole table's.
use Rattle.std.specs.Prelude.{◌&&◌, ◌||◌, cond, ℕ, ◌-◌, ltb, eqb}
use Rattle.answer.specs.Faults.{Fault}
use Rattle.answer.specs.declared.Answer.{Answer}

-- demand 3: "axes in 10 and 11 one lower", those above the removed one
unfoldable pub lowered_axis : ℕ → ℕ → ℕ → ℕ
lowered_axis k number axis = cond ((eqb number 10 || eqb number 11) && ltb k axis) (axis - 1) axis

-- the whole answer so
unfoldable pub lowered : ℕ → Answer → Answer
lowered k a = record { number = a.number; axis = lowered_axis k a.number a.axis; place = a.place; value = a.value }

-- the same of the fault that an answer is made of
unfoldable pub lowered_fault : ℕ → Fault → Fault
lowered_fault k f = record { number = f.number; axis = lowered_axis k f.number f.axis; place = f.place }
