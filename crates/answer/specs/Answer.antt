-- "An answer holds a number, axis, place and value": made of a fault or of a value.
use Rattle.std.specs.Prelude.{false, cond, pos, Float}
use Rattle.std.specs.Float.{fin}
use Rattle.answer.specs.Faults.{Fault, good}
use Rattle.answer.specs.declared.Answer.{Answer}

-- +0.0
abbrev pub plus_zero : Float
plus_zero = fin false 0 (pos 0)

-- "A refusal has value +0.0"
unfoldable pub refused : Fault → Answer
refused f = record { number = f.number; axis = f.axis; place = f.place; value = plus_zero }

-- "Success is 0, 0, 0 and the value"
unfoldable pub answered : Float → Answer
answered value = record { number = 0; axis = 0; place = 0; value = value }

-- "(+0.0 where a call gives none)"
unfoldable pub fine : Answer
fine = answered plus_zero

-- what a call answers: the fault that its checks find, else what follows
infixr 15 ◌then◌
unfoldable pub ◌then◌ : Fault → Answer → Answer
f then a = cond (good f) a (refused f)
