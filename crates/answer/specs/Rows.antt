-- The rows of the table of numbers by their names, and the fault that a check gives.
use Rattle.std.specs.Prelude.{ℕ, Result, Ok, Err}
use Rattle.answer.specs.Faults.{Fault, refusal, no_fault}
use Rattle.answer.specs.declared.Row.{Row}
use Rattle.answer.specs.declared.Row.TheVariants.{Axes, Count, Length, Node, Rise, Difference, Value, Uniform, Direction, Reading, Range, Computed, Header, Area, Room, Slice, Limit, Overlap}
use Rattle.answer.specs.declared.Refusal.{Refusal}

-- the number of a row
abbrev pub number_of : Row → ℕ
number_of Axes = 1
number_of Count = 2
number_of Length = 3
number_of Node = 4
number_of Rise = 5
number_of Difference = 6
number_of Value = 7
number_of Uniform = 8
number_of Direction = 9
number_of Reading = 10
number_of Range = 11
number_of Computed = 12
number_of Header = 13
number_of Area = 14
number_of Room = 15
number_of Slice = 16
number_of Limit = 17
number_of Overlap = 18

-- a refusal in numbers
unfoldable pub fault_of : Refusal → Fault
fault_of r = refusal (number_of r.row) r.axis r.place

-- the fault that a check gives: none where it passes
unfoldable pub said : {A : Type 0} → Result A Refusal → Fault
said (Ok x) = no_fault
said (Err r) = fault_of r
