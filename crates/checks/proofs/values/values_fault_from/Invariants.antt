use Prim.Native.Nat.{◌-◌}
use Rattle.answer.specs.Faults.{first_fault}
use Rattle.checks.specs.Numbers.{value_fault}
use lib.ListN.{length}
use Rattle.answer.proofs.Loops as loops
use Rattle.checks.proofs.values.values_fault_from.Given as goal

abbrev pub invariant-loop-i : goal.invariant-loop-i
invariant-loop-i l = loops.Left (value_fault l.values) (first_fault (value_fault l.values) l.from (length l.values - l.from)) l.from (length l.values) l.i
