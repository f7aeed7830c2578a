use Prim.Native.Nat.{◌+◌, ◌-◌}
use Rattle.checks.specs.Numbers.{gap_fault, uniform_fault}
use lib.ListN.{length}
use Rattle.answer.proofs.Loops as loops
use Rattle.checks.proofs.spacing.uniform_fault.Given as goal

abbrev pub invariant-loop-i : goal.invariant-loop-i
invariant-loop-i l = loops.Left (gap_fault l.axis l.grid l.tolerance) (uniform_fault l.axis l.grid l.tolerance) 1 (1 + (length l.grid - 2)) l.i
