use Prim.Native.Nat.{◌*◌}
use lib.ListN.{length}
use Rattle.answer.proofs.Loops as loops
use Rattle.checks.specs.Numbers.{value_fault, values_fault}
use Rattle.checks.proofs.values.values_fault.Given as goal

abbrev pub invariant-loop-k : goal.invariant-loop-k
invariant-loop-k l = loops.Left (value_fault l.values) (values_fault l.values) 0 (length l.values) (8 * l.k)
