use Rattle.checks.specs.Numbers.{reading_fault, readings_fault}
use lib.Ieee.{nan}
use lib.ListN.{length, get_or}
use Rattle.answer.proofs.Loops as loops
use Rattle.checks.proofs.lists.readings_fault.Given as goal

abbrev pub invariant-loop-a : goal.invariant-loop-a
invariant-loop-a l = loops.Left (λ k. reading_fault k (get_or l.readings k nan)) (readings_fault l.readings) 0 (length l.readings) l.a
