use lib.ListN.{get_or}
use Rattle.answer.proofs.Loops as loops
use Rattle.checks.specs.Numbers.{count_fault, counts_fault}
use Rattle.checks.proofs.shapes.counts_fault.Given as goal

abbrev pub invariant-loop-a : goal.invariant-loop-a
invariant-loop-a l = loops.Left (λ k. count_fault k (get_or l.fn.shape.counts k 0)) (counts_fault l.fn.shape) 0 l.fn.shape.axes l.a
