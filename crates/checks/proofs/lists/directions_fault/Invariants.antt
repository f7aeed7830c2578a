use Rattle.checks.specs.Numbers.{direction_fault, directions_fault}
use lib.ListN.{length, get_or}
use Rattle.answer.proofs.Loops as loops
use Rattle.checks.proofs.lists.directions_fault.Given as goal

abbrev pub invariant-loop-a : goal.invariant-loop-a
invariant-loop-a l = loops.Left (λ k. direction_fault k (get_or l.directions k 0)) (directions_fault l.directions) 0 (length l.directions) l.a
