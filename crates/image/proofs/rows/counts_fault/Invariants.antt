use Rattle.answer.specs.Faults.{first_fault}
use Rattle.image.specs.Head.{count_row}
use Rattle.answer.proofs.Loops as loops
use Rattle.image.proofs.rows.counts_fault.Given as goal

abbrev pub invariant-loop-a : goal.invariant-loop-a
invariant-loop-a l = loops.Left (count_row l.img) (first_fault (count_row l.img) 0 4) 0 4 l.a
