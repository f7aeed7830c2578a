use Rattle.std.proofs.Common.{length}
use Rattle.answer.specs.Faults.{first_fault}
use Rattle.image.specs.Scaffolding.{later_row}
use Rattle.answer.proofs.Loops as loops
use Rattle.image.proofs.areas.pairs_fault.Given as goal

abbrev pub invariant-loop-i : goal.invariant-loop-i
invariant-loop-i l = loops.Left (later_row l.areas) (first_fault (later_row l.areas) 0 (length l.areas)) 0 (length l.areas) l.i
