use Rattle.std.proofs.Common.{length}
use Rattle.answer.specs.Faults.{first_fault}
use Rattle.image.specs.Scaffolding.{alone_row}
use Rattle.answer.proofs.Loops as loops
use Rattle.image.proofs.areas.areas_fault.Given as goal

abbrev pub invariant-loop-k : goal.invariant-loop-k
invariant-loop-k l = loops.Left (alone_row l.len l.areas) (first_fault (alone_row l.len l.areas) 0 (length l.areas)) 0 (length l.areas) l.k
