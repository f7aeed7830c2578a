use Rattle.std.proofs.Common.{◌+◌, length}
use Rattle.image.specs.Scaffolding.{shared_row, later_row}
use Rattle.answer.proofs.Loops as loops
use Rattle.image.proofs.areas.later_fault.Given as goal

abbrev pub invariant-loop-j : goal.invariant-loop-j
invariant-loop-j l = loops.Left (shared_row l.areas l.i) (later_row l.areas l.i) (l.i + 1) (length l.areas) l.j
