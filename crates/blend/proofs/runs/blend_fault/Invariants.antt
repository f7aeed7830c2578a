use Rattle.answer.specs.Faults.{first_fault}
use Rattle.answer.proofs.Loops as loops
use Rattle.blend.proofs.runs.Blends.{run_fault}
use Rattle.blend.proofs.runs.blend_fault.Given as goal

abbrev pub invariant-loop-i : goal.invariant-loop-i
invariant-loop-i l = loops.Left (run_fault l.f l.low l.high) (first_fault (run_fault l.f l.low l.high) 0 l.count) 0 l.count l.i
