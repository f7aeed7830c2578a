use Rattle.std.proofs.Common.{◌≡◌, ◌++◌, take, drop}
use Rattle.slices.proofs.written.copy_run.Given as goal

abbrev pub invariant-loop-j : goal.invariant-loop-j
invariant-loop-j l = l.to ≡ take l.j l.run ++ drop l.j l.initial.to
