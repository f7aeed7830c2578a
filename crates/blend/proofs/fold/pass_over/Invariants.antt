use Rattle.std.proofs.Common.{◌≡◌, ◌++◌, drop}
use Rattle.layout.specs.Layout.{tabulate}
use Rattle.blend.proofs.runs.Blends.{run_at}
use Rattle.blend.proofs.fold.pass_over.Given as goal

abbrev pub invariant-loop-i : goal.invariant-loop-i
invariant-loop-i l = l.low ≡ tabulate l.i (run_at l.f l.initial.low l.high) ++ drop l.i l.initial.low
